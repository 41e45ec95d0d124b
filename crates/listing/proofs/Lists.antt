-- The lists of an interval, of the intervals in turn and of the tree's maximal chains in turn are the days listed locally.
use mathlib.Core.{Path.◌≡◌, Path.sym, Path.ap, Path.◌∙◌, Bool.Bool, Bool.true, Bool.false, List.List, List.[], List.◌++◌, List.append-nil}
use Rattle.std.proofs.Common.{ℕ, suc, pred, ◌+◌, ◌-◌, ◌*◌, ◌/◌, ◌%◌, ◌^◌, ◌<◌, ◌≤◌, eq-eqb, ne_eqb}
use native.Mathlib.{Nat.pow-succ', Nat.suc-mul, Nat.div-mul-le_self, Decide.ℕ_discrete, Numerals.add-one, Omega.arith}
use lib.{ListN.length, Pow.shr-shr}
use Rattle.lists.specs.Lists.{keep}
use Rattle.evidence.specs.Evidence.{days}
use Rattle.lists.proofs.Laws.{and_both, length-up_from}
use Rattle.layouts.specs.Layouts.{divides, lg, tile, last_days}
use Rattle.layouts.proofs.AllowedLaws.{allowed_n_is}
use Rattle.acceptance.specs.Private.{Table, Interval, Chain, passes, levels_rule, rules, blocks_rule, tile_bit, number, is_listed}
use Rattle.listing.specs.Private.{Tile, bit_of, tile_days, tree_days, top_days}
use Rattle.buffers.specs.Private.{Wrote}
use Rattle.acceptance.proofs.{Listed.number_small, Runs.keep_length, Runs.div_whole, Steps.interval_room, Steps.interval_number, Steps.interval_end, Steps.chain_of_lem}
use Rattle.listing.proofs.Tiles.{tile_congr, number_bits}
use Rattle.listing.proofs.Walks.{tile_none, tile_days_lem, days_of_tree, days_block}
use Rattle.buffers.proofs.Writes.{wrote_length, wrote_join}

-- ---- an interval

pub tile_whole : (n g : ℕ) (t : List ℕ) {r : Bool} → Interval 2 n g t → r ≡ passes 2 n t (tile 0 g) → r ≡ true → keep (is_listed 2 n t) (last_days n g) ≡ []
tile_whole n g t h e f =
    let q = interval_number h in
    rw q at (tile_none n (pred (g / n)) t (rw q (sym e ∙ f)))

module _ (n g : ℕ) (t : List ℕ) {k m : ℕ} (h : Interval 2 n g t) (z : k ≡ lg n) (u : m ≡ number (tile_bit n t g) (lg n)) where
  pub tile_failed : {r : Bool} → r ≡ passes 2 n t (tile 0 g) → r ≡ false → keep (is_listed 2 n t) (last_days n g) ≡ tile_days (bit_of m) k (g - n + 1)
  tile_failed e f =
      let q = interval_number h in
      let b : g - n + 1 ≡ suc (g - n) = omega arith in
      rw (b, z, u) (rw q at (tile_days_lem n (pred (g / n)) t (allowed_n_is n h.has.n_ok) (rw q (sym e ∙ f))) ∙
      tile_congr (tile_bit n t g) (bit_of (number (tile_bit n t g) (lg n))) (lg n) (suc (g - n)) (λ j l. sym (number_bits (tile_bit n t g) (lg n) j l)))

  pub tile_start : (at size : ℕ) → at + n ≤ size → Tile k (g - n + 1) m × (at + 2 ^ k ≤ size)
  tile_start at size l =
      let q = interval_room h in
      let w = allowed_n_is n h.has.n_ok in
      let p : 2 ^ k ≡ n = rw z (sym w.power) in
      let s : m < 2 ^ k = rw (u, z) (number_small (tile_bit n t g) (lg n)) in
      (record { level = omega (arith, w.small); number = s; fits = omega (arith, h.has.most) }, omega arith)

-- ---- the intervals in turn

kept_within : (p : ℕ → Bool) (d : ℕ) → length (keep p (days d)) ≤ d
kept_within p d = let a = keep_length p (days d) in let b = length-up_from 1 d in omega arith

pub so_far_length : (p : ℕ → Bool) (x d r : ℕ) (l m : List ℕ) → x ≤ d → d ≤ length l → Wrote 0 (keep p (days x)) l r m → length m ≡ length l
so_far_length p x d r l m a b u = let c = kept_within p x in wrote_length 0 r (keep p (days x)) l m u (omega arith)

pub so_far_place : (p : ℕ → Bool) (x r : ℕ) (l m : List ℕ) → Wrote 0 (keep p (days x)) l r m → r ≤ x
so_far_place p x r l m u = let c = kept_within p x in omega (arith, u.count)

pub next_place : (p : ℕ → Bool) (n d k r : ℕ) (l m : List ℕ) → 1 ≤ k → k ≤ d / n → d ≤ length l → Wrote 0 (keep p (days ((k - 1) * n))) l r m → r + n ≤ length m
next_place p n d k r l m o a b u =
    let c = interval_end n d k a in
    let i : suc (k - 1) ≡ k = omega arith in
    let e : k * n ≡ (k - 1) * n + n = ap (λ x. x * n) (sym i) ∙ suc-mul (k - 1) n in
    let f = so_far_length p ((k - 1) * n) d r l m (omega arith) b u in
    let g = so_far_place p ((k - 1) * n) r l m u in
    omega arith

pub next_interval : (p : ℕ → Bool) (n d k b r : ℕ) (l m y : List ℕ) → 1 ≤ k → k ≤ d / n → d ≤ length l → Wrote 0 (keep p (days ((k - 1) * n))) l b m → Wrote b (keep p (last_days n (k * n))) m r y →
    Wrote 0 (keep p (days ((k + 1 - 1) * n))) l r y
next_interval p n d k b r l m y o a h u v =
    let c = interval_end n d k a in
    let i : suc (k - 1) ≡ k = omega arith in
    let e : k + 1 - 1 ≡ k = omega arith in
    let f = kept_within p (k * n) in
    rw e (wrote_join 0 (keep p (days (k * n))) (keep p (days ((k - 1) * n))) (keep p (last_days n (k * n))) l m y b r (rw i at (days_block p n (k - 1))) (omega arith) u v)

pub all_intervals : (p : ℕ → Bool) (n d k r : ℕ) (l m : List ℕ) → divides n d ≡ true → k ≤ d / n → d / n ≤ k → Wrote 0 (keep p (days (k * n))) l r m → Wrote 0 (keep p (days d)) l r m
all_intervals p n d k r l m w a b u = let e : k ≡ d / n = omega arith in rw (e, div_whole n d w) at u

-- ---- the tree's maximal chains in turn

-- the chains of level l and above make up the days through d / 2^l * 2^l
odd_even : (d l : ℕ) → d / 2 ^ l ≡ d / 2 ^ suc l + d / 2 ^ suc l + d / 2 ^ l % 2
odd_even d l = let b : d / 2 ^ l / 2 ≡ d / 2 ^ suc l = shr-shr d l 1 ∙ rw add-one in omega arith

twice : (q l : ℕ) → (q + q) * 2 ^ l ≡ q * 2 ^ suc l
twice q l = rw (pow-succ' 2 l) (omega arith)

top_even : (d l : ℕ) → d / 2 ^ l % 2 ≡ 0 → d / 2 ^ l * 2 ^ l ≡ d / 2 ^ suc l * 2 ^ suc l
top_even d l z = let o = odd_even d l in let e : d / 2 ^ l ≡ d / 2 ^ suc l + d / 2 ^ suc l = omega arith in rw e (twice (d / 2 ^ suc l) l)

top_odd : (d l : ℕ) → (d / 2 ^ l % 2 ≡ 0 → ⊥) → d / 2 ^ l ≡ suc (d / 2 ^ suc l + d / 2 ^ suc l)
top_odd d l z = let o = odd_even d l in omega arith

top_end : (d l : ℕ) → (d / 2 ^ l % 2 ≡ 0 → ⊥) → d / 2 ^ l * 2 ^ l ≡ d / 2 ^ suc l * 2 ^ suc l + 2 ^ l
top_end d l z = rw (top_odd d l z, suc-mul, twice)

module _ (n d : ℕ) (t : List ℕ) (small : d ≤ 65536) (r : levels_rule n d t ≡ true) (l : ℕ) where
  top_step : keep (is_listed 3 n t) (days (d / 2 ^ l * 2 ^ l)) ≡ keep (is_listed 3 n t) (days (d / 2 ^ suc l * 2 ^ suc l)) ++ top_days n d t l
  unfolding top_days
  top_step = elim (ℕ_discrete (d / 2 ^ l % 2) 0) [
    | yes z ↦ rw (eq-eqb (d / 2 ^ l % 2) 0 z, top_even d l z) (sym (append-nil (keep (is_listed 3 n t) (days (d / 2 ^ suc l * 2 ^ suc l)))))
    | no z ↦ let q = d / 2 ^ suc l in
        let o : d / 2 ^ l ≡ suc (q + q) = top_odd d l z in
        let c : suc (q + q) * 2 ^ l ≤ d = rw o at (div-mul-le_self d (2 ^ l)) in
        rw (ne_eqb (d / 2 ^ l % 2) 0 z, o) (days_block (is_listed 3 n t) (2 ^ l) (q + q) ∙ rw (twice q l, days_of_tree n d t small r l (q + q) c))
  ]

-- one level
pub top_none : (n d l w : ℕ) (t : List ℕ) → w ≡ 2 ^ l → d / w % 2 ≡ 0 → top_days n d t l ≡ []
unfolding top_days
top_none n d l w t e z = let f : d / 2 ^ l % 2 ≡ 0 = rw e at z in rw (eq-eqb (d / 2 ^ l % 2) 0 f)

pub top_chain : (n d l w : ℕ) (t : List ℕ) → w ≡ 2 ^ l → (d / w % 2 ≡ 0 → ⊥) → top_days n d t l ≡ tree_days n t l (d / w * w)
unfolding top_days
top_chain n d l w t e z = rw e (let f : d / 2 ^ l % 2 ≡ 0 → ⊥ = rw e at z in rw (ne_eqb (d / 2 ^ l % 2) 0 f))

pub top_walk : (n d l w at : ℕ) (t k : List ℕ) → Table 3 n d t → l ≤ 16 → w ≡ 2 ^ l → (d / w % 2 ≡ 0 → ⊥) → d ≤ length k → at ≤ d / 2 ^ suc l * 2 ^ suc l →
    Chain n l (d / w * w) t × (at + 2 ^ l ≤ length k)
top_walk n d l w at t k T h e z b c =
    let f : d / 2 ^ l % 2 ≡ 0 → ⊥ = rw e at z in
    let o = top_odd d l f in
    let g = top_end d l f in
    let u : d / 2 ^ l * 2 ^ l ≤ d = div-mul-le_self d (2 ^ l) in
    let v : 1 ≤ d / w = rw e (omega arith) in
    (chain_of_lem (d / w) T e h v (omega arith), omega arith)

pub level_place : (p : ℕ → Bool) (d l r : ℕ) (k m : List ℕ) → 0 < l → d ≤ length k → Wrote 0 (keep p (days (d / 2 ^ l * 2 ^ l))) k r m →
    (d ≤ length m) × (r ≤ d / 2 ^ suc (l - 1) * 2 ^ suc (l - 1))
level_place p d l r k m a b u =
    let e : suc (l - 1) ≡ l = omega arith in
    let f = so_far_length p (d / 2 ^ l * 2 ^ l) d r k m (div-mul-le_self d (2 ^ l)) b u in
    let g = so_far_place p (d / 2 ^ l * 2 ^ l) r k m u in
    rw e (omega arith)

pub next_level : (n d : ℕ) (t : List ℕ) → d ≤ 65536 → levels_rule n d t ≡ true → (l b r : ℕ) (k m y : List ℕ) → 0 < l → d ≤ length k →
    Wrote 0 (keep (is_listed 3 n t) (days (d / 2 ^ l * 2 ^ l))) k b m → Wrote b (top_days n d t (l - 1)) m r y → Wrote 0 (keep (is_listed 3 n t) (days (d / 2 ^ (l - 1) * 2 ^ (l - 1)))) k r y
next_level n d t small h l b r k m y a c u v =
    let e : suc (l - 1) ≡ l = omega arith in
    let f : d / 2 ^ (l - 1) * 2 ^ (l - 1) ≤ d = div-mul-le_self d (2 ^ (l - 1)) in
    let g = kept_within (is_listed 3 n t) (d / 2 ^ (l - 1) * 2 ^ (l - 1)) in
    let q = top_step n d t small h (l - 1) in
    wrote_join 0 (keep (is_listed 3 n t) (days (d / 2 ^ (l - 1) * 2 ^ (l - 1)))) (keep (is_listed 3 n t) (days (d / 2 ^ l * 2 ^ l))) (top_days n d t (l - 1)) k m y b r
    (rw e at q) (omega arith) u v

pub rules_levels : (s n d : ℕ) (t : List ℕ) → s ≡ 3 → rules s n d t ≡ true → levels_rule n d t ≡ true
unfolding rules
rules_levels s n d t e r = (and_both (blocks_rule 3 n d t) (levels_rule n d t) (rw e at r)).1
