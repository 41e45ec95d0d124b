-- A tile by bits: a chain passes exactly if its bit is 1 in each offset of the set, and each bit that is not doubles the
-- days listed.
use mathlib.Core.{Path.◌≡◌, Path.refl, Path.sym, Path.ap, Path.◌∙◌, Logic.inl, Logic.inr}
use mathlib.Core.Bool.{Bool, true, false, not, cond}
use mathlib.Core.List.{List, [], ◌∷◌, map}
use Prim.Native.Nat.{ℕ, zero, suc, pred, ◌+◌, ◌-◌, ◌*◌, ◌/◌, ◌%◌, ◌^◌, ◌≤◌, ◌<◌}
use native.Mathlib.{Nat.pow-succ', Omega.arith}
use lib.{Dec.eqb, ListN.length, ListN.length-append, ListN.length-map}
use borrow.Author.Tests.{ne_eqb, not-true, not-false}
use Rattle.lists.specs.Lists.{every, keep, up_from}
use Rattle.lists.proofs.Laws.{split, bool_ext, has_mem, mem_has, keep_mem, mem_keep, keep_congr, every_not, every_fails}
use Rattle.lists.proofs.Laws.{is_in, ascends_keep, ascends_later, up_from_ascends, keep_keep, every_congr, every_map}
use Rattle.evidence.specs.Evidence.{days, Within, meets, set_outcome, table_of, Gives, listing}
use Rattle.evidence.proofs.TableLaws.{meets_of, meets_day}
use Rattle.layouts.specs.Layouts.{divides, lg, tile, last_days, offset, covers, covered_days, chains, layout_refusal}
use Rattle.layouts.proofs.Coverage.{divisor_le}
use Rattle.layouts.proofs.AllowedLaws.{Power, allowed_n_is, allowed_d_is, divides_factor, layout_is}
use Rattle.acceptance.specs.Private.{Table, Bits, passes, tile_bit, is_listed}
use Rattle.acceptance.proofs.{Runs.last_days_bounds, Lookup.Block, Lookup.gives_passes, Lookup.tile_named, Given.given_rules}
use Rattle.acceptance.proofs.{Listed.block_number, Accepted.listing_is_listed}
use Rattle.listing.specs.Private.{tile_days}
use Rattle.listing.proofs.Walks.{tile_days_lem}
use Rattle.tile_laws.specs.Tiles.{in_tile, offsets_in, bit_is1, passes_by_bits, ChainsByBits, FailedTileLists}

-- ---- which chains pass

-- a bit is 1 exactly if it is not 0
bit_not : (x : ℕ) → eqb (x % 2) 1 ≡ not (eqb (x % 2) 0)
bit_not x = go (x % 2) (omega arith)
  where
    go : (b : ℕ) → b < 2 → eqb b 1 ≡ not (eqb b 0)
    go zero l = refl
    go (suc zero) l = refl
    go (suc (suc b)) l = absurd (omega arith)

uncovered : (n i o : ℕ) → bit_is1 (n / 2 ^ suc i) o ≡ not (covers n (suc i) o)
uncovered n i o = bit_not (o / (n / 2 ^ suc i))

-- a day, by its offset, is covered by c(i), or is not
abbrev tested : ℕ → ℕ → ℕ → Bool
tested n i x = covers n i (offset n x)

abbrev missed : ℕ → ℕ → ℕ → Bool
missed n i x = not (tested n i x)

meets_tile : (n i g : ℕ) (S : List ℕ) → meets S (covered_days n (tile i g)) ≡ not (every (missed n i) (in_tile n g S))
meets_tile n i g S = bool_ext (meets S c) (not (every (missed n i) (in_tile n g S)))
    (λ e.
    let m = meets_day S c e in
    let k = keep_mem (tested n i) (last_days n g) m.0 m.1 in
    ap not (every_fails (missed n i) (in_tile n g S) m.0 (mem_keep (is_in (last_days n g)) S m.0 m.2 (mem_has k.0)) (ap not k.1)))
    (λ e.
    let r = every_not (missed n i) (in_tile n g S) (not-true (every (missed n i) (in_tile n g S)) e) in
    let k = keep_mem (is_in (last_days n g)) S r.0 r.1 in
    meets_of S c r.0 (mem_keep (tested n i) (last_days n g) r.0 (has_mem r.0 (last_days n g) k.1) (not-false (tested n i r.0) r.2)) k.0)
  where
    c : List ℕ
    c = covered_days n (tile i g)

-- c(0) covers every day of the tile
none_missed : (xs : List ℕ) → every (λ x. false) xs ≡ eqb (length xs) 0
none_missed [] = refl
none_missed (x ∷ xs) = sym (ne_eqb (suc (length xs)) 0 (λ e. absurd (omega arith)))

by_bits : (n i g : ℕ) (S : List ℕ) → every (missed n i) (in_tile n g S) ≡ passes_by_bits n i (offsets_in n g S)
by_bits n zero g S = none_missed (in_tile n g S) ∙ ap (λ k. eqb k 0) (sym (length-map (in_tile n g S) (offset n)))
by_bits n (suc i) g S = sym (every_map (bit_is1 (n / 2 ^ suc i)) (offset n) (in_tile n g S) ∙
    every_congr (λ x. bit_is1 (n / 2 ^ suc i) (offset n x)) (missed n (suc i)) (in_tile n g S) (λ x. uncovered n i (offset n x)))

-- the set leaves c(i) alone exactly if the bits say so
pub met_by_bits : (n i g : ℕ) (S : List ℕ) → meets S (covered_days n (tile i g)) ≡ not (passes_by_bits n i (offsets_in n g S))
met_by_bits n i g S = meets_tile n i g S ∙ ap not (by_bits n i g S)

pub chains_by_bits : ChainsByBits
chains_by_bits n i g S =
    ap (λ b. cond b 0 1) (met_by_bits n i g S) ∙ elim (passes_by_bits n i (offsets_in n g S)) as (λ b. ◌≡◌ {A = ℕ} (cond (not b) 0 1) (cond b 1 0)) [ true ↦ refl | false ↦ refl ]

-- ---- how many days are listed

-- of the numbers below l, those at which p is false
abbrev pub zeros : (ℕ → Bool) → ℕ → ℕ
zeros p zero = 0
zeros p (suc l) = cond (p l) 0 1 + zeros p l

pub zeros_congr : (p q : ℕ → Bool) (l : ℕ) → ((j : ℕ) → j < l → p j ≡ q j) → zeros p l ≡ zeros q l
zeros_congr p q zero f = refl
zeros_congr p q (suc l) f = rw (f l (omega arith), zeros_congr p q l (λ j h. f j (omega arith)))

-- counted from the highest bit down
zeros_down : (r : ℕ → Bool) (k l : ℕ) → l ≤ k → zeros (λ j. r (k - j)) l ≡ length (keep (λ i. not (r i)) (up_from (suc (k - l)) l))
zeros_down r k zero h = refl
zeros_down r k (suc l) h =
    let e : suc (k - suc l) ≡ k - l = omega arith in
    rw (e, zeros_down r k l (omega arith)) (elim (split (r (k - l))) [ inl q ↦ rw q (omega arith) | inr q ↦ rw q (omega arith) ])

tile_size : (p : ℕ → Bool) (l day : ℕ) → length (tile_days p l day) ≡ 2 ^ zeros p l
unfolding tile_days
tile_size p zero day = refl
tile_size p (suc l) day =
    let x = tile_size p l day in
    let y = tile_size p l (day + 2 ^ l) in
    elim (split (p l)) [
      | inl e ↦ rw e (y ∙ ap (λ k. 2 ^ k) (omega arith))
      | inr e ↦ rw e (length-append (tile_days p l day) (tile_days p l (day + 2 ^ l)) ∙
          (let q : 2 ^ (1 + zeros p l) ≡ 2 * 2 ^ zeros p l = ap (λ k. 2 ^ k) (omega arith) ∙ pow-succ' 2 (zeros p l) in omega arith))
    ]

-- outcomes are 0 or 1
outcome_bits : (S : List ℕ) (cs : List (List ℕ)) → Bits (map (set_outcome S) cs)
outcome_bits S [] p = inl refl
outcome_bits S (c ∷ cs) zero = elim (split (meets S c)) [ inl e ↦ inl (rw e) | inr e ↦ inr (rw e) ]
outcome_bits S (c ∷ cs) (suc p) = outcome_bits S cs p

-- the days 1 to d in the tile
days_in_tile : (n d g : ℕ) → n ≤ g → g ≤ d → keep (is_in (last_days n g)) (days d) ≡ last_days n g
days_in_tile n d g a b =
    ascends_keep d 1 (last_days n g) (ascends_later (last_days n g) 1 (suc (g - n)) (omega arith) (up_from_ascends (suc (g - n)) n))
    (λ x m. let q = last_days_bounds n g x a m in omega arith)

module _ (n f d : ℕ) (S : List ℕ) (ok : layout_refusal 2 n f d ≡ 0) (w : Within d S) where
  abbrev t : List ℕ
  t = table_of (chains 2 n d) S

  gives : Gives (chains 2 n d) d S t
  gives = record { within = w; gives = refl }

  power : Power n
  power = allowed_n_is n (layout_is 2 n f d ok).0.n_ok

  whole : divides n d ≡ true
  whole = divides_factor n f d power.some (allowed_d_is n f d (layout_is 2 n f d ok).1).whole

  table : Table 2 n d t
  unfolding table_of
  table = let q = allowed_d_is n f d (layout_is 2 n f d ok).1 in
      record {
        scheme_ok = (layout_is 2 n f d ok).0.scheme_ok;
        n_ok = (layout_is 2 n f d ok).0.n_ok;
        some = q.some;
        most = q.most;
        whole = whole;
        size = length-map (chains 2 n d) (set_outcome S);
      }

  bits : Bits t
  unfolding table_of
  bits = outcome_bits S (chains 2 n d)

  locally : listing (chains 2 n d) d t ≡ keep (is_listed 2 n t) (days d)
  locally = listing_is_listed 2 n d t table bits (given_rules 2 n d S t gives (omega arith) (omega arith) power)

  -- a chain of a tile, by the set
  module _ (g : ℕ) (a : 1 ≤ g) (b : g ≤ d) (c : divides n g ≡ true) where
    chain : (i : ℕ) → i ≤ lg n → passes 2 n t (tile i g) ≡ not (meets S (covered_days n (tile i g)))
    chain i l = gives_passes 2 n d S t gives (tile i g) (tile_named n d g i a b c l)

    -- bit j of a day may be anything exactly if c(lg n - j) fails
    pub tile_listed : meets S (covered_days n (tile 0 g)) ≡ true →
        length (in_tile n g (listing (chains 2 n d) d t)) ≡ 2 ^ zeros (λ j. not (meets S (covered_days n (tile (lg n - j) g)))) (lg n)
    unfolding tile_bit
    tile_listed failed =
        let q : Block n d g = record { some = a; most = b; whole = c } in
        let k = pred (g / n) in
        let e : suc k * n ≡ g = block_number n d g power.some q in
        let s = divisor_le n g a c in
        let fails : passes 2 n t (tile 0 g) ≡ false = chain 0 (omega arith) ∙ ap not failed in
        let walk = rw e at (tile_days_lem n k t power (rw e fails)) in
        ap (λ l. length (in_tile n g l)) locally ∙ ap length (keep_keep (is_in (last_days n g)) (is_listed 2 n t) (days d)) ∙
        ap (λ l. length (keep (is_listed 2 n t) l)) (days_in_tile n d g s b) ∙ ap length walk ∙
        tile_size (tile_bit n t g) (lg n) (suc (g - n)) ∙
        ap (λ z. 2 ^ z) (zeros_congr (tile_bit n t g) (λ j. not (meets S (covered_days n (tile (lg n - j) g)))) (lg n) (λ j h. chain (lg n - j) (omega arith)))

pub failed_tile_lists : FailedTileLists
failed_tile_lists n f d g S ok w a b c e =
    tile_listed n f d S ok w g a b c (fails (meets S (covered_days n (tile 0 g))) e) ∙
    ap (λ z. 2 ^ z) (zeros_down (λ i. not (meets S (covered_days n (tile i g)))) (lg n) (lg n) (omega arith) ∙
    ap (λ z. length (keep (λ i. not (not (meets S (covered_days n (tile i g))))) (up_from (suc z) (lg n)))) none ∙
    ap length (keep_congr (λ i. not (not (meets S (covered_days n (tile i g))))) (λ i. eqb (set_outcome S (covered_days n (tile i g))) 0) (up_from 1 (lg n))
    (λ i m. back (meets S (covered_days n (tile i g))))))
  where
    none : lg n - lg n ≡ 0
    none = omega arith

    fails : (m : Bool) → ◌≡◌ {A = ℕ} (cond m 0 1) 0 → m ≡ true
    fails true q = refl
    fails false q = absurd (omega arith)

    back : (m : Bool) → not (not m) ≡ eqb (cond m 0 1) 0
    back true = refl
    back false = refl
