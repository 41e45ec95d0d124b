-- What the functions that write the list need: what was written after what, and the walks by their steps.
use mathlib.Core.{Path.◌≡◌, Path.refl, Path.ap, Path.◌∙◌, Logic.inl, Logic.inr, Bool.Bool, Bool.true, Bool.false}
use Rattle.std.proofs.Common.{ℕ, zero, suc, ◌+◌, ◌-◌, ◌^◌, ◌<◌, ◌≤◌, List, [], ◌∷◌, ◌++◌}
use native.Mathlib.{Nat.pow-succ', Omega.arith}
use lib.{ListN.length, ListN.set, ListN.length-append, Pow.pow_pos}
use Rattle.lists.specs.Lists.{up_from}
use Rattle.layouts.specs.Layouts.{tree}
use Rattle.layouts.specs.Private.{position}
use Rattle.lists.proofs.Laws.{split, up_from_snoc, length-up_from}
use Rattle.acceptance.specs.Private.{Chain, passes}
use Rattle.buffers.proofs.Writes.{wrote_one, wrote_join}
use Rattle.listing.specs.Private.{tree_days}
use Rattle.buffers.specs.Private.{Wrote}
use Rattle.acceptance.proofs.Steps.{chain_left, chain_right, chain_room}

-- ---- a run of days

pub run_next : (first day end at : ℕ) (l m : List ℕ) → first ≤ day → day < end → at + (end - first) ≤ length l → length m ≡ length l → Wrote at (up_from first (day - first)) l (at + (day - first)) m →
    Wrote at (up_from first (day + 1 - first)) l (at + (day + 1 - first)) (set m (at + (day - first)) day)
run_next first day end at l m a b h n u =
    let e : day + 1 - first ≡ suc (day - first) = omega arith in
    let f : first + (day - first) ≡ day = omega arith in
    let x : at + (day + 1 - first) ≡ at + (day - first) + 1 = omega arith in
    rw x (wrote_join at (up_from first (day + 1 - first)) (up_from first (day - first)) (day ∷ []) l m (set m (at + (day - first)) day) (at + (day - first)) (at + (day - first) + 1)
    (ap (up_from first) e ∙ up_from_snoc first (day - first) ∙ rw f)
    (omega (arith, length-up_from first (day + 1 - first))) u (wrote_one (at + (day - first)) day (day ∷ []) m refl (omega arith)))

-- ---- the walk of a tree's chain

tree_size : (n : ℕ) (t : List ℕ) (l g : ℕ) → length (tree_days n t l g) ≤ 2 ^ l
unfolding tree_days
tree_size n t zero g = elim (split (passes 3 n t (tree 0 g))) [ inl e ↦ rw e (omega arith) | inr e ↦ rw e (omega arith) ]
tree_size n t (suc l) g =
    let x = tree_size n t l (g - 2 ^ l) in
    let y = tree_size n t l g in
    let z = length-append (tree_days n t l (g - 2 ^ l)) (tree_days n t l g) in
    let p = pow-succ' 2 l in
    elim (split (passes 3 n t (tree (suc l) g))) [ inl e ↦ rw e (omega arith) | inr e ↦ rw e (omega arith) ]

pub tree_none : (n l g : ℕ) (t : List ℕ) {r : Bool} → r ≡ passes 3 n t (tree l g) → r ≡ true → tree_days n t l g ≡ []
unfolding tree_days
tree_none n zero g t e f = rw (← e, f)
tree_none n (suc l) g t e f = rw (← e, f)

pub tree_day : (n l g : ℕ) (t : List ℕ) {r : Bool} → r ≡ passes 3 n t (tree l g) → r ≡ false → l ≡ 0 → tree_days n t l g ≡ g ∷ []
unfolding tree_days
tree_day n zero g t e f z = rw (← e, f)
tree_day n (suc l) g t e f z = absurd (omega arith)

pub tree_halves : (n l g w : ℕ) (t : List ℕ) {r : Bool} → r ≡ passes 3 n t (tree l g) → r ≡ false → (l ≡ 0 → ⊥) → w ≡ 2 ^ (l - 1) →
    tree_days n t l g ≡ tree_days n t (l - 1) (g - w) ++ tree_days n t (l - 1) g
unfolding tree_days
tree_halves n zero g w t e f z q = absurd (z refl)
tree_halves n (suc l) g w t e f z q = let p : suc l - 1 ≡ l = omega arith in rw (q, p, ← e, f)

pub level_less : (l t : ℕ) → l ≡ t → (l ≡ 0 → ⊥) → l - 1 < t
level_less l t e h = omega arith

pow_half : (l : ℕ) → (l ≡ 0 → ⊥) → 2 ^ l ≡ 2 ^ (l - 1) + 2 ^ (l - 1)
pow_half l h = let p : l ≡ suc (l - 1) = omega arith in ap (λ x. 2 ^ x) p ∙ (let e = pow-succ' 2 (l - 1) in omega arith)

pub place_one : (at l n : ℕ) → at + 2 ^ l ≤ n → at < n
place_one at l n h = let p = pow_pos l in omega arith

module _ {n l g w : ℕ} {t : List ℕ} (h : Chain n l g t) (z : l ≡ 0 → ⊥) (q : w ≡ 2 ^ (l - 1)) where
  lower : Chain n (suc (l - 1)) g t
  lower = let e : l ≡ suc (l - 1) = omega arith in rw e at h

  pub left_room : w ≤ g
  left_room = chain_room w lower q

  pub left_chain : Chain n (l - 1) (g - w) t
  left_chain = chain_left w lower q

  pub right_chain : Chain n (l - 1) g t
  right_chain = chain_right lower

-- the right half stands one place before
pub right_place : {n l g p : ℕ} {t : List ℕ} → Chain n l g t → p ≡ position 3 n (tree l g) → (l ≡ 0 → ⊥) → (1 ≤ p) × (p - 1 ≡ position 3 n (tree (l - 1) g))
right_place h e z = omega arith

pub left_place : (l at n : ℕ) → (l ≡ 0 → ⊥) → at + 2 ^ l ≤ n → at + 2 ^ (l - 1) ≤ n
left_place l at n z h = let e = pow_half l z in omega arith

pub tree_right_place : (n l g at b m : ℕ) (t k s : List ℕ) → (l ≡ 0 → ⊥) → at + 2 ^ l ≤ length k → Wrote at (tree_days n t (l - 1) g) k b s → m ≡ length k → b + 2 ^ (l - 1) ≤ m
tree_right_place n l g at b m t k s z h u e =
    let p = pow_half l z in
    let q = tree_size n t (l - 1) g in
    omega (arith, u.count)

pub tree_join : (n l g w at b r : ℕ) (t k s y : List ℕ) {x : Bool} → x ≡ passes 3 n t (tree l g) → x ≡ false → (l ≡ 0 → ⊥) → w ≡ 2 ^ (l - 1) → at + 2 ^ l ≤ length k →
    Wrote at (tree_days n t (l - 1) (g - w)) k b s → Wrote b (tree_days n t (l - 1) g) s r y → Wrote at (tree_days n t l g) k r y
tree_join n l g w at b r t k s y e f z q h u v =
    let c = tree_size n t l g in
    wrote_join at (tree_days n t l g) (tree_days n t (l - 1) (g - w)) (tree_days n t (l - 1) g) k s y b r (tree_halves n l g w t e f z q) (omega arith) u v

-- a chain of two days
pub pair_chain : {n l g : ℕ} {t : List ℕ} → Chain n l g t → l ≡ 0 → Chain n 0 g t
pair_chain h o = rw o at h

pub pair_place : {n l g p : ℕ} {t : List ℕ} → Chain n l g t → p ≡ position 3 n (tree l g) → l ≡ 0 → p ≡ position 3 n (tree 0 g)
pair_place h e o = rw o at e

pub pair_join : (n l g w at b r : ℕ) (t k s y : List ℕ) {x : Bool} → x ≡ passes 3 n t (tree l g) → x ≡ false → (l ≡ 0 → ⊥) → w ≡ 2 ^ (l - 1) → at + 2 ^ l ≤ length k → l - 1 ≡ 0 →
    Wrote at (tree_days n t 0 (g - w)) k b s → Wrote b (tree_days n t 0 g) s r y → Wrote at (tree_days n t l g) k r y
pair_join n l g w at b r t k s y e f z q h o u v = tree_join n l g w at b r t k s y e f z q h (rw o u) (rw o v)

-- place for the second day
pub pair_room : (n l g at b m : ℕ) (t k s : List ℕ) → (l ≡ 0 → ⊥) → at + 2 ^ l ≤ length k → l - 1 ≡ 0 → Wrote at (tree_days n t 0 g) k b s → m ≡ length k → b < m
pair_room n l g at b m t k s z h o u e =
    place_one b (l - 1) m (tree_right_place n l g at b m t k s z h (rw o u) e)
