-- The walks of a tile and a tree's chain list the days that are listed locally.
use mathlib.Core.{Path.◌≡◌, Path.refl, Path.sym, Path.ap, Path.ap₂, Path.◌∙◌, Logic.inl, Logic.inr}
use Rattle.std.proofs.Common.{ℕ, zero, suc, pred, ◌+◌, ◌-◌, ◌*◌, ◌/◌, ◌%◌, ◌^◌, ◌≤◌, Bool, true, false, cond, not, ◌&&◌, List, [], ◌∷◌, ◌++◌}
use mathlib.Core.Bool.{and-true, and-false}
use native.Mathlib.{Nat.suc-mul, Nat.pow-succ', Omega.arith}
use lib.Arith.{digits_div}
use borrow.Author.Tests.{not-true}
use Rattle.lists.specs.Lists.{◌among◌, up_from, keep, every}
use Rattle.evidence.specs.Evidence.{days}
use Rattle.lists.proofs.Laws.{split, true_or_false, up_from_bounds, keep_congr, keep_append, up_from_snoc, every_append, up_from-append}
use Rattle.layouts.specs.Layouts.{lg, tile, tree, last_days}
use Rattle.layouts.proofs.AllowedLaws.{Power}
use Rattle.acceptance.specs.Private.{passes, levels_rule, tile_bit, bit_rule, bits_rule, is_listed}
use Rattle.listing.specs.Private.{tile_days, tree_days}
use Rattle.acceptance.proofs.Runs.{some, some_of, keep_none, last_days_days}
use Rattle.acceptance.proofs.Given.{block_split, half_point, half_split}
use Rattle.acceptance.proofs.Listed.{listed_in_2, is_listed_3, tree_3}

-- ---- a tile

bits_suc : (p : ℕ → Bool) (l x : ℕ) → bits_rule p (suc l) x ≡ bits_rule p l x && bit_rule p x l
unfolding bits_rule
bits_suc p l x = ap (every (bit_rule p x)) (up_from_snoc 0 l) ∙ every_append (bit_rule p x) (up_from 0 l) ((0 + l) ∷ []) ∙
    (let e : 0 + l ≡ l = omega arith in rw (e, and-true (bit_rule p x l)))

-- the l lower bits of a day's number
listed_bits : (ℕ → Bool) → ℕ → ℕ → Bool
listed_bits p l day = bits_rule p l (pred day)

tile_keep : (p : ℕ → Bool) (l q : ℕ) → keep (listed_bits p l) (up_from (suc (q * 2 ^ l)) (2 ^ l)) ≡ tile_days p l (suc (q * 2 ^ l))
unfolding listed_bits bits_rule bit_rule tile_days
tile_keep p zero q = refl
tile_keep p (suc l) q =
    ap (λ x. keep (listed_bits p (suc l)) (up_from (suc (q * 2 ^ suc l)) x)) two ∙ ap (keep (listed_bits p (suc l))) (up_from-append (suc (q * 2 ^ suc l)) (2 ^ l) (2 ^ l)) ∙
    keep_append (listed_bits p (suc l)) (up_from (suc (q * 2 ^ suc l)) (2 ^ l)) (up_from (suc (q * 2 ^ suc l) + 2 ^ l) (2 ^ l)) ∙
    ap₂ (λ x y. x ++ y) (lower (tile_keep p l (q + q))) (upper (tile_keep p l (suc (q + q))))
  where
    two : 2 ^ suc l ≡ 2 ^ l + 2 ^ l
    two = let e = pow-succ' 2 l in omega arith

    base : q * 2 ^ suc l ≡ (q + q) * 2 ^ l
    base = rw (pow-succ' 2 l) (omega arith)

    high : suc (q * 2 ^ suc l) + 2 ^ l ≡ suc (suc (q + q) * 2 ^ l)
    high = let s = suc-mul (q + q) (2 ^ l) in omega (arith, base)

    -- the bit of weight 2^l
    bit : (r day : ℕ) → day among up_from (suc (r * 2 ^ l)) (2 ^ l) → pred day / 2 ^ l ≡ r
    bit r day m =
        let b = up_from_bounds (suc (r * 2 ^ l)) (2 ^ l) day m in
        let e : pred day ≡ r * 2 ^ l + (day - suc (r * 2 ^ l)) = omega arith in
        rw (e, digits_div r {m = 2 ^ l} {r = day - suc (r * 2 ^ l)} (omega arith))

    zero_bit : (day : ℕ) → day among up_from (suc ((q + q) * 2 ^ l)) (2 ^ l) → listed_bits p (suc l) day ≡ listed_bits p l day && not (p l)
    zero_bit day m = let even : (q + q) % 2 ≡ 0 = omega arith in bits_suc p l (pred day) ∙ rw (bit (q + q) day m, even, and-true (p l))

    one_bit_lem : (day : ℕ) → day among up_from (suc (suc (q + q) * 2 ^ l)) (2 ^ l) → listed_bits p (suc l) day ≡ listed_bits p l day
    one_bit_lem day m = let odd : suc (q + q) % 2 ≡ 1 = omega arith in bits_suc p l (pred day) ∙
        rw (bit (suc (q + q)) day m, odd, and-false (p l), and-true (bits_rule p l (pred day)))

    lower : keep (listed_bits p l) (up_from (suc ((q + q) * 2 ^ l)) (2 ^ l)) ≡ tile_days p l (suc ((q + q) * 2 ^ l)) →
        keep (listed_bits p (suc l)) (up_from (suc (q * 2 ^ suc l)) (2 ^ l)) ≡ cond (p l) [] (tile_days p l (suc (q * 2 ^ suc l)))
    lower rec = let run = up_from (suc ((q + q) * 2 ^ l)) (2 ^ l) in elim (split (p l)) [
      | inl e ↦ rw (e, base) (keep_none (listed_bits p (suc l)) run (λ day m. zero_bit day m ∙ rw (e, and-false (listed_bits p l day))))
      | inr e ↦ rw (e, base) (keep_congr (listed_bits p (suc l)) (listed_bits p l) run (λ day m. zero_bit day m ∙ rw (e, and-true (listed_bits p l day))) ∙ rec)
    ]

    upper : keep (listed_bits p l) (up_from (suc (suc (q + q) * 2 ^ l)) (2 ^ l)) ≡ tile_days p l (suc (suc (q + q) * 2 ^ l)) →
        keep (listed_bits p (suc l)) (up_from (suc (q * 2 ^ suc l) + 2 ^ l) (2 ^ l)) ≡ tile_days p l (suc (q * 2 ^ suc l) + 2 ^ l)
    upper rec = rw high (keep_congr (listed_bits p (suc l)) (listed_bits p l) (up_from (suc (suc (q + q) * 2 ^ l)) (2 ^ l)) one_bit_lem ∙ rec)

pub tile_none : (n k : ℕ) (t : List ℕ) → passes 2 n t (tile 0 (suc k * n)) ≡ true → keep (is_listed 2 n t) (last_days n (suc k * n)) ≡ []
tile_none n k t e = keep_none (is_listed 2 n t) (last_days n (suc k * n)) (λ day m. listed_in_2 n k day t m ∙ rw e)

pub tile_days_lem : (n k : ℕ) (t : List ℕ) → Power n → passes 2 n t (tile 0 (suc k * n)) ≡ false →
    keep (is_listed 2 n t) (last_days n (suc k * n)) ≡ tile_days (tile_bit n t (suc k * n)) (lg n) (suc (suc k * n - n))
unfolding listed_bits
tile_days_lem n k t w e =
    let p = tile_bit n t (suc k * n) in
    let start : suc k * n - n ≡ k * n = let s = suc-mul k n in omega arith in
    keep_congr (is_listed 2 n t) (listed_bits p (lg n)) (last_days n (suc k * n)) (λ day m. listed_in_2 n k day t m ∙ rw e) ∙
    ap (λ x. keep (listed_bits p (lg n)) (up_from (suc x) n)) start ∙ ap (λ x. keep (listed_bits p (lg n)) (up_from (suc (k * x)) x)) w.power ∙
    tile_keep p (lg n) k ∙ ap (λ x. tile_days p (lg n) (suc (k * x))) (sym w.power) ∙ ap (λ x. tile_days p (lg n) (suc x)) (sym start)

-- ---- the tree

some_not : (p : ℕ → Bool) (xs : List ℕ) → some p xs ≡ false → (g : ℕ) → g among xs → p g ≡ false
some_not p xs e g m = elim (split (p g)) [ inl h ↦ absurd (true_or_false (some_of p m h) e) | inr h ↦ h ]

module _ (n d : ℕ) (t : List ℕ) (small : d ≤ 65536) (r : levels_rule n d t ≡ true) where
  passing : (l j : ℕ) → suc j * 2 ^ l ≤ d → passes 3 n t (tree l (suc j * 2 ^ l)) ≡ true → keep (is_listed 3 n t) (last_days (2 ^ l) (suc j * 2 ^ l)) ≡ []
  passing l j h e =
      let xs = last_days (2 ^ l) (suc j * 2 ^ l) in
      keep_none (is_listed 3 n t) xs (some_not (is_listed 3 n t) xs (not-true (some (is_listed 3 n t) xs) (sym (tree_3 n d t small r l j h) ∙ e)))

  pub days_of_tree : (l j : ℕ) → suc j * 2 ^ l ≤ d → keep (is_listed 3 n t) (last_days (2 ^ l) (suc j * 2 ^ l)) ≡ tree_days n t l (suc j * 2 ^ l)
  unfolding tree_days
  days_of_tree zero j h =
      let g : ℕ = suc j * 2 ^ 0 in
      let q : suc (g - 1) ≡ g = omega arith in
      elim (split (passes 3 n t (tree 0 g))) [
        | inl e ↦ rw e (passing 0 j h e)
        | inr e ↦ rw e (ap (λ x. keep (is_listed 3 n t) (x ∷ [])) q ∙ rw (is_listed_3 n t g, e))
      ]
  days_of_tree (suc l) j h =
      let g : ℕ = suc j * 2 ^ suc l in
      let e = half_point j l in
      let s = suc-mul (suc (j + j)) (2 ^ l) in
      let left : suc (j + j) * 2 ^ l ≡ g - 2 ^ l = omega arith in
      let a = rw left at (days_of_tree l (j + j) (omega arith)) in
      let b = rw (s ∙ sym e) at (days_of_tree l (suc (j + j)) (omega arith)) in
      elim (split (passes 3 n t (tree (suc l) g))) [
        | inl f ↦ rw f (passing (suc l) j h f)
        | inr f ↦ rw f (ap (keep (is_listed 3 n t)) (half_split j l) ∙ keep_append (is_listed 3 n t) (last_days (2 ^ l) (g - 2 ^ l)) (last_days (2 ^ l) g) ∙ ap₂ (λ x y. x ++ y) a b)
      ]

-- ---- one interval more

pub days_block : (p : ℕ → Bool) (n k : ℕ) → keep p (days (suc k * n)) ≡ keep p (days (k * n)) ++ keep p (last_days n (suc k * n))
days_block p n k =
    ap (keep p) (sym (last_days_days (suc k * n)) ∙ block_split n k ∙ ap (λ (x : List ℕ). x ++ last_days n (suc k * n)) (last_days_days (k * n))) ∙
    keep_append p (days (k * n)) (last_days n (suc k * n))
