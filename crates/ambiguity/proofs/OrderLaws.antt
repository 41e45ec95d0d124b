-- An order that has each of the 21 lines once has no other: 21 places are taken by 21 pairs.
use mathlib.Core.{Path.◌≡◌, Path.refl, Path.sym, Path.ap, Path.◌∙◌, Logic.inl, Logic.inr}
use mathlib.Core.Bool.{Bool, true, false, not, ◌&&◌, ◌||◌}
use mathlib.Core.List.{List, [], ◌∷◌}
use Prim.Native.Nat.{ℕ, suc, ◌+◌, ◌*◌, ◌≤◌}
use native.Mathlib.Omega.{arith}
use lib.{Dec.eqb, Dec.leb, ListN.length}
use borrow.Author.Tests.{eqb-true, eq-eqb, leb-true}
use Rattle.lists.specs.Lists.{◌among◌, has, every, up_from, Ascends}
use Rattle.lists.proofs.Laws.{split, and_both, and_of, bool_ext, has_mem, mem_has, every_at, up_from_mem, up_from_bounds, ascends_apart}
use Rattle.layouts.specs.Layouts.{allowed_n}
use Rattle.acceptance.specs.Private.{one}
use Rattle.ambiguity.specs.Ambiguity.{sum_over, count_refusal, Asked, times, line_sizes, line_sets, line_count, stands_once, each_once}
use Rattle.ambiguity.specs.Statements.{LinesTold}
use Rattle.ambiguity.proofs.Sums.{sum_congr, sum_both, sum_scale}
use Rattle.ambiguity.proofs.Calls.{countable, not_refused}

-- ---- which N and k are counted

abbrev sized : ℕ → Bool
sized n = not (allowed_n n) || has n line_sizes

counted_n : (n : ℕ) → allowed_n n ≡ true → n ≤ 64 → has n line_sizes ≡ true
counted_n n ok l =
    let all : every sized (up_from 0 65) ≡ true = refl in
    let b = every_at sized {g = n} {xs = up_from 0 65} (up_from_mem 0 65 n (omega arith) (omega arith)) all in
    rw ok at b

counted_k : (k : ℕ) → 1 ≤ k → k ≤ 3 → has k line_sets ≡ true
counted_k k a b = mem_has (up_from_mem 1 3 k a (omega arith))

-- ---- a number stands at most once in an ascending list

once_in : (x i : ℕ) (xs : List ℕ) → Ascends i xs → sum_over (λ y. one (eqb x y)) xs ≡ one (has x xs)
once_in x i [] a = refl
once_in x i (y ∷ ys) a = elim (split (eqb x y)) [
  | inl e ↦ let q = eqb-true x y e in
      let r : has x ys ≡ false = rw q (ascends_apart y ys a.1) in
      rw (e, once_in x (suc y) ys a.1, r)
  | inr e ↦ rw (e, once_in x (suc y) ys a.1) (omega arith)
]

-- a pair among the 21, at most once
both_in : (x y : ℕ) → sum_over (λ n. sum_over (λ k. one (eqb x n && eqb y k)) line_sets) line_sizes ≡ one (has x line_sizes && has y line_sets)
both_in x y = sum_congr (λ n. sum_over (λ k. one (eqb x n && eqb y k)) line_sets) (λ n. one (has y line_sets) * one (eqb x n)) line_sizes (λ n m. inner n) ∙
    sum_scale (one (has y line_sets)) (λ n. one (eqb x n)) line_sizes ∙ ap (λ r. one (has y line_sets) * r) (once_in x 1 line_sizes (omega arith)) ∙ product (has x line_sizes) (has y line_sets)
  where
    product : (a b : Bool) → one b * one a ≡ one (a && b)
    product true true = refl
    product true false = refl
    product false true = refl
    product false false = refl

    inner : (n : ℕ) → sum_over (λ k. one (eqb x n && eqb y k)) line_sets ≡ one (has y line_sets) * one (eqb x n)
    inner n = elim (eqb x n) as (λ b. sum_over (λ k. one (b && eqb y k)) line_sets ≡ one (has y line_sets) * one b) [
      | true ↦ once_in y 1 line_sets (omega arith) ∙ omega arith
      | false ↦ omega arith
    ]

-- ---- 21 places

-- the places that an order gives to the 21
abbrev places_in : List Asked → ℕ
places_in order = sum_over (λ n. sum_over (λ k. times n k order) line_sets) line_sizes

places_more : (x : Asked) (order : List Asked) → places_in (x ∷ order) ≡ one (has x.n line_sizes && has x.k line_sets) + places_in order
places_more x order =
    sum_congr (λ n. sum_over (λ k. times n k (x ∷ order)) line_sets)
    (λ n. sum_over (λ k. one (eqb x.n n && eqb x.k k)) line_sets + sum_over (λ k. times n k order) line_sets) line_sizes
    (λ n m. sum_both (λ k. one (eqb x.n n && eqb x.k k)) (λ k. times n k order) line_sets) ∙
    sum_both (λ n. sum_over (λ k. one (eqb x.n n && eqb x.k k)) line_sets) (λ n. sum_over (λ k. times n k order) line_sets) line_sizes ∙
    ap (λ r. r + places_in order) (both_in x.n x.k)

-- another pair takes a place of its own
others : (n k : ℕ) → has n line_sizes && has k line_sets ≡ false → (order : List Asked) → places_in order + times n k order ≤ length order
others n k f [] = omega arith
others n k f (x ∷ order) =
    let h = others n k f order in
    let p = places_more x order in
    elim (split (eqb x.n n && eqb x.k k)) [
      | inl e ↦ let b = and_both (eqb x.n n) (eqb x.k k) e in
          let q : has x.n line_sizes && has x.k line_sets ≡ false = rw (eqb-true x.n n b.0, eqb-true x.k k b.1) f in
          let z : one (has x.n line_sizes && has x.k line_sets) ≡ 0 = ap one q in
          rw e (omega arith)
      | inr e ↦ let z : one (has x.n line_sizes && has x.k line_sets) ≤ 1 = elim (has x.n line_sizes && has x.k line_sets) as (λ b. one b ≤ 1) [ true ↦ omega arith | false ↦ omega arith ] in
          rw e (omega arith)
    ]

module _ (order : List Asked) (e : each_once order ≡ true) where
  parts : (eqb (length order) line_count ≡ true) × (every (λ n. every (stands_once order n) line_sets) line_sizes ≡ true)
  parts = and_both (eqb (length order) line_count) (every (λ n. every (stands_once order n) line_sets) line_sizes) e

  each : (n k : ℕ) → n among line_sizes → k among line_sets → times n k order ≡ 1
  each n k a b =
      eqb-true (times n k order) 1
      (every_at (stands_once order n) {g = k} {xs = line_sets} b (every_at (λ x. every (stands_once order x) line_sets) {g = n} {xs = line_sizes} a parts.1))

  all_taken : places_in order ≡ 21
  all_taken = sum_congr (λ n. sum_over (λ k. times n k order) line_sets) (λ n. 3) line_sizes
      (λ n a. sum_congr (λ k. times n k order) (λ k. 1) line_sets (λ k b. each n k a b))

  none_else : (n k : ℕ) → has n line_sizes && has k line_sets ≡ false → times n k order ≡ 0
  none_else n k f = let h = others n k f order in let l = eqb-true (length order) line_count parts.0 in omega (arith, all_taken)

-- what is not refused is among the 21, and the other way round
of_21 : (n k : ℕ) → eqb (count_refusal n k) 0 ≡ has n line_sizes && has k line_sets
of_21 n k = bool_ext (eqb (count_refusal n k) 0) (has n line_sizes && has k line_sets)
    (λ e.
    let c = countable n k (eqb-true (count_refusal n k) 0 e) in
    and_of (has n line_sizes) (has k line_sets) (counted_n n c.n_ok c.small) (counted_k k c.some c.most))
    (λ e.
    let b = and_both (has n line_sizes) (has k line_sets) e in
    let q = up_from_bounds 1 3 k (has_mem k line_sets b.1) in
    let w = every_at is_counted {g = n} {xs = line_sizes} (has_mem n line_sizes b.0) refl in
    let u = and_both (allowed_n n) (leb n 64) w in
    eq-eqb (count_refusal n k) 0 (sym (not_refused n k u.0 (leb-true n 64 u.1) (λ z. absurd (omega arith)) (omega arith))))
  where
    is_counted : ℕ → Bool
    is_counted x = allowed_n x && leb x 64

pub lines_told : LinesTold
lines_told order e n k = rw (of_21 n k) (elim (split (has n line_sizes && has k line_sets)) [
  | inl q ↦ let b = and_both (has n line_sizes) (has k line_sets) q in rw q (each order e n k (has_mem n line_sizes b.0) (has_mem k line_sets b.1))
  | inr q ↦ rw q (none_else order e n k q)
])
