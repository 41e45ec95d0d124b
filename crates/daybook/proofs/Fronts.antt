-- The first days of a season: their values are the front of its book, and how many of them 01 allows at most.
use mathlib.Core.Path.{◌≡◌, sym, ap, ◌∙◌}
use mathlib.Core.Logic.{inl, inr}
use mathlib.Core.Bool.{true}
use mathlib.Core.List.{List, []}
use Prim.Native.Nat.{ℕ, pred, ◌*◌, ◌/◌, ◌%◌, ◌≤◌}
use native.Mathlib.Nat.{mod-lt, div-add-mod', mul-mod_left, mul-le-mul, mul-le-mul_right, mul-pos}
use native.Mathlib.Omega.{arith}
use lib.Dec.{leb}
use lib.ListN.{length, take}
use lib.Seq.{take_at, get_or-take, length-take-le}
use borrow.Author.Tests.{le-leb, leb-true, leb-false, eq-eqb, eqb-true}
use Rattle.lists.proofs.Laws.{split}
use Rattle.refusals.specs.Refusals.{book_limit}
use Rattle.evidence.specs.Evidence.{day_of, values}
use Rattle.evidence.proofs.ValueLaws.{value_same, values_same}
use Rattle.refusals.proofs.TestLaws.{number_passed}
use Rattle.layouts.specs.Layouts.{allowed_d, setup_tested, setup_refusal, chains}
use Rattle.layouts.proofs.AllowedLaws.{allowed_d_is, setup_bounds}
use Rattle.layouts.proofs.Coverage.{chains_within}
use Rattle.sha256.specs.Sha256.{sha256}
use Rattle.chains.specs.Book.{start, book_of}
use Rattle.chains.proofs.BookLaws.{book_front, values_of_length}
use Rattle.daybook.specs.Claim.{largest_d}

-- ---- the values of the first d days

pub first_days : (d : ℕ) (E : List (List ℕ)) (g : ℕ) → 1 ≤ g → g ≤ d → day_of E g ≡ day_of (take d E) g
first_days d E g some most = sym (get_or-take d E (pred g) [] (omega arith))

pub front_is : (s n d : ℕ) (E : List (List ℕ)) → d ≤ length E → take (32 * length (chains s n d)) (book_of s n E) ≡ book_of s n (take d E)
unfolding book_of
front_is s n d E h =
    let r = book_front s n d E h in
    let front = values sha256 (start s n) E (chains s n d) in
    ap (take (32 * length (chains s n d))) r.1 ∙ take_at front r.0 (32 * length (chains s n d)) (values_of_length s n E (chains s n d)) ∙
    values_same sha256 (start s n) E (take d E) (chains s n d)
    (λ c m. value_same sha256 E (take d E) c (start s n) (λ g k. let w = chains_within s n d c m g k in first_days d E g w.0 w.1)) ∙
    ap (λ (k : ℕ). values sha256 (start s n) (take d E) (chains s n k)) (sym (length-take-le d E h))

-- ---- the largest number of days that 01 allows

module _ (s n f : ℕ) (ok : setup_refusal s n f ≡ 0) where
  bounds : (1 ≤ n) × (n ≤ 256) × (1 ≤ f) × (f ≤ 64)
  bounds = setup_bounds s n f (number_passed (setup_tested s n f) ok)

  m_some : 1 ≤ f * n
  m_some = mul-pos bounds.2 bounds.0

  m_most : f * n ≤ 16384
  m_most = mul-le-mul bounds.3 bounds.1

  -- it is the whole multiples
  largest_is : largest_d n f ≡ book_limit / (f * n) * (f * n)
  largest_is = let e = div-add-mod' book_limit (f * n) in omega (arith, e)

  pub largest_allowed : allowed_d n f (largest_d n f) ≡ true
  largest_allowed =
      let r = mod-lt book_limit m_some in
      rw (
        le-leb 1 (largest_d n f) (omega (arith, r, m_most)),
        le-leb (largest_d n f) book_limit (omega arith),
        eq-eqb (largest_d n f % (f * n)) 0 (ap (λ (x : ℕ). x % (f * n)) largest_is ∙ mul-mod_left (book_limit / (f * n)) (f * n)),
      )

  pub largest_most : (d : ℕ) → allowed_d n f d ≡ true → d ≤ largest_d n f
  largest_most d a =
      let w = allowed_d_is n f d a in
      let e = div-add-mod' d (f * n) in
      let z = eqb-true (d % (f * n)) 0 w.whole in
      let q = div-add-mod' book_limit (f * n) in
      let r = mod-lt book_limit m_some in
      elim (split (leb (d / (f * n)) (book_limit / (f * n)))) [
        | inl l ↦ let k = mul-le-mul_right (f * n) (leb-true (d / (f * n)) (book_limit / (f * n)) l) in omega (arith, e, z, k, largest_is)
        | inr l ↦ absurd (let k = mul-le-mul_right (f * n) (leb-false (d / (f * n)) (book_limit / (f * n)) l) in omega (arith, e, z, q, r, k, w.most))
      ]
