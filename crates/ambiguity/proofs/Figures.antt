-- The two numbers in closed form, for every N.
use mathlib.Core.{Path.◌≡◌, Path.refl, Path.sym, Path.ap, Path.◌∙◌}
use mathlib.Core.Bool.{true}
use mathlib.Core.List.Memᴰ
use mathlib.Core.List.{List, [], ◌∷◌}
use Prim.Native.Nat.{ℕ, suc, ◌+◌, ◌*◌, ◌^◌}
use native.Mathlib.{Nat.mul-one, Nat.mul_assoc, Omega.arith}
use lib.{ListN.length}
use Rattle.lists.specs.Lists.{◌among◌, up_from}
use Rattle.lists.proofs.Laws.{bool_ext, has_mem, mem_has, every_at, every_of, up_from_bounds, length-up_from}
use Rattle.layouts.specs.Layouts.{allowed_n, lg}
use Rattle.layouts.proofs.AllowedLaws.{allowed_n_is}
use Rattle.listing.specs.Private.{bit_of}
use Rattle.tile_laws.proofs.TileLaws.{zeros, zeros_congr}
use Rattle.ambiguity.specs.Ambiguity.{sets_of, offset_sets, days_listed, sum_over, sets, listed}
use Rattle.ambiguity.specs.Statements.{FiguresTold}
use Rattle.ambiguity.proofs.SetLaws.{set_size, set_within}
use Rattle.ambiguity.proofs.Sums.{sum_congr, sum_same, sets_one, ByMembers, pairs_over, triples_over, pairs, triples}
use Rattle.ambiguity.proofs.Tuples.{tuples_power}
use Rattle.ambiguity.proofs.ReadLaws.{Inside, all_bit, listed_by_bits}

-- ---- the days listed

module _ (n : ℕ) (ok : allowed_n n ≡ true) where
  abbrev W : List ℕ → ℕ
  W S = 2 ^ zeros (all_bit S) (lg n)

  -- of a set that is not empty
  listed_of : (k : ℕ) (S : List ℕ) → S among sets_of (suc k) (up_from 0 n) → days_listed n S ≡ W S
  listed_of k S m = go S (set_size (suc k) (up_from 0 n) S m) (λ x i. let b = up_from_bounds 0 n x (set_within (suc k) (up_from 0 n) S m x i) in omega arith)
    where
      go : (R : List ℕ) → length R ≡ suc k → Inside n R → days_listed n R ≡ W R
      go [] e f = absurd (omega arith)
      go (x ∷ R) e f = listed_by_bits n (x ∷ R) ok f x (Memᴰ.head refl)

  listed_sum : (k : ℕ) → listed n (suc k) ≡ sum_over W (sets_of (suc k) (up_from 0 n))
  unfolding listed offset_sets
  listed_sum k = sum_congr (days_listed n) W (sets_of (suc k) (up_from 0 n)) (λ S m. listed_of k S m)

  by_members : ByMembers W
  by_members S T h =
      ap (λ z. 2 ^ z) (zeros_congr (all_bit S) (all_bit T) (lg n) (λ j l. bool_ext (all_bit S j) (all_bit T j)
      (λ e. every_of (λ o. bit_of o j) T (λ x m. every_at (λ o. bit_of o j) (has_mem x S (h x ∙ mem_has m)) e))
      (λ e. every_of (λ o. bit_of o j) S (λ x m. every_at (λ o. bit_of o j) (has_mem x T (sym (h x) ∙ mem_has m)) e))))

  power : n ≡ 2 ^ lg n
  power = (allowed_n_is n ok).power

  singles_sum : sum_over (λ x. W (x ∷ [])) (up_from 0 n) ≡ 3 ^ lg n
  singles_sum = ap (λ y. sum_over (λ x. W (x ∷ [])) (up_from 0 y)) power ∙ tuples_power (lg n) 1

  pairs_sum : pairs_over W (up_from 0 n) ≡ 7 ^ lg n
  pairs_sum = ap (λ y. pairs_over W (up_from 0 y)) power ∙ tuples_power (lg n) 2

  triples_sum : triples_over W (up_from 0 n) ≡ 15 ^ lg n
  triples_sum = ap (λ y. triples_over W (up_from 0 y)) power ∙ tuples_power (lg n) 3

-- ---- how many sets there are

module _ (n : ℕ) where
  abbrev one : List ℕ → ℕ
  one S = 1

  count_sum : (k : ℕ) → sets n k ≡ sum_over one (sets_of k (up_from 0 n))
  unfolding sets offset_sets
  count_sum k = sym (sum_same 1 (sets_of k (up_from 0 n)) ∙ omega arith)

  each : (c : ℕ) → sum_over (λ x. c) (up_from 0 n) ≡ n * c
  each c = sum_same c (up_from 0 n) ∙ ap (λ y. y * c) (length-up_from 0 n)

-- ---- closed forms

-- a number of each k, by sums over single numbers, pairs and triples
pub record BySums (f : ℕ → ℕ) (one two three : ℕ) : Type 0 where
  pub single : f 1 ≡ one
  pub pair : two ≡ one + 2 * f 2
  pub triple : three ≡ one + 6 * f 2 + 6 * f 3

pub listed_sums : (n : ℕ) → allowed_n n ≡ true → BySums (listed n) (3 ^ lg n) (7 ^ lg n) (15 ^ lg n)
listed_sums n ok =
    let xs = up_from 0 n in
    let a = listed_sum n ok 0 ∙ sets_one (W n ok) xs ∙ singles_sum n ok in
    let b = listed_sum n ok 1 in
    let c = listed_sum n ok 2 in
    let p = pairs (W n ok) (by_members n ok) xs in
    let t = triples (W n ok) (by_members n ok) xs in
    let x = singles_sum n ok in
    let y = pairs_sum n ok in
    let z = triples_sum n ok in
    record { single = a; pair = omega arith; triple = omega arith }

pub sets_sums : (n : ℕ) → BySums (sets n) n (n * n) (n * n * n)
sets_sums n =
    let xs = up_from 0 n in
    let a = count_sum n 1 ∙ sets_one (one n) xs in
    let b = count_sum n 2 in
    let c = count_sum n 3 in
    let same : ByMembers (one n) = λ S T h. refl in
    let p = pairs (one n) same xs in
    let t = triples (one n) same xs in
    let x = each n 1 in
    let y = each n (sum_over (λ v. 1) xs) in
    let z = each n (sum_over (λ w. sum_over (λ v. 1) xs) xs) in
    let u : n * sum_over (λ v. 1) xs ≡ n * n = ap (λ r. n * r) (x ∙ mul-one n) in
    let v : n * sum_over (λ w. sum_over (λ v. 1) xs) xs ≡ n * n * n = ap (λ r. n * r) (y ∙ u) ∙ sym (mul_assoc n n n) in
    record { single = omega arith; pair = omega arith; triple = omega arith }

pub figures_told : FiguresTold
figures_told n ok =
    let l = listed_sums n ok in
    let s = sets_sums n in
    record {
      sets_1 = s.single;
      sets_2 = omega arith;
      sets_3 = omega arith;
      listed_1 = l.single;
      listed_2 = omega arith;
      listed_3 = omega arith;
    }
