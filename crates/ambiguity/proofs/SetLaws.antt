-- The sets of k offsets: each once, and no other.
use mathlib.Core.{Path.◌≡◌, Path.refl, Path.sym, Path.ap, Path.◌∙◌, Logic.inl, Logic.inr}
use mathlib.Core.List.Memᴰ
use mathlib.Core.List.{List, [], ◌∷◌, ◌++◌, map}
use Prim.Native.Nat.{ℕ, zero, suc, ◌+◌, ◌<◌}
use native.Mathlib.{Nat.eq-or-lt_of_le, Omega.arith}
use lib.ListN.{length}
use Rattle.lists.specs.Lists.{◌among◌, up_from, Ascends}
use Rattle.lists.proofs.Laws.{ascends_later, up_from_bounds, length-up_from}
use Rattle.ambiguity.specs.Ambiguity.{sets_of, offset_sets, sets, listed}
use Rattle.ambiguity.specs.Statements.{Different, EverySetOnce, NoSets}

-- ---- the members of a set

pub set_size : (k : ℕ) (xs S : List ℕ) → S among sets_of k xs → length S ≡ k
set_size zero xs S (Memᴰ.head e) = ap length e
set_size zero xs S (Memᴰ.tail m) = elim m [ ]
set_size (suc k) [] S m = elim m [ ]
set_size (suc k) (x ∷ xs) S m = elim (Memᴰ.append_cases (map (λ R. x ∷ R) (sets_of k xs)) m) [
  | inl h ↦ let r = Memᴰ.of_map (λ R. x ∷ R) (sets_of k xs) h in sym (ap length r.2) ∙ ap suc (set_size k xs r.0 r.1)
  | inr h ↦ set_size (suc k) xs S h
]

pub set_within : (k : ℕ) (xs S : List ℕ) → S among sets_of k xs → (y : ℕ) → y among S → y among xs
set_within zero xs S (Memᴰ.head e) y i = let z : y among [] = rw e at i in elim z [ ]
set_within zero xs S (Memᴰ.tail m) y i = elim m [ ]
set_within (suc k) [] S m y i = elim m [ ]
set_within (suc k) (x ∷ xs) S m y i = elim (Memᴰ.append_cases (map (λ R. x ∷ R) (sets_of k xs)) m) [
  | inl h ↦ let r = Memᴰ.of_map (λ R. x ∷ R) (sets_of k xs) h in
      let z : y among (x ∷ r.0) = rw r.2 i in
      elim (Memᴰ.cases_cons z) [ inl e ↦ Memᴰ.head e | inr j ↦ Memᴰ.tail (set_within k xs r.0 r.1 y j) ]
  | inr h ↦ Memᴰ.tail (set_within (suc k) xs S h y i)
]

-- ---- which sets there are

set_ascends : (k i n : ℕ) (S : List ℕ) → S among sets_of k (up_from i n) → Ascends i S
set_ascends zero i n S (Memᴰ.head e) = rw e tt
set_ascends zero i n S (Memᴰ.tail m) = elim m [ ]
set_ascends (suc k) i zero S m = elim m [ ]
set_ascends (suc k) i (suc n) S m = elim (Memᴰ.append_cases (map (λ R. i ∷ R) (sets_of k (up_from (suc i) n))) m) [
  | inl h ↦ let r = Memᴰ.of_map (λ R. i ∷ R) (sets_of k (up_from (suc i) n)) h in rw (← r.2) (omega arith, set_ascends k (suc i) n r.0 r.1)
  | inr h ↦ ascends_later S i (suc i) (omega arith) (set_ascends (suc k) (suc i) n S h)
]

set_there : (k i n : ℕ) (S : List ℕ) → Ascends i S → length S ≡ k → ((x : ℕ) → x among S → x < i + n) → S among sets_of k (up_from i n)
set_there zero i n [] a e f = Memᴰ.head refl
set_there zero i n (x ∷ S) a e f = absurd (omega arith)
set_there (suc k) i n [] a e f = absurd (omega arith)
set_there (suc k) i zero (x ∷ S) a e f = absurd (omega (arith, a.0, f x (Memᴰ.head refl)))
set_there (suc k) i (suc n) (x ∷ S) a e f = elim (eq-or-lt_of_le a.0) [
  | inl q ↦ let m : (i ∷ S) among map (λ R. i ∷ R) (sets_of k (up_from (suc i) n)) =
      Memᴰ.map (λ R. i ∷ R) (set_there k (suc i) n S (rw q a.1) (omega arith) (λ y h. omega (arith, f y (Memᴰ.tail h)))) in
      rw (← q) (Memᴰ.append_left (sets_of (suc k) (up_from (suc i) n)) m)
  | inr l ↦ Memᴰ.append_right (map (λ R. i ∷ R) (sets_of k (up_from (suc i) n)))
      (set_there (suc k) (suc i) n (x ∷ S) (l, a.1) e (λ y m. omega (arith, f y m)))
]

-- ---- each once

different_append : {A : Type 0} (xs ys : List A) → Different xs → Different ys → ((x : A) → x among xs → x among ys → ⊥) → Different (xs ++ ys)
different_append [] ys d e f = e
different_append (x ∷ xs) ys d e f = (
  λ m. elim (Memᴰ.append_cases xs m) [ inl h ↦ d.0 h | inr h ↦ f x (Memᴰ.head refl) h ],
  different_append xs ys d.1 e (λ y m h. f y (Memᴰ.tail m) h),
)

different_more : (i : ℕ) (xs : List (List ℕ)) → Different xs → Different (map (λ R. i ∷ R) xs)
different_more i [] d = tt
different_more i (S ∷ xs) d =
    (λ m. let r = Memᴰ.of_map (λ R. i ∷ R) xs m in d.0 (let e : r.0 ≡ S = cc r.2 in rw e at r.1), different_more i xs d.1)

sets_different : (k i n : ℕ) → Different (sets_of k (up_from i n))
sets_different zero i n = (λ m. elim m [ ], tt)
sets_different (suc k) i zero = tt
sets_different (suc k) i (suc n) =
    different_append (map (λ R. i ∷ R) (sets_of k (up_from (suc i) n))) (sets_of (suc k) (up_from (suc i) n))
    (different_more i (sets_of k (up_from (suc i) n)) (sets_different k (suc i) n)) (sets_different (suc k) (suc i) n)
    (λ S m h.
    let r = Memᴰ.of_map (λ R. i ∷ R) (sets_of k (up_from (suc i) n)) m in
    let a = rw (← r.2) at (set_ascends (suc k) (suc i) n S h) in
    omega (arith, a.0))

pub every_set_once : EverySetOnce
unfolding offset_sets
every_set_once n k =
    record {
      each = λ S. (
        λ m. (set_ascends k 0 n S m, set_size k (up_from 0 n) S m, λ x i. let b = up_from_bounds 0 n x (set_within k (up_from 0 n) S m x i) in omega arith),
        λ p. set_there k 0 n S p.0 p.1 (λ x m. omega (arith, p.2 x m)),
      );
      once = sets_different k 0 n;
    }

-- ---- too few numbers

none_short : (k : ℕ) (xs : List ℕ) → length xs < k → sets_of k xs ≡ []
none_short zero xs l = absurd (omega arith)
none_short (suc k) [] l = refl
none_short (suc k) (x ∷ xs) l = rw (none_short k xs (omega arith), none_short (suc k) xs (omega arith))

pub no_sets : NoSets
unfolding sets listed offset_sets
no_sets n k l = let e = none_short k (up_from 0 n) (rw (length-up_from 0 n) l) in rw e (refl, refl)
