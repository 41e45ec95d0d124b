-- Comparing values with the book.
use mathlib.Core.Path.{◌≡◌, refl, sym, ap, ◌∙◌}
use mathlib.Core.Bool.{◌&&◌}
use lib.Dec.{eqb}
use Rattle.std.specs.Cmp.Lexicographic.{pointwise}
use mathlib.Core.List.{List, [], ◌∷◌, ◌++◌, append_assoc}
use Prim.Native.Nat.{ℕ, suc, ◌+◌, ◌-◌, ◌*◌, ◌<◌}
use native.Mathlib.Numerals.{add-one}
use native.Mathlib.Omega.{arith}
use lib.ListN.{length, get_or, set, take, drop, length-drop}
use lib.Seq.{take_all, length-take-le, take-suc, set_at, drop-cons, drop-drop}
use Rattle.lists.specs.Lists.{same}
use Rattle.chains.specs.declared.Value.{Value}
use Rattle.comparing.specs.Private.{outcome_of, compared}

-- what `==` of slices computes
pub same_is : (xs ys : List ℕ) → pointwise eqb xs ys ≡ same xs ys
same_is [] [] = refl
same_is [] (y ∷ ys) = refl
same_is (x ∷ xs) [] = refl
same_is (x ∷ xs) (y ∷ ys) = ap (λ b. eqb x y && b) (same_is xs ys)

-- ---- outcomes at the front of a buffer

compared_append : (xs ys : List Value) (book : List ℕ) → compared (xs ++ ys) book ≡ compared xs book ++ compared ys (drop (32 * length xs) book)
unfolding compared
compared_append [] ys book = refl
compared_append (x ∷ xs) ys book =
    let e : 32 + 32 * length xs ≡ 32 * suc (length xs) = omega arith in
    ap (λ (r : List ℕ). outcome_of x book ∷ r)
    (compared_append xs ys (drop 32 book) ∙ ap (λ (r : List ℕ). compared xs (drop 32 book) ++ compared ys r) (drop-drop (32 * length xs) 32 book ∙ ap (λ (k : ℕ). drop k book) e))

pub compared_length : (xs : List Value) (book : List ℕ) → length (compared xs book) ≡ length xs
unfolding compared
compared_length [] book = refl
compared_length (x ∷ xs) book = ap suc (compared_length xs (drop 32 book))

one_compared : (v : Value) (book : List ℕ) → compared (v ∷ []) book ≡ outcome_of v book ∷ []
unfolding compared
one_compared v book = refl

-- a part up to the end
pub to_end : (xs : List ℕ) (at : ℕ) → take (length xs - at) (drop at xs) ≡ drop at xs
to_end xs at = take_all (length xs - at) (drop at xs) (rw length-drop (omega arith))

pub compared_next : (values : List Value) (book old outcomes : List ℕ) (j o : ℕ) (z : Value) → outcomes ≡ compared (take j values) book ++ drop j old → j < length values → j < length old
    → o ≡ outcome_of (get_or values j z) (take (length book - 32 * j) (drop (32 * j) book)) → set outcomes j o ≡ compared (take (j + 1) values) book ++ drop (j + 1) old
compared_next values book old outcomes j o z w h l p =
    let e : o ≡ outcome_of (get_or values j z) (drop (32 * j) book) = p ∙ ap (outcome_of (get_or values j z)) (to_end book (32 * j)) in
    let t : length (take j values) ≡ j = length-take-le j values (omega arith) in
    let c : length (compared (take j values) book) ≡ j = compared_length (take j values) book ∙ t in
    let m : compared (take (j + 1) values) book ≡ compared (take j values) book ++ (o ∷ []) =
    rw (add-one, take-suc values j z h) (compared_append (take j values) (get_or values j z ∷ []) book ∙ rw (t, one_compared, e)) in
    ap (λ (x : List ℕ). set x j o) (w ∙ ap (λ (x : List ℕ). compared (take j values) book ++ x) (drop-cons old j 0 l)) ∙
    set_at (compared (take j values) book) (get_or old j 0) (drop (suc j) old) o j c ∙
    sym (ap (λ (x : List ℕ). x ++ drop (j + 1) old) m ∙ append_assoc (compared (take j values) book) (o ∷ []) (drop (j + 1) old) ∙ rw add-one)
