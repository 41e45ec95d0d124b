-- Lists of numbers (SPEC 2.3): membership, tests over a list, runs of numbers. Definitions only.
use Rattle.std.specs.Prelude.{Bool, true, false, ◌&&◌, ◌||◌, cond, ℕ, zero, suc, ◌≤◌, eqb}
use mathlib.Core.List.{List, [], ◌∷◌, ◌++◌, Memᴰ}

infix 4 ◌among◌
abbrev pub ◌among◌ : {A : Type 0} → A → List A → Type 0  -- a stands in l: the library's membership
a among l = Memᴰ a l

abbrev pub has : ℕ → List ℕ → Bool  -- the test of it, for numbers
has g [] = false
has g (x ∷ xs) = eqb g x || has g xs

abbrev pub same : List ℕ → List ℕ → Bool  -- the test that two lists are equal
same [] [] = true
same [] (y ∷ ys) = false
same (x ∷ xs) [] = false
same (x ∷ xs) (y ∷ ys) = eqb x y && same xs ys

abbrev pub every : (ℕ → Bool) → List ℕ → Bool  -- each number passes a test
every p [] = true
every p (x ∷ xs) = p x && every p xs

abbrev pub keep : (ℕ → Bool) → List ℕ → List ℕ  -- the numbers that pass it, in order
keep p [] = []
keep p (x ∷ xs) = cond (p x) (x ∷ keep p xs) (keep p xs)

abbrev pub up_from : ℕ → ℕ → List ℕ  -- n numbers from i on
up_from i zero = []
up_from i (suc n) = i ∷ up_from (suc i) n

abbrev pub Ascends : ℕ → List ℕ → Type 0  -- ascending, each once, none below i
Ascends i [] = Unit {0}
Ascends i (x ∷ xs) = (i ≤ x) × Ascends (suc x) xs

abbrev pub first_of : List ℕ → ℕ  -- the first number, 0 if there is none
first_of [] = 0
first_of (x ∷ xs) = x

abbrev pub last_of : ℕ → List ℕ → ℕ  -- the last number, none if there is none
last_of none [] = none
last_of none (x ∷ xs) = last_of x xs

unfoldable pub joined : List (List ℕ) → List ℕ  -- lists end to end
joined [] = []
joined (l ∷ ls) = l ++ joined ls
