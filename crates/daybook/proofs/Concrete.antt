-- The law of checking at a hash that computes, in a case where its premise holds and a day is changed: the premise can be met
-- by an altered ledger, and the law is not empty. Then a book under another layout, where that law's premise holds.
use mathlib.Core.{Path.◌≡◌, Path.refl, Path.sym, Path.ap, Path.◌∙◌, Logic.inl, Logic.inr}
use mathlib.Core.Bool.{Bool, true, not, ◌&&◌, ◌||◌}
use mathlib.Core.List.Memᴰ
use mathlib.Core.List.{List, [], ◌∷◌, ◌++◌}
use Prim.Native.Nat.{ℕ, zero, suc, ◌+◌, ◌*◌, ◌/◌, ◌%◌, ◌^◌}
use lib.ListN.{length}
use Rattle.lists.specs.Lists.{◌among◌, same}
use Rattle.evidence.specs.Evidence.{table_of, changed, values, check_outcomes, inputs, NoCollision}
use Rattle.lists.proofs.Laws.{true_or_false, or_split, and_both, same_eq, eq_same}
use Rattle.evidence.proofs.ValueLaws.{check_table}
use Rattle.layouts.specs.Layouts.{lg, names_through, chains}
use Rattle.layouts.proofs.Coverage.{chains_within}
use Rattle.chains.specs.Book.{start_input}

-- n bytes of a number, lowest first
abbrev bytes_of : ℕ → ℕ → List ℕ
bytes_of zero x = []
bytes_of (suc n) x = x % 256 ∷ bytes_of n (x / 256)

length-bytes_of : (n x : ℕ) → length (bytes_of n x) ≡ n
length-bytes_of zero x = refl
length-bytes_of (suc n) x = ap suc (length-bytes_of n (x / 256))

abbrev mix : ℕ → List ℕ → ℕ
mix a [] = a
mix a (b ∷ bs) = mix ((a * 65599 + b + 1) % 2 ^ 256) bs

unfoldable pub hash : List ℕ → List ℕ
hash x = bytes_of 32 (mix 7 x)

pub hash_length : (x : List ℕ) → length (hash x) ≡ 32
unfolding hash
hash_length x = length-bytes_of 32 (mix 7 x)

-- ---- the premise, as a test

abbrev apart : List ℕ → List (List ℕ) → Bool
apart x [] = true
apart x (y ∷ ys) = (not (same (hash x) (hash y)) || same x y) && apart x ys

abbrev all_apart : List (List ℕ) → List (List ℕ) → Bool
all_apart [] ys = true
all_apart (x ∷ xs) ys = apart x ys && all_apart xs ys

apart_told : (x : List ℕ) {y : List ℕ} {ys : List (List ℕ)} → y among ys → apart x ys ≡ true → hash x ≡ hash y → x ≡ y
apart_told x {y} (Memᴰ.head {x = z} {xs = zs} e) t h =
    let eq = eq_same (hash x) (hash z) (h ∙ ap hash e) in
    elim (or_split (not (same (hash x) (hash z))) (same x z) (and_both (not (same (hash x) (hash z)) || same x z) (apart x zs) t).0) [
      | inl n ↦ absurd (true_or_false (rw eq at n) refl)
      | inr s ↦ same_eq x z s ∙ sym e
    ]
apart_told x (Memᴰ.tail {x = z} {xs = zs} m) t h = apart_told x m (and_both (not (same (hash x) (hash z)) || same x z) (apart x zs) t).1 h

all_apart_lem : {x : List ℕ} {xs : List (List ℕ)} (ys : List (List ℕ)) → x among xs → all_apart xs ys ≡ true → (y : List ℕ) → y among ys → hash x ≡ hash y → x ≡ y
all_apart_lem {x} ys (Memᴰ.head {x = z} {xs = zs} e) t y m h = e ∙ apart_told z m (and_both (apart z ys) (all_apart zs ys) t).0 (ap hash (sym e) ∙ h)
all_apart_lem ys (Memᴰ.tail {x = z} {xs = zs} k) t y m h = all_apart_lem ys k (and_both (apart z ys) (all_apart zs ys) t).1 y m h

pub told : (xs ys : List (List ℕ)) → all_apart xs ys ≡ true → NoCollision hash xs ys
told xs ys t x y mx my h = all_apart_lem ys mx t y my h

-- ---- a case, under scheme 3 with N 2

-- the start, and all inputs hashed for the chains over the four days of a ledger, the start's three bytes among them
abbrev start_of : ℕ → ℕ → List ℕ
start_of s n = hash (start_input s n)

abbrev all_inputs : ℕ → ℕ → List (List ℕ) → List (List ℕ)
all_inputs s n L = start_input s n ∷ inputs hash (start_of s n) (chains s n 4) 4 L

abbrev sealed : List (List ℕ)
sealed = (5 ∷ []) ∷ (6 ∷ 7 ∷ []) ∷ [] ∷ (8 ∷ []) ∷ []

abbrev ledger : List (List ℕ)
ledger = (5 ∷ []) ∷ (6 ∷ 9 ∷ []) ∷ [] ∷ (8 ∷ []) ∷ []

apart_here : all_apart (all_inputs 3 2 sealed) (all_inputs 3 2 ledger) ≡ true
unfolding hash inputs chains names_through mathlib.Core.List.flat_map start_input lg
apart_here = refl

-- day 2 is changed
changed_here : changed 4 sealed ledger ≡ 2 ∷ []
unfolding changed
changed_here = refl

-- the premise holds, and by the law the check finds the table of day 2: its own value, those of days 1 to 2 and 1 to 4 fail
pub concrete : (rest : List ℕ) →
    NoCollision hash (all_inputs 3 2 sealed) (all_inputs 3 2 ledger) ×
    (check_outcomes hash (start_of 3 2) ledger (chains 3 2 4) (values hash (start_of 3 2) sealed (chains 3 2 4) ++ rest) ≡ 1 ∷ 0 ∷ 0 ∷ 1 ∷ 1 ∷ 1 ∷ 0 ∷ [])
unfolding table_of chains names_through mathlib.Core.List.flat_map changed
concrete rest =
    let p = told (all_inputs 3 2 sealed) (all_inputs 3 2 ledger) apart_here in (
      p,
      check_table hash hash_length (start_of 3 2) (hash_length (start_input 3 2)) (chains 3 2 4) 4 (chains_within 3 2 4) sealed ledger
          (λ x y a b. p x y (Memᴰ.tail a) (Memᴰ.tail b)) rest,
    )

-- ---- the same ledger, unaltered, under scheme 2: the premise of the law on another layout holds too, and no value passes

other_here : all_apart (all_inputs 3 2 sealed) (all_inputs 2 2 sealed) ≡ true
unfolding hash inputs chains names_through mathlib.Core.List.flat_map start_input lg
other_here = refl

other_fails : check_outcomes hash (start_of 2 2) sealed (chains 2 2 4) (values hash (start_of 3 2) sealed (chains 3 2 4)) ≡ 0 ∷ 0 ∷ 0 ∷ 0 ∷ 0 ∷ 0 ∷ []
unfolding hash chains names_through mathlib.Core.List.flat_map start_input lg
other_fails = refl

pub concrete_other : NoCollision hash (all_inputs 3 2 sealed) (all_inputs 2 2 sealed) ×
    (check_outcomes hash (start_of 2 2) sealed (chains 2 2 4) (values hash (start_of 3 2) sealed (chains 3 2 4)) ≡ 0 ∷ 0 ∷ 0 ∷ 0 ∷ 0 ∷ 0 ∷ [])
concrete_other = (told (all_inputs 3 2 sealed) (all_inputs 2 2 sealed) other_here, other_fails)
