-- Laws of writing numbers: decimals, numbers after commas.
use mathlib.Core.{Path.◌≡◌, Path.refl, Logic.inl, Logic.inr}
use mathlib.Core.List.{List, [], ◌∷◌, ◌++◌, append_assoc, append-nil}
use Prim.Native.Nat.{ℕ, zero, suc, ◌+◌, ◌-◌, ◌*◌, ◌/◌, ◌%◌, ◌≤◌, ◌<◌}
use native.Mathlib.{Numerals.add-one, Omega.arith}
use lib.{Dec.ltb, ListN.length, ListN.get_or, ListN.set, ListN.take, ListN.length-append}
use lib.Seq.{take-suc, length-take-le}
use borrow.Author.Tests.{lt-ltb, le-ltb}
use Rattle.lists.proofs.Laws.{split}
use Rattle.buffers.specs.Private.{Wrote}
use Rattle.buffers.proofs.Writes.{wrote_none, wrote_one, wrote_byte, wrote_join}
use Rattle.number_text.specs.Numbers.{decimal_in, decimal, comma_numbers}

-- ---- decimals

pub place_within : (at k n : ℕ) → (k ≡ 0 → ⊥) → at + k ≤ n → at < n
place_within at k n f h = omega arith

pub decimal_one : (k x : ℕ) → (k ≡ 0 → ⊥) → x < 10 → decimal_in k x ≡ (48 + x) ∷ []
decimal_one zero x n h = absurd (n refl)
decimal_one (suc k) x n h = rw (lt-ltb x 10 h)

-- a number of one digit is put
pub digit_put : (at k x : ℕ) (l : List ℕ) → (k ≡ 0 → ⊥) → x < 10 → at + k ≤ length l → Wrote at (decimal_in k x) l (at + 1) (set l at (48 + x))
digit_put at k x l z t h = wrote_one at (48 + x) (decimal_in k x) l (decimal_one k x z t) (place_within at k (length l) z h)

pub decimal_more : (k x : ℕ) → (k ≡ 0 → ⊥) → 10 ≤ x → decimal_in k x ≡ decimal_in (k - 1) (x / 10) ++ ((48 + x % 10) ∷ [])
decimal_more zero x n h = absurd (n refl)
decimal_more (suc k) x n h = let e : suc k - 1 ≡ k = omega arith in rw (le-ltb x 10 h, e)

pub decimal_most : (k x : ℕ) → length (decimal_in k x) ≤ k
decimal_most zero x = omega arith
decimal_most (suc k) x =
    let w = decimal_most k (x / 10) in
    let l = length-append (decimal_in k (x / 10)) ((48 + x % 10) ∷ []) in
    elim (split (ltb x 10)) [ inl e ↦ rw e (omega arith) | inr e ↦ rw e (omega arith) ]

pub decimal_room : (k x at b n : ℕ) (l m : List ℕ) → (k ≡ 0 → ⊥) → at + k ≤ length l → Wrote at (decimal_in (k - 1) x) l b m → n ≡ length l → b < n
decimal_room k x at b n l m z h w e = let f = decimal_most (k - 1) x in omega (arith, w.count)

pub decimal_next : (k x at b : ℕ) (l m : List ℕ) → (k ≡ 0 → ⊥) → 10 ≤ x → at + k ≤ length l → Wrote at (decimal_in (k - 1) (x / 10)) l b m → length m ≡ length l →
    Wrote at (decimal_in k x) l (b + 1) (set m b (48 + x % 10))
decimal_next k x at b l m z t h w e =
    wrote_byte at (48 + x % 10) (decimal_in k x) (decimal_in (k - 1) (x / 10)) l m b (decimal_more k x z t) (let f = decimal_most k x in omega arith) w e

-- ---- numbers after commas

pub number_put : (at x r : ℕ) (l m : List ℕ) → at + 11 ≤ length l → Wrote (at + 1) (decimal_in 10 x) (set l at 44) r m → Wrote at (44 ∷ decimal x) l r m
unfolding decimal
number_put at x r l m h w =
    wrote_join at (44 ∷ decimal_in 10 x) (44 ∷ []) (decimal_in 10 x) l (set l at 44) m (at + 1) r refl (let f = decimal_most 10 x in omega arith) (wrote_one at 44 (44 ∷ []) l refl (omega arith)) w

number_most : (x : ℕ) → length (44 ∷ decimal x) ≤ 11
unfolding decimal
number_most x = let f = decimal_most 10 x in omega arith

numbers_append : (xs ys : List ℕ) → comma_numbers (xs ++ ys) ≡ comma_numbers xs ++ comma_numbers ys
numbers_append [] ys = refl
numbers_append (x ∷ xs) ys = rw (numbers_append xs ys, append_assoc)

pub numbers_most : (xs : List ℕ) → length (comma_numbers xs) ≤ 11 * length xs
numbers_most [] = omega arith
numbers_most (x ∷ xs) = let a = number_most x in let b = numbers_most xs in let e = length-append (44 ∷ decimal x) (comma_numbers xs) in omega arith

numbers_snoc : (xs : List ℕ) (i : ℕ) → i < length xs → comma_numbers (take (i + 1) xs) ≡ comma_numbers (take i xs) ++ (44 ∷ decimal (get_or xs i 0))
numbers_snoc xs i h = rw (add-one i, take-suc xs i 0 h, numbers_append (take i xs) (get_or xs i 0 ∷ []), append-nil)

pub numbers_none : (at : ℕ) (xs l : List ℕ) → Wrote at (comma_numbers (take 0 xs)) l at l
numbers_none at xs l = wrote_none at (comma_numbers (take 0 xs)) l refl

pub numbers_room : (at i r n : ℕ) (xs l m : List ℕ) → i < length xs → at + 11 * length xs ≤ length l → n ≡ length l → Wrote at (comma_numbers (take i xs)) l r m → r + 11 ≤ n
numbers_room at i r n xs l m h b e w = let q = length-take-le i xs (omega arith) in let f = numbers_most (take i xs) in omega (arith, w.count)

pub numbers_next : (at i r t : ℕ) (xs l m k : List ℕ) → i < length xs → at + 11 * length xs ≤ length l → Wrote at (comma_numbers (take i xs)) l r m → Wrote r (44 ∷ decimal (get_or xs i 0)) m t k →
    Wrote at (comma_numbers (take (i + 1) xs)) l t k
numbers_next at i r t xs l m k h b w v =
    let q = length-take-le (i + 1) xs (omega arith) in
    let f = numbers_most (take (i + 1) xs) in
    wrote_join at (comma_numbers (take (i + 1) xs)) (comma_numbers (take i xs)) (44 ∷ decimal (get_or xs i 0)) l m k r t (numbers_snoc xs i h) (omega arith) w v
