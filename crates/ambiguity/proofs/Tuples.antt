-- The days listed for k numbers below 2^m, repetition allowed, added up over all of them: bit by bit each sum is a power.
use mathlib.Core.{Path.◌≡◌, Path.refl, Path.sym, Path.ap, Path.ap₂, Path.◌∙◌, Logic.inl, Logic.inr}
use mathlib.Core.Bool.{Bool, true, false, ◌&&◌, cond}
use Prim.Native.Nat.{ℕ, zero, suc, ◌+◌, ◌*◌, ◌/◌, ◌%◌, ◌^◌, ◌<◌}
use native.Mathlib.{Nat.pow-succ', Nat.pow-zero, Nat.div-eq_of_lt, Omega.arith}
use lib.{Arith.digits_div, Arith.digits_mod, Dec.eqb}
use Rattle.lists.specs.Lists.{up_from}
use Rattle.lists.proofs.Laws.{split, up_from-append, up_from_bounds}
use Rattle.acceptance.proofs.Runs.{bit_low}
use Rattle.listing.specs.Private.{bit_of}
use Rattle.tile_laws.proofs.TileLaws.{zeros, zeros_congr}
use Rattle.ambiguity.specs.Ambiguity.{sum_over}
use Rattle.ambiguity.proofs.Sums.{sum_append, sum_congr, sum_both, sum_scale, sum_later}

-- ---- bits of a number below 2^m, and of one 2^m further on

top_0 : (m x : ℕ) → x < 2 ^ m → bit_of x m ≡ false
top_0 m x l = rw (div-eq_of_lt l)

top_1 : (m x : ℕ) → x < 2 ^ m → bit_of (2 ^ m + x) m ≡ true
top_1 m x l =
    let e : 2 ^ m + x ≡ 1 * 2 ^ m + x = omega arith in
    rw (e, digits_div 1 {m = 2 ^ m} {r = x} l)

low_same : (m j x : ℕ) → j < m → x < 2 ^ m → bit_of (2 ^ m + x) j ≡ bit_of x j
low_same m j x h l =
    let e : 2 ^ m + x ≡ 1 * 2 ^ m + x = omega arith in
    let f : (2 ^ m + x) % 2 ^ m ≡ x = rw (e, digits_mod 1 {m = 2 ^ m} {r = x} l) in
    ap (λ y. eqb y 1) (sym (bit_low (2 ^ m + x) m j h) ∙ ap (λ y. y / 2 ^ j % 2) f)

-- ---- tuples

-- bit j is 1 in x too
abbrev both : (ℕ → Bool) → ℕ → ℕ → Bool
both p x j = bit_of x j && p j

-- over k numbers below 2^m, p being the bits that are 1 in all those before them
abbrev tuples : ℕ → ℕ → (ℕ → Bool) → ℕ
tuples m zero p = 2 ^ zeros p m
tuples m (suc k) p = sum_over (λ x. tuples m k (both p x)) (up_from 0 (2 ^ m))

tuples_congr : (m k : ℕ) (p q : ℕ → Bool) → ((j : ℕ) → j < m → p j ≡ q j) → tuples m k p ≡ tuples m k q
tuples_congr m zero p q f = ap (λ z. 2 ^ z) (zeros_congr p q m f)
tuples_congr m (suc k) p q f =
    sum_congr (λ x. tuples m k (both p x)) (λ x. tuples m k (both q x)) (up_from 0 (2 ^ m))
    (λ x i. tuples_congr m k (both p x) (both q x) (λ j h. ap (λ b. bit_of x j && b) (f j h)))

-- what one bit more multiplies by, by whether it is 1 in those before: 2 for each choice of the k bits but all 1
abbrev factor : ℕ → Bool → ℕ
factor zero b = cond b 1 2
factor (suc k) b = factor k false + factor k b

halves : (f : ℕ → ℕ) (m : ℕ) → sum_over f (up_from 0 (2 ^ suc m)) ≡ sum_over (λ x. f x + f (2 ^ m + x)) (up_from 0 (2 ^ m))
halves f m =
    let two : 2 ^ suc m ≡ 2 ^ m + 2 ^ m = let e = pow-succ' 2 m in omega arith in
    let z : 0 + 2 ^ m ≡ 2 ^ m + 0 = omega arith in
    ap (λ k. sum_over f (up_from 0 k)) two ∙ ap (sum_over f) (up_from-append 0 (2 ^ m) (2 ^ m)) ∙
    sum_append f (up_from 0 (2 ^ m)) (up_from (0 + 2 ^ m) (2 ^ m)) ∙
    ap (λ r. sum_over f (up_from 0 (2 ^ m)) + r) (ap (λ i. sum_over f (up_from i (2 ^ m))) z ∙ sum_later f (2 ^ m) 0 (2 ^ m)) ∙
    sym (sum_both f (λ x. f (2 ^ m + x)) (up_from 0 (2 ^ m)))

tuples_bit : (m k : ℕ) (p : ℕ → Bool) → tuples (suc m) k p ≡ factor k (p m) * tuples m k p
tuples_bit m zero p = elim (split (p m)) [
  | inl e ↦ let s : 0 + zeros p m ≡ zeros p m = omega arith in rw e (ap (λ z. 2 ^ z) s ∙ omega arith)
  | inr e ↦ let s : 1 + zeros p m ≡ suc (zeros p m) = omega arith in rw e (ap (λ z. 2 ^ z) s ∙ pow-succ' 2 (zeros p m))
]
tuples_bit m (suc k) p =
    halves (λ x. tuples (suc m) k (both p x)) m ∙
    sum_congr (λ x. tuples (suc m) k (both p x) + tuples (suc m) k (both p (2 ^ m + x))) (λ x. (factor k false + factor k (p m)) * tuples m k (both p x)) (up_from 0 (2 ^ m))
    (λ x i.
    let l : x < 2 ^ m = let b = up_from_bounds 0 (2 ^ m) x i in omega arith in
    let a = tuples_bit m k (both p x) ∙ ap (λ b. factor k (b && p m) * tuples m k (both p x)) (top_0 m x l) in
    let c = tuples_bit m k (both p (2 ^ m + x)) ∙ ap₂ (λ b r. factor k (b && p m) * r) (top_1 m x l)
    (tuples_congr m k (both p (2 ^ m + x)) (both p x) (λ j h. ap (λ b. b && p j) (low_same m j x h l))) in
    omega arith) ∙
    sum_scale (factor k false + factor k (p m)) (λ x. tuples m k (both p x)) (up_from 0 (2 ^ m))

one_tuple : (k : ℕ) (p : ℕ → Bool) → tuples 0 k p ≡ 1
one_tuple zero p = refl
one_tuple (suc k) p = let e = one_tuple k (both p 0) in omega arith

pub tuples_power : (m k : ℕ) → tuples m k (λ j. true) ≡ factor k true ^ m
tuples_power zero k = one_tuple k (λ j. true) ∙ sym (pow-zero (factor k true))
tuples_power (suc m) k = tuples_bit m k (λ j. true) ∙ ap (λ r. factor k true * r) (tuples_power m k) ∙ sym (pow-succ' (factor k true) m)
