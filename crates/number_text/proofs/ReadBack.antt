-- What is written in decimal reads back.
use mathlib.Core.{Path.◌≡◌, Path.refl, Path.sym, Path.◌∙◌, Bool.true, Bool.or-true, Logic.inl, Logic.inr}
use mathlib.Core.List.{List, [], ◌∷◌, ◌++◌}
use Prim.Native.Nat.{ℕ, zero, suc, ◌+◌, ◌/◌, ◌%◌, ◌^◌, ◌≤◌, ◌<◌}
use native.Mathlib.{Nat.div-add-mod', Nat.mod-lt, Nat.div-lt_iff_lt-mul, Nat.pow-suc, Omega.arith}
use lib.{Dec.eqb, Dec.ltb, ListN.length, ListN.get_or, ListN.length-append, ListN.get_or-append}
use borrow.Author.Tests.{le-leb, lt-ltb, ltb-true, ltb-false, ne_eqb}
use Rattle.lists.proofs.Laws.{split}
use Rattle.number_text.specs.Numbers.{is_digit, digits, is_number, number_from, decimal_in, decimal}
use Rattle.number_text.specs.Statements.{ReadsBack, DecimalIsNumber}
use Rattle.number_text.proofs.FieldLaws.{number_snoc, first_digit}

digit_is : (x : ℕ) → x < 10 → is_digit (48 + x) ≡ true
digit_is x h = rw (le-leb 48 (48 + x) (omega arith), le-leb (48 + x) 57 (omega arith))

digits_snoc : (ds : List ℕ) (b : ℕ) → digits ds ≡ ds → is_digit b ≡ true → digits (ds ++ (b ∷ [])) ≡ ds ++ (b ∷ [])
digits_snoc [] b e h = rw h
digits_snoc (a ∷ ds) b e h = let q = first_digit a ds e in rw (q.0, digits_snoc ds b q.1 h)

-- a tenth has a digit less
tenth_below : (k x : ℕ) → x < 10 ^ suc k → x / 10 < 10 ^ k
tenth_below k x h = (div-lt_iff_lt-mul {k = 10} {x = x} {y = 10 ^ k} (omega arith)).1 (let p = pow-suc 10 k in omega arith)

-- the last digit is below 10
last_below : (x : ℕ) → x % 10 < 10
last_below x = mod-lt x (omega arith)

only_digits : (k x : ℕ) → digits (decimal_in k x) ≡ decimal_in k x
only_digits zero x = refl
only_digits (suc k) x = elim (split (ltb x 10)) [
  | inl e ↦ rw (e, digit_is x (ltb-true x 10 e))
  | inr e ↦ rw e (digits_snoc (decimal_in k (x / 10)) (48 + x % 10) (only_digits k (x / 10)) (digit_is (x % 10) (last_below x)))
]

reads_back_in : (k x : ℕ) → x < 10 ^ k → number_from 0 (decimal_in k x) ≡ x
reads_back_in zero x h = omega arith
reads_back_in (suc k) x h =
    let r = reads_back_in k (x / 10) (tenth_below k x h) in
    let s = number_snoc 0 (decimal_in k (x / 10)) (48 + x % 10) in
    let d = div-add-mod' x 10 in
    elim (split (ltb x 10)) [ inl e ↦ rw e (omega arith) | inr e ↦ rw e (omega arith) ]

-- no leading zero
record Leads (ds : List ℕ) : Type 0 where
  some : 1 ≤ length ds
  no_zero : get_or ds 0 0 ≡ 48 → ⊥

leads : (k x : ℕ) → 1 ≤ x → x < 10 ^ k → Leads (decimal_in k x)
leads zero x p h = absurd (omega arith)
leads (suc k) x p h = elim (split (ltb x 10)) [
  | inl e ↦ rw e (record { some = omega arith; no_zero = λ z. omega arith })
  | inr e ↦ let l = ltb-false x 10 e in
      let w = leads k (x / 10) (omega (arith, div-add-mod' x 10, last_below x)) (tenth_below k x h) in
      rw e (record {
        some = omega (arith, length-append (decimal_in k (x / 10)) ((48 + x % 10) ∷ []));
        no_zero = λ z. w.no_zero (sym (get_or-append (decimal_in k (x / 10)) ((48 + x % 10) ∷ []) 0 0 w.some) ∙ z);
      })
]

-- a number below 10^j has at most j digits
digits_most_in : (k j x : ℕ) → 1 ≤ j → x < 10 ^ j → length (decimal_in k x) ≤ j
digits_most_in zero j x p h = omega arith
digits_most_in (suc k) zero x p h = absurd (omega arith)
digits_most_in (suc k) (suc zero) x p h = rw (lt-ltb x 10 (omega arith)) (omega arith)
digits_most_in (suc k) (suc (suc i)) x p h =
    let r = digits_most_in k (suc i) (x / 10) (omega arith) (tenth_below (suc i) x h) in
    let l = length-append (decimal_in k (x / 10)) ((48 + x % 10) ∷ []) in
    elim (split (ltb x 10)) [ inl e ↦ rw e (omega arith) | inr e ↦ rw e (omega arith) ]

pub reads_back : ReadsBack
unfolding decimal
reads_back x h = (only_digits 10 x, reads_back_in 10 x h)

pub decimal_is_number : DecimalIsNumber
unfolding decimal is_number
decimal_is_number x h = record { only_digits = only_digits 10 x; shaped = go x h }
  where
    go : (y : ℕ) → y < 10 ^ 5 → is_number (decimal_in 10 y) ≡ true
    go zero l = refl
    go (suc y) l =
        let w = leads 10 (suc y) (omega arith) (omega arith) in
        let m = digits_most_in 10 5 (suc y) (omega arith) l in
        let D = decimal_in 10 (suc y) in
        rw (le-leb 1 (length D) w.some, le-leb (length D) 5 m, ne_eqb (get_or D 0 0) 48 w.no_zero) (or-true (eqb (length D) 1))
