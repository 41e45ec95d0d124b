-- Laws of reading numbers: digits, numbers, marks, fields.
use mathlib.Core.{Path.◌≡◌, Path.refl, Path.sym, Path.ap, Path.◌∙◌, Logic.inl, Logic.inr, Bool.Bool}
use mathlib.Core.{Bool.true, Bool.false, Bool.cond, Bool.not, Bool.◌&&◌, Bool.◌||◌, Bool.and-true, List.List, List.[], List.◌∷◌, List.◌++◌}
use Prim.Native.Nat.{ℕ, zero, suc, ◌+◌, ◌*◌, ◌≤◌, ◌<◌}
use native.Mathlib.{Numerals.add-one, Omega.arith}
use lib.{Dec.eqb, Dec.leb, Seq.take_all, Seq.take-suc, Seq.drop-append_seam}
use lib.ListN.{length, length-drop, get_or, take, drop, take-append-drop}
use Rattle.std.proofs.lemmas.Bool.Decides.{nat_tests}
use borrow.Author.Tests.{eq-eqb, eqb-true, leb-true}
use Rattle.lists.proofs.Laws.{split, true_or_false, and_both, up_from_mem, every_at}
use Rattle.lists.specs.Lists.{up_from}
use Rattle.std.specs.Prelude.{Some, None}
use Rattle.std.specs.List.{take_while}
use Rattle.std.specs.List as list
use Rattle.std.proofs.lemmas.List.Sums.{take_while-cons}
use Rattle.number_text.specs.Numbers.{is_digit, digit_of, digits, after_digits, is_number, number_from, Number, starts_with, is_field, value_in, after_field}

-- ---- digits

-- what is taken while digits stand
taken_lem : (s : List ℕ) → take_while is_digit s ≡ digits s
taken_lem [] = refl
taken_lem (b ∷ s) = take_while-cons is_digit b s ∙ ap (λ (r : List ℕ). cond (is_digit b) (b ∷ r) []) (taken_lem s)

pub digits_take : (s : List ℕ) → take (length (digits s)) s ≡ digits s
digits_take [] = refl
digits_take (b ∷ s) = elim (split (is_digit b)) [ inl e ↦ rw e (ap (λ r. b ∷ r) (digits_take s)) | inr e ↦ rw e ]

pub digits_most : (s : List ℕ) → length (digits s) ≤ length s
digits_most [] = omega arith
digits_most (b ∷ s) = let h = digits_most s in elim (split (is_digit b)) [ inl e ↦ rw e (omega arith) | inr e ↦ rw e (omega arith) ]

-- digits and what follows them, by their count
module _ (s : List ℕ) {k : ℕ} (e : k ≡ length (take_while is_digit s)) where
  count_is : k ≡ length (digits s)
  count_is = e ∙ ap length (taken_lem s)

  pub count_within : k ≤ length s
  count_within = omega (arith, count_is, digits_most s)

  pub count_front : take k s ≡ digits s
  count_front = ap (λ (i : ℕ). take i s) count_is ∙ digits_take s

  pub count_back : drop k s ≡ after_digits s
  unfolding after_digits
  count_back = ap (λ (i : ℕ). drop i s) count_is

pub ruleset by_count = (count_within, count_front, count_back)

-- what follows a field is no longer than the text
pub after_most : (s : List ℕ) → length (after_field s) ≤ length s
unfolding after_field after_digits
after_most s = omega (arith, length-drop 1 (drop (length (digits s)) s), length-drop (length (digits s)) s)

-- ---- a number

pub number_short : (ds : List ℕ) → is_number ds ≡ true → length ds ≤ 5
unfolding is_number
number_short ds e =
    let h = (and_both (leb 1 (length ds) && leb (length ds) 5) (eqb (length ds) 1 || not (eqb (get_or ds 0 0) 48)) e).0 in
    leb-true (length ds) 5 (and_both (leb 1 (length ds)) (leb (length ds) 5) h).1

pub number_snoc : (v : ℕ) (ds : List ℕ) (b : ℕ) → number_from v (ds ++ (b ∷ [])) ≡ 10 * number_from v ds + digit_of b
number_snoc v [] b = refl
number_snoc v (x ∷ ds) b = number_snoc (10 * v + digit_of x) ds b

pub number_next : (ds : List ℕ) (i v : ℕ) {x y : ℕ} → i < length ds → v ≡ number_from 0 (take i ds) → y ≡ digit_of (get_or ds i 0) → x ≡ y → 10 * v + x ≡ number_from 0 (take (i + 1) ds)
number_next ds i v l e f g = rw (e, g, f, add-one i, take-suc ds i 0 l) (sym (number_snoc 0 (take i ds) (get_or ds i 0)))

-- with bytes for digits it stays below this
abbrev pub most : ℕ → ℕ
most zero = 29
most (suc i) = 10 * most i

most_in : (i : ℕ) → i < 5 → most i ≤ 290000
most_in i h = leb-true (most i) 290000 (every_at (λ i. leb (most i) 290000) {g = i} {xs = up_from 0 5} (up_from_mem 0 5 i (omega arith) h) refl)

pub number_small : (i v k : ℕ) → v + 29 ≤ most i → i < k → k ≤ 5 → v ≤ 290000
number_small i v k h l m = let w = most_in i (omega arith) in omega arith

-- ---- a field

same_either_way : (m b : ℕ) → eqb m b ≡ eqb b m
same_either_way m b = grind (arith, nat_tests)

starts_lem : (m : ℕ) (t : List ℕ) → list.starts_with eqb t (m ∷ []) ≡ starts_with m t
starts_lem m [] = refl
starts_lem m (b ∷ t) = and-true (eqb m b) ∙ same_either_way m b

-- its number, where it is as laid out
module _ (m : ℕ) (s : List ℕ) where
  pub field_some : is_number (digits s) ≡ true → list.starts_with eqb (after_digits s) (m ∷ []) ≡ true →
      Some (number_from 0 (take 5 (digits s))) ≡ cond (is_field m s) (Some (value_in s)) None
  unfolding is_field value_in
  field_some h k = rw (h, sym (starts_lem m (after_digits s)) ∙ k)

  pub field_none : {b : Bool} → b ≡ is_number (digits s) → b ≡ false → None ≡ cond (is_field m s) (Some (value_in s)) None
  unfolding is_field
  field_none e f = rw (sym e ∙ f)

  pub field_unmarked : is_number (digits s) ≡ true → list.starts_with eqb (after_digits s) (m ∷ []) ≡ false → None ≡ cond (is_field m s) (Some (value_in s)) None
  unfolding is_field
  field_unmarked h k = rw (h, sym (starts_lem m (after_digits s)) ∙ k)

-- the number in any case
pub first_value : (s : List ℕ) → number_from 0 (take 5 (digits s)) ≡ value_in s
unfolding value_in
first_value s = refl

pub ruleset field_laws = (field_some, field_none, field_unmarked, first_value)

-- ---- a field that is laid out

pub first_digit : (b : ℕ) (ds : List ℕ) → digits (b ∷ ds) ≡ b ∷ ds → (is_digit b ≡ true) × (digits ds ≡ ds)
first_digit b ds e = elim (split (is_digit b)) [ inl p ↦ (p, ap (drop 1) (rw p at e)) | inr p ↦ absurd (omega (arith, ap length (rw p at e))) ]

-- digits before a byte that is none
pub digits_before : (ds : List ℕ) (m : ℕ) (r : List ℕ) → digits ds ≡ ds → is_digit m ≡ false → digits (ds ++ (m ∷ r)) ≡ ds
digits_before [] m r e n = rw n
digits_before (b ∷ ds) m r e n = let h = first_digit b ds e in rw (h.0, digits_before ds m r h.1 n)

pub after_before : (ds : List ℕ) (m : ℕ) (r : List ℕ) → digits ds ≡ ds → is_digit m ≡ false → after_digits (ds ++ (m ∷ r)) ≡ m ∷ r
unfolding after_digits
after_before ds m r e n = ap (λ (x : List ℕ). drop (length x) (ds ++ (m ∷ r))) (digits_before ds m r e n) ∙ drop-append_seam ds (m ∷ r)

module _ (ds : List ℕ) (m : ℕ) (r : List ℕ) (k : Number ds) (n : is_digit m ≡ false) where
  pub laid_field : is_field m (ds ++ (m ∷ r)) ≡ true
  unfolding is_field
  laid_field = rw (digits_before ds m r k.only_digits n, k.shaped, after_before ds m r k.only_digits n, eq-eqb m m refl)

  pub laid_value : value_in (ds ++ (m ∷ r)) ≡ number_from 0 ds
  unfolding value_in
  laid_value = rw (digits_before ds m r k.only_digits n, take_all 5 ds (number_short ds k.shaped))

  pub laid_rest : after_field (ds ++ (m ∷ r)) ≡ r
  unfolding after_field
  laid_rest = ap (drop 1) (after_before ds m r k.only_digits n)

-- ---- what a field is laid out of

pub digits_again : (s : List ℕ) → digits (digits s) ≡ digits s
digits_again [] = refl
digits_again (b ∷ s) = elim (split (is_digit b)) [ inl p ↦ rw (p, p, digits_again s) | inr p ↦ rw p ]

starts_mark : (m : ℕ) (t : List ℕ) → starts_with m t ≡ true → t ≡ m ∷ drop 1 t
starts_mark m [] e = absurd (true_or_false e refl)
starts_mark m (b ∷ t) e = ap (λ (x : ℕ). x ∷ t) (eqb-true b m e)

pub digits_split : (s : List ℕ) → s ≡ digits s ++ after_digits s
unfolding after_digits
digits_split s = sym (take-append-drop (length (digits s)) s) ∙ ap (λ (x : List ℕ). x ++ drop (length (digits s)) s) (digits_take s)

module _ (m : ℕ) (s : List ℕ) (e : is_field m s ≡ true) where
  pub field_number : Number (digits s)
  unfolding is_field
  field_number = record { only_digits = digits_again s; shaped = (and_both (is_number (digits s)) (starts_with m (after_digits s)) e).0 }

  pub field_text : s ≡ digits s ++ (m ∷ after_field s)
  unfolding is_field after_field
  field_text = digits_split s ∙ ap (λ (x : List ℕ). digits s ++ x) (starts_mark m (after_digits s) (and_both (is_number (digits s)) (starts_with m (after_digits s)) e).1)
