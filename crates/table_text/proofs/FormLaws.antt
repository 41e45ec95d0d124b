-- A text is formed exactly if it is laid out as 01 and 02 say, and then its numbers are those of its fields.
use mathlib.Core.{Path.◌≡◌, Path.refl, Path.sym, Path.ap, Path.◌∙◌, Logic.inl, Logic.inr, Bool.true, Bool.false, Bool.◌&&◌}
use mathlib.Core.List.{List, [], ◌∷◌, ◌++◌, map}
use Prim.Native.Nat.{ℕ}
use lib.Dec.{eqb}
use Rattle.lists.specs.Lists.{same}
use Rattle.lists.proofs.Laws.{split, and_both, same_eq}
use Rattle.number_text.specs.Numbers.{is_digit, digit_of, digits, after_digits, number_from, Number, is_field, value_in, after_field}
use Rattle.number_text.proofs.FieldLaws.{digits_before, after_before, laid_field, laid_value, laid_rest, digits_again, digits_split, field_number, field_text}
use Rattle.reading.specs.Numbers.{validation_before}
use Rattle.table_text.specs.Text.{from_n, from_f, from_d, from_passed, has_passed, last_field, last_line, is_formed, n_in, f_in, d_in, passed_in, outcomes_in}
use Rattle.table_text.specs.Statements.{Parts, Laid, LaidWithPassed, ReadAs, LaidIsRead, LaidWithPassedIsRead, FormedIsLaid}

-- ---- the first four fields, the mark m after them, and r after it

module _ (s a b c e o : List ℕ) (m : ℕ) (r : List ℕ) (P : Parts a b c e o) (k : is_digit m ≡ false)
    (text : s ≡ a ++ (44 ∷ (b ++ (44 ∷ (c ++ (44 ∷ (e ++ (m ∷ r)))))))) where
  from_n_lem : from_n s ≡ b ++ (44 ∷ (c ++ (44 ∷ (e ++ (m ∷ r)))))
  from_n_lem = ap after_field text ∙ laid_rest a 44 (b ++ (44 ∷ (c ++ (44 ∷ (e ++ (m ∷ r)))))) P.scheme_ok refl

  from_f_lem : from_f s ≡ c ++ (44 ∷ (e ++ (m ∷ r)))
  from_f_lem = ap after_field from_n_lem ∙ laid_rest b 44 (c ++ (44 ∷ (e ++ (m ∷ r)))) P.n_ok refl

  from_d_lem : from_d s ≡ e ++ (m ∷ r)
  from_d_lem = ap after_field from_f_lem ∙ laid_rest c 44 (e ++ (m ∷ r)) P.f_ok refl

  from_passed_lem : from_passed s ≡ r
  from_passed_lem = ap after_field from_d_lem ∙ laid_rest e m r P.d_ok k

  -- a fifth field comes where the mark is a comma
  by_mark : has_passed s ≡ eqb m 44
  unfolding has_passed is_field
  by_mark = ap (is_field 44) from_d_lem ∙ rw (digits_before e m r P.d_ok.only_digits k, P.d_ok.shaped, after_before e m r P.d_ok.only_digits k)

  n_is : n_in s ≡ number_from 0 b
  n_is = ap value_in from_n_lem ∙ laid_value b 44 _ P.n_ok refl

  f_is : f_in s ≡ number_from 0 c
  f_is = ap value_in from_f_lem ∙ laid_value c 44 _ P.f_ok refl

  d_is : d_in s ≡ number_from 0 e
  d_is = ap value_in from_d_lem ∙ laid_value e m r P.d_ok k

  validation_is : validation_before (n_in s) (f_in s) (d_in s) ≡ validation_before (number_from 0 b) (number_from 0 c) (number_from 0 e)
  validation_is = rw (n_is, f_is, d_is)

  -- ---- with the last field and the second line

  module _ (x : List ℕ) (X : Number x) (last : last_field s ≡ x ++ (10 ∷ (o ++ (10 ∷ [])))) where
    last_line_lem : last_line s ≡ o ++ (10 ∷ [])
    last_line_lem = ap after_field last ∙ laid_rest x 10 (o ++ (10 ∷ [])) X refl

    laid_formed : is_formed s ≡ true
    unfolding is_formed
    laid_formed =
        rw (
          ap (is_field 44) text ∙ laid_field a 44 _ P.scheme_ok refl,
          ap (is_field 44) from_n_lem ∙ laid_field b 44 _ P.n_ok refl,
          ap (is_field 44) from_f_lem ∙ laid_field c 44 _ P.f_ok refl,
          ap (is_field 10) last ∙ laid_field x 10 _ X refl,
          ap after_digits last_line_lem ∙ after_before o 10 [] P.outcomes_ok refl,
        )

    read_as : (p : ℕ) → passed_in s ≡ p → ReadAs s a b c e p o
    unfolding outcomes_in
    read_as p q =
        record {
          formed = laid_formed;
          scheme_is = ap value_in text ∙ laid_value a 44 _ P.scheme_ok refl;
          n_is = n_is;
          f_is = f_is;
          d_is = d_is;
          passed_is = q;
          outcomes_are = ap (map digit_of) (ap digits last_line_lem ∙ digits_before o 10 [] P.outcomes_ok refl);
        }

pub laid_is_read : LaidIsRead
laid_is_read s a b c e o l =
    let r = o ++ (10 ∷ []) in
    let four : has_passed s ≡ false = by_mark s a b c e o 10 r l.parts refl l.text in
    read_as s a b c e o 10 r l.parts refl l.text e l.parts.d_ok (rw four (from_d_lem s a b c e o 10 r l.parts refl l.text)) _
    (rw four (validation_is s a b c e o 10 r l.parts refl l.text))

pub laid_with_passed_is_read : LaidWithPassedIsRead
laid_with_passed_is_read s a b c e p o l =
    let r = p ++ (10 ∷ (o ++ (10 ∷ []))) in
    let five : has_passed s ≡ true = by_mark s a b c e o 44 r l.parts refl l.text in
    let from : from_passed s ≡ r = from_passed_lem s a b c e o 44 r l.parts refl l.text in
    read_as s a b c e o 44 r l.parts refl l.text p l.passed_ok (rw five from) _ (rw five (ap value_in from ∙ laid_value p 10 _ l.passed_ok refl))

-- ---- the other direction

module _ (s : List ℕ) (e : is_formed s ≡ true) where
  pieces : (is_field 44 s ≡ true) × (is_field 44 (from_n s) ≡ true) × (is_field 44 (from_f s) ≡ true) × (is_field 10 (last_field s) ≡ true) ×
      (same (after_digits (last_line s)) (10 ∷ []) ≡ true)
  unfolding is_formed
  pieces =
      let h = and_both (is_field 44 s) (is_field 44 (from_n s) && (is_field 44 (from_f s) && (is_field 10 (last_field s) && same (after_digits (last_line s)) (10 ∷ [])))) e in
      let i = and_both (is_field 44 (from_n s)) (is_field 44 (from_f s) && (is_field 10 (last_field s) && same (after_digits (last_line s)) (10 ∷ []))) h.1 in
      let j = and_both (is_field 44 (from_f s)) (is_field 10 (last_field s) && same (after_digits (last_line s)) (10 ∷ [])) i.1 in
      let k = and_both (is_field 10 (last_field s)) (same (after_digits (last_line s)) (10 ∷ [])) j.1 in
      (h.0, i.0, j.0, k.0, k.1)

  -- up to D, and from the last field on
  to_d : s ≡ digits s ++ (44 ∷ (digits (from_n s) ++ (44 ∷ (digits (from_f s) ++ (44 ∷ from_d s)))))
  to_d =
      field_text 44 s pieces.0 ∙ ap (λ r. digits s ++ (44 ∷ r))
      (field_text 44 (from_n s) pieces.1 ∙ ap (λ r. digits (from_n s) ++ (44 ∷ r)) (field_text 44 (from_f s) pieces.2))

  from_last : last_field s ≡ digits (last_field s) ++ (10 ∷ (digits (last_line s) ++ (10 ∷ [])))
  from_last =
      field_text 10 (last_field s) pieces.3 ∙
      ap (λ r. digits (last_field s) ++ (10 ∷ r)) (digits_split (last_line s) ∙ ap (λ r. digits (last_line s) ++ r) (same_eq (after_digits (last_line s)) (10 ∷ []) pieces.4))

  joined : {r : List ℕ} → from_d s ≡ r → s ≡ digits s ++ (44 ∷ (digits (from_n s) ++ (44 ∷ (digits (from_f s) ++ (44 ∷ r)))))
  joined h = to_d ∙ ap (λ r. digits s ++ (44 ∷ (digits (from_n s) ++ (44 ∷ (digits (from_f s) ++ (44 ∷ r)))))) h

  split_parts : Number (digits (from_d s)) → Parts (digits s) (digits (from_n s)) (digits (from_f s)) (digits (from_d s)) (digits (last_line s))
  split_parts d =
      record {
        scheme_ok = field_number 44 s pieces.0;
        n_ok = field_number 44 (from_n s) pieces.1;
        f_ok = field_number 44 (from_f s) pieces.2;
        d_ok = d;
        outcomes_ok = digits_again (last_line s);
      }

  -- where the last field begins
  module _ {r : List ℕ} (l : last_field s ≡ r) where
    last_number : Number (digits r)
    last_number = field_number 10 r (ap (is_field 10) (sym l) ∙ pieces.3)

    last_text : r ≡ digits r ++ (10 ∷ (digits (last_line s) ++ (10 ∷ [])))
    last_text = sym l ∙ from_last ∙ ap (λ x. digits x ++ (10 ∷ (digits (last_line s) ++ (10 ∷ [])))) l

  four : has_passed s ≡ false → Laid s (digits s) (digits (from_n s)) (digits (from_f s)) (digits (from_d s)) (digits (last_line s))
  four h = let l : last_field s ≡ from_d s = rw h in record { parts = split_parts (last_number l); text = joined (last_text l) }

  five : has_passed s ≡ true → LaidWithPassed s (digits s) (digits (from_n s)) (digits (from_f s)) (digits (from_d s)) (digits (from_passed s)) (digits (last_line s))
  unfolding has_passed
  five h =
      let l : last_field s ≡ from_passed s = rw h in
      record {
        parts = split_parts (field_number 44 (from_d s) h);
        passed_ok = last_number l;
        text = joined (field_text 44 (from_d s) h ∙ ap (λ x. digits (from_d s) ++ (44 ∷ x)) (last_text l));
      }

pub formed_is_laid : FormedIsLaid
formed_is_laid s e = (
  digits s,
  digits (from_n s),
  digits (from_f s),
  digits (from_d s),
  digits (from_passed s),
  digits (last_line s),
  elim (split (has_passed s)) [ inl h ↦ inr (five s e h) | inr h ↦ inl (four s e h) ],
)
