-- Laws of the two lines: their fields, their end, their outcomes.
use Rattle.std.specs.Prelude.{Option, Some, None}
use Rattle.std.specs.Borrow.{Bor}
use mathlib.Core.Path.{◌≡◌, refl, sym, ap, ◌∙◌}
use mathlib.Core.Bool.{Bool, true, false, and-false, cond}
use mathlib.Core.List.{List, [], ◌∷◌, ◌++◌, map, append_assoc, map-append}
use Prim.Native.Nat.{ℕ, suc, ◌+◌, ◌≤◌, ◌<◌}
use native.Mathlib.{Numerals.add-one, Omega.arith}
use lib.{Dec.eqb, Seq.take-suc, Seq.drop-cons, Seq.length-take-le, Seq.set_at}
use lib.ListN.{length, get_or, set, take, drop, length-map}
use Rattle.lists.specs.Lists.{same}
use Rattle.number_text.specs.Numbers.{digit_of, digits, after_digits, is_field, value_in, after_field}
use Rattle.table_text.specs.Text.{is_formed, from_d, has_passed, last_field, last_line}
use Rattle.table_text.specs.Private.{from_last, LineEndIs, TypedIs}
use Rattle.table_text.specs.declared.input.LineEnd.{LineEnd}

-- ---- the end

pub end_not : (xs : List ℕ) → (length xs ≡ 1 → ⊥) → false ≡ same xs (10 ∷ [])
end_not [] n = refl
end_not (x ∷ []) n = absurd (n refl)
end_not (x ∷ y ∷ xs) n = sym (and-false (eqb x 10))

-- ---- the fields

-- what a value says of its field
no_field : (b : Bool) (x : ℕ) {v : Option ℕ} → v ≡ cond b (Some x) None → v ≡ None → b ≡ false
no_field true x e f = cc
no_field false x e f = refl

a_field : (b : Bool) (x : ℕ) {y : ℕ} {v : Option ℕ} → v ≡ cond b (Some x) None → v ≡ Some y → (b ≡ true) × (y ≡ x)
a_field true x e f = (refl, cc)
a_field false x e f = cc

-- ---- the two lines, by what follows each of the first three fields

module _ (s : List ℕ) {p q r : List ℕ} (P : p ≡ after_field s) (Q : q ≡ after_field p) (R : r ≡ after_field q) where
  at_f : q ≡ after_field (after_field s)
  at_f = Q ∙ ap after_field P

  at_d : r ≡ from_d s
  at_d = R ∙ ap after_field at_f

  at_last : from_last r ≡ last_field s
  unfolding has_passed
  at_last = ap from_last at_d

  -- a field that is none
  pub no_scheme : {v : Option ℕ} → v ≡ cond (is_field 44 s) (Some (value_in s)) None → v ≡ None → is_formed s ≡ false
  unfolding is_formed
  no_scheme e f = rw (no_field (is_field 44 s) (value_in s) e f)

  pub no_n : {v : Option ℕ} → v ≡ cond (is_field 44 p) (Some (value_in p)) None → v ≡ None → is_formed s ≡ false
  unfolding is_formed
  no_n e f = rw (ap (is_field 44) (sym P) ∙ no_field (is_field 44 p) (value_in p) e f) (and-false (is_field 44 s))

  pub no_f : {v : Option ℕ} → v ≡ cond (is_field 44 q) (Some (value_in q)) None → v ≡ None → is_formed s ≡ false
  unfolding is_formed
  no_f e f = rw (ap (is_field 44) (sym at_f) ∙ no_field (is_field 44 q) (value_in q) e f, and-false (is_field 44 (after_field s))) (and-false (is_field 44 s))

  pub no_last : is_field 10 (from_last r) ≡ false → is_formed s ≡ false
  unfolding is_formed
  no_last e =
      rw (ap (is_field 10) (sym at_last) ∙ e, and-false (is_field 44 (after_field (after_field s))), and-false (is_field 44 (after_field s)))
      (and-false (is_field 44 s))

  -- with the last field, and the digits after it
  module _ {e : LineEnd} (E : LineEndIs r e) {ds end : List ℕ} (D : ds ≡ digits e.rest.now) (F : end ≡ after_digits e.rest.now) {b : Bool} (g : b ≡ same end (10 ∷ [])) where
    at_line : e.rest.now ≡ last_line s
    at_line = E.rest_is ∙ ap after_field at_last

    ends : b ≡ same (after_digits (last_line s)) (10 ∷ [])
    ends = g ∙ ap (λ (x : List ℕ). same x (10 ∷ [])) (F ∙ ap after_digits at_line)

    pub no_end : b ≡ false → is_formed s ≡ false
    unfolding is_formed
    no_end f =
        rw (sym ends ∙ f, and-false (is_field 10 (last_field s)), and-false (is_field 44 (after_field (after_field s))), and-false (is_field 44 (after_field s)))
        (and-false (is_field 44 s))

    pub typed_is : {u v w : Option ℕ} {x y z : ℕ} → b ≡ true → u ≡ cond (is_field 44 s) (Some (value_in s)) None → u ≡ Some x →
        v ≡ cond (is_field 44 p) (Some (value_in p)) None → v ≡ Some y → w ≡ cond (is_field 44 q) (Some (value_in q)) None → w ≡ Some z →
        {o : Bor (List ℕ)} → o.now ≡ ds → TypedIs s (record { scheme = x; n = y; f = z; d = e.d; passed = e.passed; outcomes = o })
    unfolding is_formed has_passed
    typed_is f U u V v W w O =
        let A = a_field (is_field 44 s) (value_in s) U u in
        let B = a_field (is_field 44 p) (value_in p) V v in
        let C = a_field (is_field 44 q) (value_in q) W w in
        record {
          formed =
              rw (A.0, ap (is_field 44) (sym P) ∙ B.0, ap (is_field 44) (sym at_f) ∙ C.0, ap (is_field 10) (sym at_last) ∙ E.formed, sym ends ∙ f);
          scheme_is = A.1;
          n_is = B.1 ∙ ap value_in P;
          f_is = C.1 ∙ ap value_in at_f;
          d_is = E.d_is ∙ ap value_in at_d;
          passed_is = E.passed_is ∙ ap (λ (x : List ℕ). cond (is_field 44 x) (Some (value_in (after_field x))) None) at_d;
          outcomes_are = O ∙ D ∙ ap digits at_line;
        }

-- ---- the outcomes

pub outcomes_next : (ds old to : List ℕ) (i : ℕ) {x : ℕ} → i < length ds → length ds ≤ length old → to ≡ map digit_of (take i ds) ++ drop i old → x ≡ digit_of (get_or ds i 0) →
    set to i x ≡ map digit_of (take (i + 1) ds) ++ drop (i + 1) old
outcomes_next ds old to i {x} l h e f =
    let t : length (map digit_of (take i ds)) ≡ i = length-map (take i ds) digit_of ∙ length-take-le i ds (omega arith) in
    let m : map digit_of (take (suc i) ds) ≡ map digit_of (take i ds) ++ (x ∷ []) =
    ap (map digit_of) (take-suc ds i 0 l) ∙ map-append digit_of (take i ds) (get_or ds i 0 ∷ []) ∙ ap (λ (y : ℕ). map digit_of (take i ds) ++ (y ∷ [])) (sym f) in
    rw (add-one i)
    (ap (λ (y : List ℕ). set y i x) (e ∙ ap (λ (y : List ℕ). map digit_of (take i ds) ++ y) (drop-cons old i 0 (omega arith))) ∙
    set_at (map digit_of (take i ds)) (get_or old i 0) (drop (suc i) old) x i t ∙ sym (append_assoc (map digit_of (take i ds)) (x ∷ []) (drop (suc i) old)) ∙
    ap (λ (y : List ℕ). y ++ drop (suc i) old) (sym m))
