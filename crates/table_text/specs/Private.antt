-- What the private contracts say: a text that is formed, as it is read. Definitions only.
use Rattle.std.specs.Prelude.{◌≡◌, true, cond, List, [], ◌∷◌, ℕ, Some, None, unwrap_or}
use Rattle.refusals.specs.Refusals.{first_refusal}
use Rattle.reading.specs.Numbers.{validation_before}
use Rattle.reading.specs.declared.Numbers.{Numbers}
use Rattle.number_text.specs.Numbers.{comma, line_feed, digits, is_field, value_in, after_field}
use Rattle.table_text.specs.Text.{scheme_in, n_in, f_in, d_in, has_passed, from_passed, last_line, is_formed}
use Rattle.table_text.specs.Text.{answer_tests, table_lines, printed}
use Rattle.table_text.specs.declared.Typed.{Typed}
use Rattle.table_text.specs.declared.input.LineEnd.{LineEnd}

-- the line from D on: its last field, P's where there is one, else D's
abbrev pub from_last : List ℕ → List ℕ
from_last s = cond (is_field comma s) (after_field s) s

-- what stands there, where that field is one: D, P, what follows the line
pub record LineEndIs (s : List ℕ) (e : LineEnd) : Type 0 where
  pub formed : is_field line_feed (from_last s) ≡ true
  pub d_is : e.d ≡ value_in s
  pub passed_is : e.passed ≡ cond (is_field comma s) (Some (value_in (after_field s))) None
  pub rest_is : e.rest.now ≡ after_field (from_last s)

-- the text s, which is formed
pub record TypedIs (s : List ℕ) (t : Typed) : Type 0 where
  pub formed : is_formed s ≡ true
  pub scheme_is : t.scheme ≡ scheme_in s
  pub n_is : t.n ≡ n_in s
  pub f_is : t.f ≡ f_in s
  pub d_is : t.d ≡ d_in s
  pub passed_is : t.passed ≡ cond (has_passed s) (Some (value_in (from_passed s))) None
  pub outcomes_are : t.outcomes.now ≡ digits (last_line s)

-- the numbers of the line REF
abbrev pub numbers_in : ℕ → Numbers → List ℕ
numbers_in scheme r = scheme ∷ r.listed ∷ r.first ∷ r.low ∷ r.high ∷ r.last_good ∷ []

-- what is printed of a text that is formed
unfoldable pub answered : ℕ → ℕ → ℕ → ℕ → ℕ → List ℕ → List ℕ
answered scheme n f d passed outcomes =
    printed (first_refusal (answer_tests scheme n f d passed outcomes)) (table_lines scheme n d passed outcomes)

-- by its first line
abbrev pub answered_line : Typed → List ℕ → List ℕ
answered_line t outcomes =
    answered t.scheme t.n t.f t.d (unwrap_or t.passed (validation_before t.n t.f t.d)) outcomes
