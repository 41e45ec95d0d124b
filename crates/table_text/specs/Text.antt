-- The text that readtable takes, its tests, and the text that it prints. Definitions only.
use Rattle.std.specs.Prelude.{Bool, ◌&&◌, cond, List, [], ◌∷◌, ◌++◌, map, ℕ, leb, length, Result}
use Rattle.lists.specs.Lists.{same}
use Rattle.refusals.specs.Refusals.{Test, ◌or_refuse◌, tested, first_refusal, unless_refused}
use Rattle.refusals.specs.declared.Refusal.{Refusal}
use Rattle.refusals.specs.declared.Refusal.TheVariants as cause
use Rattle.layouts.specs.Layouts.{chains}
use Rattle.reading.specs.Numbers.{validation_before, last_good_day}
use Rattle.reading.specs.Contract.{Report, table_in, passed_tests, outcome_tests, listed_in, found}
use Rattle.number_text.specs.Numbers.{comma, line_feed, digit_of, digits, after_digits, is_field, value_in, after_field}
use Rattle.number_text.specs.Numbers.{comma_numbers}

-- ---- the two lines (SPEC 12.1, 19.5): `scheme,N,F,D` or `scheme,N,F,D,P`, and the outcomes

abbrev pub from_n : List ℕ → List ℕ
from_n s = after_field s

abbrev pub from_f : List ℕ → List ℕ
from_f s = after_field (from_n s)

abbrev pub from_d : List ℕ → List ℕ
from_d s = after_field (from_f s)

abbrev pub from_passed : List ℕ → List ℕ
from_passed s = after_field (from_d s)

-- D is followed by 02's P, a fifth field
unfoldable pub has_passed : List ℕ → Bool
has_passed s = is_field comma (from_d s)

-- the last field of the first line, P or D
abbrev pub last_field : List ℕ → List ℕ
last_field s = cond (has_passed s) (from_passed s) (from_d s)

abbrev pub last_line : List ℕ → List ℕ
last_line s = after_field (last_field s)

-- two lines, each ended by a line feed, nothing after; the first has four or five fields, the second digits only
unfoldable pub is_formed : List ℕ → Bool
is_formed s =
    is_field comma s && (is_field comma (from_n s) && (is_field comma (from_f s) &&
    (is_field line_feed (last_field s) && same (after_digits (last_line s)) (line_feed ∷ []))))

abbrev pub scheme_in : List ℕ → ℕ
scheme_in s = value_in s

abbrev pub n_in : List ℕ → ℕ
n_in s = value_in (from_n s)

abbrev pub f_in : List ℕ → ℕ
f_in s = value_in (from_f s)

abbrev pub d_in : List ℕ → ℕ
d_in s = value_in (from_d s)

-- 02's P (SPEC 19.5): the fifth field, or D − F·N for a line of four
abbrev pub passed_in : List ℕ → ℕ
passed_in s = cond (has_passed s) (value_in (from_passed s)) (validation_before (n_in s) (f_in s) (d_in s))

unfoldable pub outcomes_in : List ℕ → List ℕ
outcomes_in s = map digit_of (digits (last_line s))

-- ---- tests

-- 01's test 15 (SPEC 10.15) for form, length and D over 256
abbrev pub form_tests : Bool → ℕ → ℕ → List Test
form_tests formed size d = (formed && (leb size 1024 && leb d 256)) or_refuse cause.BadText ∷ []

-- then 1 2 3 7 19, and 15 for extra digits, of count digits
abbrev pub digit_tests : ℕ → ℕ → ℕ → ℕ → ℕ → ℕ → List Test
digit_tests scheme n f d passed count =
    passed_tests scheme n f d passed ++ (leb count (length (chains scheme n d)) or_refuse cause.BadText ∷ [])

unfoldable pub digits_tested : ℕ → ℕ → ℕ → ℕ → ℕ → ℕ → Result Unit Refusal
digits_tested scheme n f d passed count = tested (digit_tests scheme n f d passed count)

-- then 12 13 14
abbrev pub answer_tests : ℕ → ℕ → ℕ → ℕ → ℕ → List ℕ → List Test
answer_tests scheme n f d passed outcomes =
    digit_tests scheme n f d passed (length outcomes) ++ outcome_tests scheme n d outcomes

-- 01's tests of the program (SPEC 11.6)
abbrev pub text_tests : List ℕ → List Test
text_tests s =
    form_tests (is_formed s) (length s) (d_in s) ++
    answer_tests (scheme_in s) (n_in s) (f_in s) (d_in s) (passed_in s) (outcomes_in s)

unfoldable pub text_refusal : List ℕ → ℕ
text_refusal s = first_refusal (text_tests s)

-- ---- what is printed (SPEC 12.2 to 12.4)

-- a line: a word, numbers after a comma each, one line feed
unfoldable pub line : List ℕ → List ℕ → List ℕ
line word numbers = word ++ (comma_numbers numbers ++ (line_feed ∷ []))

-- NO and the number of the refusal
unfoldable pub no_line : ℕ → List ℕ
no_line number = line (78 ∷ 79 ∷ []) (number ∷ [])

-- REF, scheme, number listed, first listed, low, high, last good
unfoldable pub ref_line : ℕ → Report → List ℕ
ref_line scheme r =
    line (82 ∷ 69 ∷ 70 ∷ [])
    (scheme ∷ r.listed ∷ r.first ∷ r.low ∷ r.high ∷ r.last_good ∷ [])

-- DAY and the day, for each day
unfoldable pub day_lines : List ℕ → List ℕ
day_lines [] = []
day_lines (g ∷ gs) = line (68 ∷ 65 ∷ 89 ∷ []) (g ∷ []) ++ day_lines gs

-- what was found in a table, and the days listed
unfoldable pub table_lines : ℕ → ℕ → ℕ → ℕ → List ℕ → List ℕ
table_lines scheme n d passed outcomes =
    let days = listed_in scheme n d outcomes in
    ref_line scheme (found d passed days (last_good_day scheme n d (table_in scheme n d outcomes))) ++ day_lines days

-- the refusal alone, or these lines
abbrev pub printed : ℕ → List ℕ → List ℕ
printed refusal lines = unless_refused refusal lines (no_line refusal)

unfoldable pub text_of : List ℕ → List ℕ
text_of s = printed (text_refusal s) (table_lines (scheme_in s) (n_in s) (d_in s) (passed_in s) (outcomes_in s))
