-- 01's example of the program, a refusal, and two with 02's P, computed from the definitions.
use mathlib.Core.{Path.◌≡◌, Path.refl, List.[], List.◌∷◌, List.flat_map}
use Rattle.evidence.specs.Evidence.{table_of, listing, accepted}
use Rattle.layouts.specs.Layouts.{lg, names_through, chains_of_day, chains}
use Rattle.reading.specs.{Numbers.last_good_day, Contract.listed_in, Contract.found}
use Rattle.number_text.specs.Numbers.{after_digits, is_number, is_field, value_in, after_field, decimal}
use Rattle.table_text.specs.Text.{is_formed, has_passed, outcomes_in, text_refusal, line, no_line, ref_line, day_lines, table_lines, text_of}

-- `2,4,1,8` and `11110010` print `REF,2,2,6,5,8,4`, `DAY,6` and `DAY,8`
pub paper :
    text_of (50 ∷ 44 ∷ 52 ∷ 44 ∷ 49 ∷ 44 ∷ 56 ∷ 10 ∷ 49 ∷ 49 ∷ 49 ∷ 49 ∷ 48 ∷ 48 ∷ 49 ∷ 48 ∷ 10 ∷ []) ≡
    82 ∷ 69 ∷ 70 ∷ 44 ∷ 50 ∷ 44 ∷ 50 ∷ 44 ∷ 54 ∷ 44 ∷ 53 ∷ 44 ∷ 56 ∷ 44 ∷ 52 ∷ 10 ∷ 68 ∷ 65 ∷ 89 ∷ 44 ∷ 54 ∷ 10 ∷ 68 ∷ 65 ∷ 89 ∷ 44 ∷ 56 ∷ 10 ∷ []
unfolding text_of text_refusal is_formed has_passed is_field is_number after_digits after_field value_in outcomes_in table_lines found listed_in listing accepted table_of last_good_day
    chains chains_of_day names_through flat_map lg ref_line day_lines line decimal
paper = refl

-- `1,2,1,2` and `22` print `NO,15`: the extra digit is found before the digit over 1
pub extra_first : text_of (49 ∷ 44 ∷ 50 ∷ 44 ∷ 49 ∷ 44 ∷ 50 ∷ 10 ∷ 50 ∷ 50 ∷ 10 ∷ []) ≡ 78 ∷ 79 ∷ 44 ∷ 49 ∷ 53 ∷ 10 ∷ []
unfolding text_of text_refusal is_formed has_passed is_field is_number after_digits after_field value_in outcomes_in no_line chains chains_of_day names_through flat_map lg line decimal
extra_first = refl

-- with 02's P: `1,2,1,6,0` and `100` print `REF,1,4,3,2,6,2` and the days 3 to 6; low is 4 where the first line is `1,2,1,6`
pub never_passed :
    text_of (49 ∷ 44 ∷ 50 ∷ 44 ∷ 49 ∷ 44 ∷ 54 ∷ 44 ∷ 48 ∷ 10 ∷ 49 ∷ 48 ∷ 48 ∷ 10 ∷ []) ≡
    82 ∷ 69 ∷ 70 ∷ 44 ∷ 49 ∷ 44 ∷ 52 ∷ 44 ∷ 51 ∷ 44 ∷ 50 ∷ 44 ∷ 54 ∷ 44 ∷ 50 ∷ 10 ∷ 68 ∷ 65 ∷ 89 ∷ 44 ∷ 51 ∷ 10 ∷ 68 ∷ 65 ∷ 89 ∷ 44 ∷ 52 ∷ 10 ∷
    68 ∷ 65 ∷ 89 ∷ 44 ∷ 53 ∷ 10 ∷ 68 ∷ 65 ∷ 89 ∷ 44 ∷ 54 ∷ 10 ∷ []
unfolding text_of text_refusal is_formed has_passed is_field is_number after_digits after_field value_in outcomes_in table_lines found listed_in listing accepted table_of last_good_day
    chains chains_of_day names_through flat_map lg ref_line day_lines line decimal
never_passed = refl

-- `1,2,1,6,6` and `1000` print `NO,19`: a P that is not below D is found before the extra digit
pub not_below_first : text_of (49 ∷ 44 ∷ 50 ∷ 44 ∷ 49 ∷ 44 ∷ 54 ∷ 44 ∷ 54 ∷ 10 ∷ 49 ∷ 48 ∷ 48 ∷ 48 ∷ 10 ∷ []) ≡ 78 ∷ 79 ∷ 44 ∷ 49 ∷ 57 ∷ 10 ∷ []
unfolding text_of text_refusal is_formed has_passed is_field is_number after_digits after_field value_in outcomes_in no_line chains chains_of_day names_through flat_map lg line decimal
not_below_first = refl
