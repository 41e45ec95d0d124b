-- 01's reading (SPEC 8), with 02's P (SPEC 19): its tests, what it says, and the list after it. Definitions only.
use Rattle.std.specs.Prelude.{Bool, true, false, ◌&&◌, ◌||◌, List, [], ◌∷◌, ◌++◌, ℕ, eqb, leb, ltb, length, take}
use Rattle.std.specs.Prelude.{Result}
use Rattle.evidence.specs.Evidence.{listing, accepted}
use Rattle.refusals.specs.Refusals.{Test, ◌or_refuse◌, tested, number_of, unless_refused, front_written}
use Rattle.refusals.specs.declared.Refusal.{Refusal}
use Rattle.refusals.specs.declared.Refusal.TheVariants as cause
use Rattle.layouts.specs.Layouts.{divides, layout_tests, chains}
use Rattle.reading.specs.Numbers.{low_of, last_good_day}
use Rattle.reading.specs.declared.Reading.{Reading}
use Rattle.reading.specs.declared.Reading.TheVariants.{Clean, Changed, Refused}

-- ---- what reading says

-- 01's number and values (SPEC 8.6): the refusal (0 for none), whether the result is clean, and the five numbers
pub record Report : Type 0 where
  pub refusal : ℕ
  pub clean : Bool
  pub listed : ℕ
  pub first : ℕ
  pub low : ℕ
  pub high : ℕ
  pub last_good : ℕ

abbrev pub clean_report : ℕ → Report
clean_report d = record { refusal = 0; clean = true; listed = 0; first = 0; low = 0; high = 0; last_good = d }

abbrev pub refused_report : ℕ → Report
refused_report number =
    record { refusal = number; clean = false; listed = 0; first = 0; low = 0; high = 0; last_good = 0 }

-- for each case of the answer (SPEC 8.10)
unfoldable pub report_of : ℕ → Reading → Report
report_of d Clean = clean_report d
report_of d (Changed m) =
    record {
      refusal = 0;
      clean = false;
      listed = m.listed;
      first = m.first;
      low = m.low;
      high = m.high;
      last_good = m.last_good;
    }
report_of d (Refused number) = refused_report number

-- 01's five numbers (SPEC 8.6), in 01's order
abbrev pub five_numbers : Report → List ℕ
five_numbers r = r.listed ∷ r.first ∷ r.low ∷ r.high ∷ r.last_good ∷ []

-- ---- tests

-- 01's table (SPEC 8.2): the outcomes needed, one for each value; those past them are not read (SPEC 8.1)
abbrev pub table_in : ℕ → ℕ → ℕ → List ℕ → List ℕ
table_in scheme n d outcomes = take (length (chains scheme n d)) outcomes

-- each is 0 or 1
abbrev pub bits : List ℕ → Bool
bits [] = true
bits (o ∷ os) = (eqb o 0 || eqb o 1) && bits os

-- 01's tests 12 13 14 (SPEC 10.12, 10.13, 10.14)
abbrev pub outcome_tests : ℕ → ℕ → ℕ → List ℕ → List Test
outcome_tests scheme n d outcomes =
    leb (length (chains scheme n d)) (length outcomes) or_refuse cause.FewOutcomes ∷
    bits (table_in scheme n d outcomes) or_refuse cause.BadOutcome ∷
    accepted (chains scheme n d) d (table_in scheme n d outcomes) or_refuse cause.NoSet ∷
    []

-- 01's tests 8 12 13 14 (SPEC 10.8); places is the list's length
abbrev pub table_tests : ℕ → ℕ → ℕ → List ℕ → ℕ → List Test
table_tests scheme n d outcomes places = leb d places or_refuse cause.ShortBuffer ∷ outcome_tests scheme n d outcomes

-- the P that 02 allows (SPEC 19.3): below D, and N divides it
abbrev pub allowed_passed : ℕ → ℕ → ℕ → Bool
allowed_passed n d passed = ltb passed d && divides n passed

-- 01's tests 1 2 3 7, then 02's test 19 (SPEC 10.19)
abbrev pub passed_tests : ℕ → ℕ → ℕ → ℕ → ℕ → List Test
passed_tests scheme n f d passed =
    layout_tests scheme n f d ++ (allowed_passed n d passed or_refuse cause.BadPassed ∷ [])

unfoldable pub passed_tested : ℕ → ℕ → ℕ → ℕ → ℕ → Result Unit Refusal
passed_tested scheme n f d passed = tested (passed_tests scheme n f d passed)

abbrev pub passed_refusal : ℕ → ℕ → ℕ → ℕ → ℕ → ℕ
passed_refusal scheme n f d passed = number_of (passed_tested scheme n f d passed)

-- tests 1 2 3 7 19 8 12 13 14 (SPEC 11.5)
abbrev pub read_tests : ℕ → ℕ → ℕ → ℕ → ℕ → List ℕ → ℕ → List Test
read_tests scheme n f d passed outcomes places =
    passed_tests scheme n f d passed ++ table_tests scheme n d outcomes places

unfoldable pub read_tested : ℕ → ℕ → ℕ → ℕ → ℕ → List ℕ → ℕ → Result Unit Refusal
read_tested scheme n f d passed outcomes places = tested (read_tests scheme n f d passed outcomes places)

abbrev pub read_refusal : ℕ → ℕ → ℕ → ℕ → ℕ → List ℕ → ℕ → ℕ
read_refusal scheme n f d passed outcomes places = number_of (read_tested scheme n f d passed outcomes places)

-- ---- the call

-- 01's listed days (SPEC 8.5) of an accepted table
unfoldable pub listed_in : ℕ → ℕ → ℕ → List ℕ → List ℕ
listed_in scheme n d outcomes = listing (chains scheme n d) d (table_in scheme n d outcomes)

-- 01's result (SPEC 8.6): clean if no day is listed; else changed, with the numbers, low being 02's (SPEC 19.2)
unfoldable pub found : ℕ → ℕ → List ℕ → ℕ → Report
found d passed [] last_good = clean_report d
found d passed (g ∷ gs) last_good =
    record {
      refusal = 0;
      clean = false;
      listed = length (g ∷ gs);
      first = g;
      low = low_of passed g;
      high = d;
      last_good = last_good;
    }

-- all that a call leaves: what it says, and the list
pub record Readout : Type 0 where
  pub report : Report
  pub list : List ℕ

-- what was found, and the listed days before what stood in the list; a refusal says its number and changes nothing
unfoldable pub readout : ℕ → ℕ → ℕ → ℕ → ℕ → List ℕ → List ℕ → Readout
readout scheme n f d passed outcomes list =
    let refusal = read_refusal scheme n f d passed outcomes (length list) in
    record {
      report =
          unless_refused refusal
          (found d passed (listed_in scheme n d outcomes) (last_good_day scheme n d (table_in scheme n d outcomes)))
          (refused_report refusal);
      list = front_written refusal (listed_in scheme n d outcomes) list;
    }
