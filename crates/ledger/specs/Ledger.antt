-- A ledger (SPEC 2.4): bytes, and the ends of its days. Definitions only.
-- Day 1 has the index 0: the day of index i is day i + 1.
use Rattle.std.specs.Prelude.{Bool, true, ◌&&◌, List, [], ◌∷◌, ◌++◌, map, ℕ, zero, suc, ◌+◌, ◌-◌, leb, length, get_or}
use Rattle.std.specs.Prelude.{take, drop, Result}
use Rattle.layouts.specs.Layouts.{layout_tests}
use Rattle.refusals.specs.Refusals.{day_limit, Test, ◌or_refuse◌, tested, number_of}
use Rattle.refusals.specs.declared.Refusal.{Refusal}
use Rattle.refusals.specs.declared.Refusal.TheVariants as cause

-- 01's end of a day (SPEC 7.2): the number at its place
abbrev pub end_of : List ℕ → ℕ → ℕ
end_of ends i = get_or ends i 0

-- 01's start of a day (SPEC 7.2): day 1 starts at 0, every other where the one before ends
abbrev pub start_of : List ℕ → ℕ → ℕ
start_of ends zero = 0
start_of ends (suc i) = end_of ends i

-- 01's bytes of a day by ledger and ends (SPEC 7.2): those from its start to its end
abbrev pub day_at : List ℕ → List ℕ → ℕ → List ℕ
day_at ledger ends i = take (end_of ends i - start_of ends i) (drop (start_of ends i) ledger)

-- the indices 0 to d - 1
abbrev pub up_to : ℕ → List ℕ
up_to zero = []
up_to (suc i) = up_to i ++ (i ∷ [])

-- 01's days of a ledger (SPEC 7.2): the bytes of the days 1 to d
unfoldable pub days_of : List ℕ → List ℕ → ℕ → List (List ℕ)
days_of ledger ends d = map (day_at ledger ends) (up_to d)

-- days end to end: the ends of days whose bytes follow one another from a place on
abbrev pub ends_from : ℕ → List (List ℕ) → List ℕ
ends_from a [] = []
ends_from a (day ∷ days) = (a + length day) ∷ ends_from (a + length day) days

-- an end (SPEC 10.10) not below the one before, not beyond the ledger's size, and making no day over its limit
abbrev pub good_end : ℕ → ℕ → ℕ → Bool
good_end start end size = leb start end && leb end size && leb (end - start) day_limit

-- each of the first d ends is so
abbrev pub good_ends : ℕ → List ℕ → ℕ → Bool
good_ends zero ends size = true
good_ends (suc i) ends size = good_ends i ends size && good_end (start_of ends i) (end_of ends i) size

-- 01's tests 9 10 (SPEC 10.9, 10.10)
abbrev pub ends_tests : ℕ → List ℕ → ℕ → List Test
ends_tests d ends size = leb d (length ends) or_refuse cause.FewEnds ∷ good_ends d ends size or_refuse cause.BadEnd ∷ []

unfoldable pub ends_tested : ℕ → List ℕ → ℕ → Result Unit Refusal
ends_tested d ends size = tested (ends_tests d ends size)

abbrev pub ends_refusal : ℕ → List ℕ → ℕ → ℕ
ends_refusal d ends size = number_of (ends_tested d ends size)

-- 01's tests 1 2 3 7 9 10 (SPEC 11), with which checking a ledger and sealing one begin
abbrev pub ledger_tests : ℕ → ℕ → ℕ → ℕ → List ℕ → ℕ → List Test
ledger_tests scheme n f d ends size = layout_tests scheme n f d ++ ends_tests d ends size

unfoldable pub ledger_tested : ℕ → ℕ → ℕ → ℕ → List ℕ → ℕ → Result Unit Refusal
ledger_tested scheme n f d ends size = tested (ledger_tests scheme n f d ends size)

abbrev pub ledger_refusal : ℕ → ℕ → ℕ → ℕ → List ℕ → ℕ → ℕ
ledger_refusal scheme n f d ends size = number_of (ledger_tested scheme n f d ends size)
