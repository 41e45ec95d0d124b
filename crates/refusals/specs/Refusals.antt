-- 01's refusals: limits; causes and their numbers; the tests of a call, in 01's order; what a call answers, and what a
-- refusal leaves. Definitions only.
use Rattle.std.specs.Prelude.{Bool, cond, List, [], ◌∷◌, ◌++◌, ℕ, zero, suc, length, drop, Result, Ok, Err}
use Rattle.refusals.specs.declared.Refusal.{Refusal}
use Rattle.refusals.specs.declared.Refusal.TheVariants as cause

-- 01's limits (SPEC 5.5): the days of a book, the bytes of a day
abbrev pub book_limit : ℕ
book_limit = 65536

abbrev pub day_limit : ℕ
day_limit = 16777216

-- 02's last season (SPEC 23.1); the first is 0
abbrev pub last_season : ℕ
last_season = 65535

-- 01's and 02's numbers of the causes (SPEC 10)
abbrev pub number : Refusal → ℕ
number cause.BadScheme = 1
number cause.BadN = 2
number cause.BadF = 3
number cause.LongDay = 4
number cause.LastSeasonFull = 5
number cause.BadRecord = 6
number cause.BadD = 7
number cause.ShortBuffer = 8
number cause.FewEnds = 9
number cause.BadEnd = 10
number cause.ShortBook = 11
number cause.FewOutcomes = 12
number cause.BadOutcome = 13
number cause.NoSet = 14
number cause.BadText = 15
number cause.FewLengths = 16
number cause.LongLength = 17
number cause.NotInBook = 18
number cause.BadPassed = 19
number cause.NotTree = 20
number cause.BadCount = 21

-- 01's number for each answer (SPEC 14.4): 0, or the refusal's
abbrev pub number_of : {A : Type 0} → Result A Refusal → ℕ
number_of (Ok value) = 0
number_of (Err refusal) = number refusal

-- a test of a call (SPEC 11): whether it passes, and the refusal where it does not
infix 70 ◌or_refuse◌
pub data Test : Type 0 where
  ◌or_refuse◌ : Bool → Refusal → Test

-- 01's refusal (SPEC 2.9, 9.1): that of the first test that finds its cause
abbrev pub tested : List Test → Result Unit Refusal
tested [] = Ok tt
tested (passes or_refuse refusal ∷ tests) = cond passes (tested tests) (Err refusal)

-- its number, 0 where none does
abbrev pub first_refusal : List Test → ℕ
first_refusal tests = number_of (tested tests)

-- what a call answers by its tests: a value, or the refusal
abbrev pub answered : {A : Type 0} → Result Unit Refusal → A → Result A Refusal
answered (Ok passed) value = Ok value
answered (Err refusal) value = Err refusal

-- what stands after a call (SPEC 9.1): the new, or after a refusal the old
abbrev pub unless_refused : {A : Type 0} → ℕ → A → A → A
unless_refused zero new old = new
unless_refused (suc x) new old = old

-- a lent buffer after a call (SPEC 2.8): what was written at its front, then what stood there; a refusal leaves it
abbrev pub front_written : ℕ → List ℕ → List ℕ → List ℕ
front_written refusal new buffer = unless_refused refusal (new ++ drop (length new) buffer) buffer
