-- 01's diary (SPEC 6), here a journal: a plain account of a list of calls, fed only their arguments. It knows nothing
-- of records, answers or written bytes. Definitions only.
use Rattle.std.specs.Prelude.{List, [], ◌∷◌, ◌++◌, ℕ, suc, ◌+◌, ◌*◌, leb, ltb, length}
use Rattle.refusals.specs.Refusals.{book_limit, day_limit, Test, ◌or_refuse◌, first_refusal, unless_refused}
use Rattle.refusals.specs.declared.Refusal.TheVariants as cause
use Rattle.layouts.specs.Layouts.{chains_of_day}

-- 01's entries (SPEC 6.2), one for each closed day, its bytes; and the open day's bytes
pub record Journal : Type 0 where
  pub entries : List (List ℕ)
  pub day : List ℕ

-- it starts with no entry and an empty open day
abbrev pub empty : Journal
empty = record { entries = []; day = [] }

-- the arguments of a call (SPEC 6.1): a piece, or the length of the part lent
pub data Argument : Type 0 where
  adds : List ℕ → Argument
  closes : ℕ → Argument

-- 01's tests: add 5 4 (SPEC 6.3), close 5 8 (SPEC 6.4)
abbrev pub tests_of : ℕ → ℕ → Journal → Argument → List Test
tests_of scheme n j (adds piece) =
    ltb (length j.entries) book_limit or_refuse cause.LastSeasonFull ∷
    leb (length j.day + length piece) day_limit or_refuse cause.LongDay ∷
    []
tests_of scheme n j (closes size) =
    ltb (length j.entries) book_limit or_refuse cause.LastSeasonFull
    ∷ leb (32 * length (chains_of_day scheme n (suc (length j.entries)))) size or_refuse cause.ShortBuffer
    ∷ []

abbrev pub refusal_of : ℕ → ℕ → Journal → Argument → ℕ
refusal_of scheme n j a = first_refusal (tests_of scheme n j a)

-- the piece goes to the open day's end; the open day becomes the next entry and an empty one opens
abbrev pub entered : Journal → Argument → Journal
entered j (adds piece) = record { entries = j.entries; day = j.day ++ piece }
entered j (closes size) = record { entries = j.entries ++ (j.day ∷ []); day = [] }

-- a refused call changes nothing (SPEC 6.5)
abbrev pub kept : ℕ → ℕ → Journal → Argument → Journal
kept scheme n j a = unless_refused (refusal_of scheme n j a) (entered j a) j

-- the journal after a list of calls, and its refusals, one for each call (0 for none)
abbrev pub journal_after : ℕ → ℕ → Journal → List Argument → Journal
journal_after scheme n j [] = j
journal_after scheme n j (a ∷ later) = journal_after scheme n (kept scheme n j a) later

abbrev pub refusals : ℕ → ℕ → Journal → List Argument → List ℕ
refusals scheme n j [] = []
refusals scheme n j (a ∷ later) = refusal_of scheme n j a ∷ refusals scheme n (kept scheme n j a) later
