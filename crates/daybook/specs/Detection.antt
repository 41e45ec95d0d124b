-- What checking and reading find out about a ledger, over the days that were sealed and the book that was written for
-- them, whoever sealed them: the premises (SPEC 9.3 p to u), and what then holds (SPEC 9.3 c to f). Definitions only.
use Rattle.std.specs.Prelude.{◌≡◌, ◌↔◌, true, not, ◌&&◌, List, [], ◌++◌, ℕ, ◌*◌, ◌≤◌, length, take, drop, Ok}
use Rattle.lists.specs.Lists.{◌among◌, keep, Ascends, last_of}
use Rattle.evidence.specs.Evidence.{days, meets, table_of, Gives, changed, NoCollision}
use Rattle.layouts.specs.Layouts.{divides, allowed_d, last_days, chains}
use Rattle.ledger.specs.Ledger.{days_of, ends_refusal}
use Rattle.sha256.specs.Sha256.{sha256}
use Rattle.chains.specs.Book.{inputs_of}
use Rattle.checking.specs.Contract.{Checked, checked, digests_of}
use Rattle.reading.specs.Numbers.{last_good_day}
use Rattle.reading.specs.Contract.{allowed_passed, found, Readout, readout}

-- what is handed to checking and reading: the altered ledger with its ends, the book, 02's P (SPEC 19.1), and the
-- buffers, with any contents
pub record Handed : Type 0 where
  pub ledger : List ℕ
  pub ends : List ℕ
  pub book : List ℕ
  pub passed : ℕ
  pub work : List ℕ
  pub outcomes : List ℕ
  pub list : List ℕ

-- 01's days of the ledger handed in (SPEC 7.2)
abbrev pub ledger_days : ℕ → Handed → List (List ℕ)
ledger_days d x = days_of x.ledger x.ends d

-- 01's changed days of 1 to d (SPEC 8.9): those whose bytes by ledger and ends differ from the sealed day's
abbrev pub changed_days : List (List ℕ) → ℕ → Handed → List ℕ
changed_days sealed d x = changed d sealed (ledger_days d x)

-- the last day that n divides with no changed day up to it, else 0
abbrev pub last_unchanged : ℕ → ℕ → List ℕ → ℕ
last_unchanged n d X = last_of 0 (keep (λ g. divides n g && not (meets X (last_days g g))) (days d))

-- ---- the two calls, by their contracts

module _ (scheme n f d : ℕ) (x : Handed) where
  -- check, and all that it leaves
  abbrev pub checking : Checked
  checking = checked scheme n f d x.ledger x.ends x.book x.work x.outcomes

  -- read, on the outcome buffer as check left it, and all that it leaves
  abbrev pub reading : Readout
  reading = readout scheme n f d x.passed checking.outcomes x.list

  -- the days that it listed
  abbrev pub listed_days : List ℕ
  listed_days = take reading.report.listed reading.list

-- ---- over the sealed days

module _ (scheme n : ℕ) (sealed : List (List ℕ)) (d : ℕ) (x : Handed) where
  -- the table that the changed days give
  abbrev pub table_of_changes : List ℕ
  table_of_changes = table_of (chains scheme n d) (changed_days sealed d x)

  -- premise t: no two different inputs, one hashed at sealing and one at checking, share a SHA-256 value
  abbrev pub SealedApart : Type 0
  SealedApart = NoCollision sha256 (inputs_of scheme n d sealed) (inputs_of scheme n d (ledger_days d x))

-- ---- the other premises, for the first d of the sealed days; written is the book that was written for all of them

pub record Premises (scheme n f : ℕ) (sealed : List (List ℕ)) (written : List ℕ) (d : ℕ) (x : Handed) : Type 0 where
  -- p: all are sealed, and 01 allows their number
  pub days_sealed : d ≤ length sealed
  pub allowed : allowed_d n f d ≡ true
  -- q: the book begins with the values of these days as they were written
  pub begins : take (32 * length (chains scheme n d)) x.book ≡ take (32 * length (chains scheme n d)) written
  -- r: there is an end for each day, passing tests 9 and 10
  pub ends_pass : ends_refusal d x.ends (length x.ledger) ≡ 0
  -- s: the buffers are long enough
  pub work_long : 32 * d ≤ length x.work
  pub outcomes_long : length (chains scheme n d) ≤ length x.outcomes
  pub list_long : d ≤ length x.list
  -- u: test 19 lets P pass
  pub passed_ok : allowed_passed n d x.passed ≡ true

-- ---- what checking and reading do then

pub record Detected (scheme n f : ℕ) (sealed : List (List ℕ)) (d : ℕ) (x : Handed) : Type 0 where
  -- c: check is done, and writes the digests of the ledger's days and exactly the table that the changed days give
  pub check_done : (checking scheme n f d x).answer ≡ Ok tt
  pub digests_written : (checking scheme n f d x).work ≡
      digests_of x.ledger x.ends d ++ drop (32 * d) x.work
  pub table_written : (checking scheme n f d x).outcomes ≡
      table_of_changes scheme n sealed d x ++ drop (length (chains scheme n d)) x.outcomes
  -- d: read is not refused; it lists, ascending and once each, exactly the days that belong to some set giving the
  -- table, and leaves the rest of the list
  pub read_done : (reading scheme n f d x).report.refusal ≡ 0
  pub counted : length (listed_days scheme n f d x) ≡ (reading scheme n f d x).report.listed
  pub ascending : Ascends 1 (listed_days scheme n f d x)
  pub listed : (g : ℕ) → (g among listed_days scheme n f d x) ↔
      ((S : List ℕ) × Gives (chains scheme n d) d S (table_of_changes scheme n sealed d x) × (g among S))
  pub rest_left : drop (reading scheme n f d x).report.listed (reading scheme n f d x).list ≡
      drop (reading scheme n f d x).report.listed x.list
  -- e: every changed day is there, and under the tree layout no other
  pub complete : (g : ℕ) → g among changed_days sealed d x → g among listed_days scheme n f d x
  pub exact : scheme ≡ 3 → (g : ℕ) → g among listed_days scheme n f d x → g among changed_days sealed d x
  -- f: the result says clean exactly when no day is changed, and its numbers are those of 01 (SPEC 8.6), low by P
  -- (SPEC 19.2)
  pub clean : ((reading scheme n f d x).report.clean ≡ true) ↔ (changed_days sealed d x ≡ [])
  pub numbers : (reading scheme n f d x).report ≡
      found d x.passed (listed_days scheme n f d x) (last_good_day scheme n d (table_of_changes scheme n sealed d x))
  -- last good, the last day whose black value passes, is the last that n divides with no changed day up to it
  pub last_good : last_good_day scheme n d (table_of_changes scheme n sealed d x) ≡
      last_unchanged n d (changed_days sealed d x)
