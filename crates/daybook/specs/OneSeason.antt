-- Demand 3 as 01 has it, with one season alone (SPEC 23.6): a case of the claim for seasons. The list of calls stays in
-- season 0: 01's diary, which knows no season, refuses none of them with 5.
use Rattle.std.specs.Prelude.{◌≡◌, true, List, map, ℕ, ◌*◌, ◌≤◌, length, take}
use Rattle.lists.specs.Lists.{◌among◌}
use Rattle.refusals.specs.Refusals.{number_of}
use Rattle.layouts.specs.Layouts.{allowed_d, chains}
use Rattle.ledger.specs.Ledger.{ends_refusal}
use Rattle.chains.specs.Book.{book_of}
use Rattle.service.specs.Contract.{opened}
use Rattle.journal.specs.Journal.{empty, refusals}
use Rattle.journal.specs.Run.{Call, argument_of, answers, book_written, journal_of}
use Rattle.reading.specs.Contract.{allowed_passed}
use Rattle.daybook.specs.Detection.{Handed, Premises, SealedApart, Detected}

-- the days sealed by the calls, 01's entries of the diary (SPEC 6.2); and the book that the calls wrote (SPEC 5.7)
abbrev pub sealed : ℕ → ℕ → List Call → List (List ℕ)
sealed scheme n cs = (journal_of scheme n cs).entries

abbrev pub wrote : ℕ → ℕ → ℕ → List Call → List ℕ
wrote scheme n f cs = book_written (opened scheme n f).state cs

-- ---- the claim

module _ (scheme n f : ℕ) (cs : List Call) where
  -- the premises p to s and u for all days sealed, in the request's words: the book begins with the one that the calls
  -- wrote
  pub record AllPremises (x : Handed) : Type 0 where
    pub allowed : allowed_d n f (length (sealed scheme n cs)) ≡ true
    pub begins : take (length (wrote scheme n f cs)) x.book ≡ wrote scheme n f cs
    pub ends_pass : ends_refusal (length (sealed scheme n cs)) x.ends (length x.ledger) ≡ 0
    pub work_long : 32 * length (sealed scheme n cs) ≤ length x.work
    pub outcomes_long : length (chains scheme n (length (sealed scheme n cs))) ≤ length x.outcomes
    pub list_long : length (sealed scheme n cs) ≤ length x.list
    pub passed_ok : allowed_passed n (length (sealed scheme n cs)) x.passed ≡ true

  pub record Guarantee : Type 0 where
    -- a: the service refuses exactly the calls that the diary refuses, with the same number
    pub refused : answers (opened scheme n f).state cs ≡ refusals scheme n empty (map argument_of cs)
    -- b: the book that the calls wrote is 01's values over the diary's entries, in book order
    pub book : wrote scheme n f cs ≡ book_of scheme n (sealed scheme n cs)
    -- for every number of days that 01 allows, up to all days sealed
    pub every : (d : ℕ) (x : Handed) → Premises scheme n f (sealed scheme n cs) (wrote scheme n f cs) d x →
        SealedApart scheme n (sealed scheme n cs) d x → Detected scheme n f (sealed scheme n cs) d x
    -- for all days sealed
    pub all : (x : Handed) → AllPremises x →
        SealedApart scheme n (sealed scheme n cs) (length (sealed scheme n cs)) x →
        Detected scheme n f (sealed scheme n cs) (length (sealed scheme n cs)) x

-- from the record of an accepted open, for every list of calls that 01's diary refuses none of with 5
abbrev pub OneSeason : Type 0
OneSeason =
    (scheme n f : ℕ) → number_of (opened scheme n f).answer ≡ 0 → (cs : List Call) →
    (5 among refusals scheme n empty (map argument_of cs) → ⊥) → Guarantee scheme n f cs
