-- 01's lists of add and close calls (SPEC 5.6), by what the calls' contracts say. Definitions only; the claim on every
-- such list is in daybook.
use Rattle.std.specs.Prelude.{Bool, cond, List, [], ◌∷◌, ◌++◌, map, ℕ, zero, suc, ◌+◌, ◌-◌, ◌*◌, eqb, length, take}
use Rattle.refusals.specs.Refusals.{number_of, unless_refused}
use Rattle.service.specs.declared.Record.{Record}
use Rattle.service.specs.Contract.{count_of, added, closing}
use Rattle.journal.specs.Journal.{Journal, empty, Argument, adds, closes, journal_after}
use Rattle.journal.specs.Seasons.{Seasons, first, seasons_after}

-- a call: add with its piece, close with the part lent to it, whatever it holds
pub data Call : Type 0 where
  add : List ℕ → Call
  close : List ℕ → Call

abbrev pub argument_of : Call → Argument
argument_of (add piece) = adds piece
argument_of (close part) = closes (length part)

-- what a call leaves: its answer's number, its record, what it wrote to the front of its part, the blocks that it
-- compressed (02, SPEC 17.3), and the days that it closed, 1 or 0
pub record Called : Type 0 where
  pub number : ℕ
  pub state : Record
  pub wrote : List ℕ
  pub blocks : ℕ
  pub closed : ℕ

abbrev pub called : Record → Call → Called
called r (add piece) =
    let a = added r piece in
    record { number = number_of a.answer; state = a.state; wrote = []; blocks = a.blocks; closed = 0 }
called r (close part) =
    let c = closing r part in
    record {
      number = number_of c.result.answer;
      state = c.result.state;
      wrote = take (32 * count_of c.result.answer) c.part;
      blocks = c.result.blocks;
      closed = unless_refused (number_of c.result.answer) 1 0;
    }

-- each call is handed the record that the call before gave back, refused or not (SPEC 5.6)
abbrev pub state_after : Record → List Call → Record
state_after r [] = r
state_after r (c ∷ cs) = state_after (called r c).state cs

-- the number of each answer
abbrev pub answers : Record → List Call → List ℕ
answers r [] = []
answers r (c ∷ cs) = (called r c).number ∷ answers (called r c).state cs

-- 01's book of the list (SPEC 5.7): what its accepted closes wrote, end to end
abbrev pub book_written : Record → List Call → List ℕ
book_written r [] = []
book_written r (c ∷ cs) = (called r c).wrote ++ book_written (called r c).state cs

-- what each call leaves
abbrev pub called_all : Record → List Call → List Called
called_all r [] = []
called_all r (c ∷ cs) = called r c ∷ called_all (called r c).state cs

-- 02's total for the closed days 1 to d (SPEC 17.5): the blocks of the calls up to the d-th accepted close
abbrev pub blocks_to : List Called → ℕ → ℕ
blocks_to [] d = 0
blocks_to (c ∷ made) zero = 0
blocks_to (c ∷ made) (suc d) = c.blocks + blocks_to made (suc d - c.closed)

-- the journal of the list, from no entry and an empty open day
abbrev pub journal_of : ℕ → ℕ → List Call → Journal
journal_of scheme n cs = journal_after scheme n empty (map argument_of cs)

-- ---- 02's seasons (SPEC 23.3, 23.4)

-- whether a call is one of season t: the record given back has its number; and the calls of season t
abbrev pub of_season : ℕ → Called → Bool
of_season t c = eqb c.state.season t

abbrev pub made_in : ℕ → List Called → List Called
made_in t [] = []
made_in t (c ∷ made) = cond (of_season t c) (c ∷ made_in t made) (made_in t made)

-- what calls wrote, end to end; of the calls of a season this is its book
abbrev pub wrote_all : List Called → List ℕ
wrote_all [] = []
wrote_all (c ∷ made) = c.wrote ++ wrote_all made

-- the seasons of the list, from season 0 with no entry and an empty open day
abbrev pub seasons_of : ℕ → ℕ → List Call → Seasons
seasons_of scheme n cs = seasons_after scheme n first (map argument_of cs)
