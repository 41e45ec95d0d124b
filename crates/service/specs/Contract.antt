-- What open, add and close answer, give back and write, for every record, whatever its words, block bytes and start
-- (SPEC 5.1). Definitions only.
use Rattle.std.specs.Prelude.{Bool, ◌&&◌, ◌||◌, cond, List, [], ◌∷◌, ◌++◌, ℕ, suc, ◌+◌, ◌*◌, eqb, leb, ltb, length}
use Rattle.std.specs.Prelude.{replicate}
use Rattle.std.specs.Prelude.{Result, Ok, Err}
use Rattle.refusals.specs.Refusals.{book_limit, day_limit, last_season, Test, ◌or_refuse◌, tested, number_of, answered}
use Rattle.refusals.specs.Refusals.{unless_refused, front_written}
use Rattle.refusals.specs.declared.Refusal.{Refusal}
use Rattle.refusals.specs.declared.Refusal.TheVariants as cause
use Rattle.hasher.specs.declared.Hasher.{Hasher}
use Rattle.hasher.specs.Hasher.{begun, absorbed, absorbed_blocks, finished, finished_blocks}
use Rattle.layouts.specs.Layouts.{allowed_scheme, allowed_n, allowed_f, setup_tested, setup_refusal, chains_of_day}
use Rattle.layouts.specs.Layouts.{chains}
use Rattle.chains.specs.declared.Value.{Value}
use Rattle.chains.specs.Step.{start_value, linked, link_blocks, linked_slots, slot_blocks, restarted, day_values}
use Rattle.chains.specs.Step.{value_bytes}
use Rattle.service.specs.declared.Record.{Record}
use Rattle.service.specs.declared.Opened.{Opened}
use Rattle.service.specs.declared.Closed.{Closed}

-- ---- open (SPEC 5.2): 01's tests 1 2 3 (SPEC 11.1)

-- day 1 of a season: no day closed, no byte in the open day, each chain at the start
unfoldable pub at_start : ℕ → ℕ → ℕ → Value → ℕ → Record
at_start scheme n f start season =
    record {
      scheme = scheme;
      n = n;
      f = f;
      days = 0;
      bytes = 0;
      hash = (begun (0 ∷ [])).words;
      block = (begun (0 ∷ [])).block;
      black = start;
      running = replicate 17 start;
      start = start;
      season = season;
    }

-- 01's fresh service (SPEC 5.2); 02: its start, worked out here and kept (SPEC 22.2), and season 0 (SPEC 23.1)
unfoldable pub fresh : ℕ → ℕ → ℕ → Record
fresh scheme n f = at_start scheme n f (start_value scheme n) 0

-- 01's record of zeros, of a refused open (SPEC 5.2)
unfoldable pub no_value : Value
no_value = record { words = replicate 8 0 }

unfoldable pub zeros : Record
zeros =
    record {
      scheme = 0;
      n = 0;
      f = 0;
      days = 0;
      bytes = 0;
      hash = replicate 8 0;
      block = replicate 64 0;
      black = no_value;
      running = replicate 17 no_value;
      start = no_value;
      season = 0;
    }

-- what open gives
unfoldable pub opened : ℕ → ℕ → ℕ → Opened
opened scheme n f =
    let refusal = setup_refusal scheme n f in
    record { answer = setup_tested scheme n f; state = unless_refused refusal (fresh scheme n f) zeros }

-- ---- the turn (02, SPEC 23.2)

-- whether the season is full, and not the last
abbrev pub turns : Record → Bool
turns r = leb book_limit r.days && ltb r.season last_season

-- the next season: as a fresh service, with the start of the record handed in
unfoldable pub turned : Record → Record
turned r = at_start r.scheme r.n r.f r.start (suc r.season)

-- the record that a call is tested and made on
unfoldable pub current : Record → Record
current r = cond (turns r) (turned r) r

-- ---- add (SPEC 5.3): 01's tests 6 5 4 (SPEC 11.2)

-- the cause of 6 (SPEC 10.6) is not there. 01: scheme, n and f are allowed, days closed and open bytes within their
-- limits. 02: so is the season, and beside 65,536 closed days no byte is open
abbrev pub allowed_record : Record → Bool
allowed_record r =
    allowed_scheme r.scheme && allowed_n r.n && allowed_f r.scheme r.f
    && leb r.days book_limit && leb r.bytes day_limit
    && leb r.season last_season && (ltb r.days book_limit || eqb r.bytes 0)

-- the tests with which add and close begin: 6 of the record handed in; then 5 (SPEC 10.5), and all others, of the one
-- that the call is made on
abbrev pub record_tests : Record → List Test
record_tests r =
    allowed_record r or_refuse cause.BadRecord ∷ ltb (current r).days book_limit or_refuse cause.LastSeasonFull ∷ []

-- then test 4 (SPEC 10.4), for a piece of size bytes
abbrev pub add_tests : Record → ℕ → List Test
add_tests r size = record_tests r ++ (leb ((current r).bytes + size) day_limit or_refuse cause.LongDay ∷ [])

unfoldable pub add_tested : Record → ℕ → Result Unit Refusal
add_tested r size = tested (add_tests r size)

abbrev pub add_refusal : Record → ℕ → ℕ
add_refusal r size = number_of (add_tested r size)

-- the running hash of the open day: of byte 00 and the day's bytes so far, r.bytes + 1 in all
abbrev pub open_day : Record → Hasher
open_day r = record { words = r.hash; block = r.block }

-- the record with the piece at its open day's end
unfoldable pub grown : Record → List ℕ → Record
grown r piece =
    record {
      scheme = r.scheme;
      n = r.n;
      f = r.f;
      days = r.days;
      bytes = r.bytes + length piece;
      hash = (absorbed (open_day r) (r.bytes + 1) piece).words;
      block = (absorbed (open_day r) (r.bytes + 1) piece).block;
      black = r.black;
      running = r.running;
      start = r.start;
      season = r.season;
    }

-- 02's blocks that the piece fills (SPEC 17.3): those that its end of the open day compresses
unfoldable pub grown_blocks : Record → List ℕ → ℕ
grown_blocks r piece = absorbed_blocks (open_day r) (r.bytes + 1) piece

-- what add gives, the record after it and the blocks that it compressed; a refusal leaves the record handed in, its
-- season too
pub record Added : Type 0 where
  pub answer : Result Unit Refusal
  pub state : Record
  pub blocks : ℕ

unfoldable pub added : Record → List ℕ → Added
added r piece =
    let refusal = add_refusal r (length piece) in
    record {
      answer = add_tested r (length piece);
      state = unless_refused refusal (grown (current r) piece) r;
      blocks = unless_refused refusal (grown_blocks (current r) piece) 0;
    }

-- ---- close (SPEC 5.4): 01's tests 6 5 8 (SPEC 11.3)

-- 01's number of the layout's values for the open day
abbrev pub day_count : Record → ℕ
day_count r = length (chains_of_day r.scheme r.n (suc r.days))

-- then test 8 (SPEC 10.8), for a part of size bytes
abbrev pub close_tests : Record → ℕ → List Test
close_tests r size = record_tests r ++ (leb (32 * day_count (current r)) size or_refuse cause.ShortBuffer ∷ [])

unfoldable pub close_tested : Record → ℕ → Result Unit Refusal
close_tested r size = tested (close_tests r size)

abbrev pub close_refusal : Record → ℕ → ℕ
close_refusal r size = number_of (close_tested r size)

-- 01's digest of the open day (SPEC 3.3), as words
abbrev pub digest_of : Record → List ℕ
digest_of r = finished (open_day r) (r.bytes + 1)

-- the slots with the day linked
abbrev pub linked_of : Record → List Value
linked_of r = linked_slots r.scheme r.n (suc r.days) (digest_of r) r.running

-- 01's values of the day, as bytes
unfoldable pub day_bytes : Record → List ℕ
day_bytes r =
    value_bytes (day_values r.scheme r.n (suc r.days) (linked r.black (digest_of r)) (linked_of r))

-- the record with the day closed and the next one open
unfoldable pub next_day : Record → Record
next_day r =
    record {
      scheme = r.scheme;
      n = r.n;
      f = r.f;
      days = suc r.days;
      bytes = 0;
      hash = (begun (0 ∷ [])).words;
      block = (begun (0 ∷ [])).block;
      black = linked r.black (digest_of r);
      running = restarted r.scheme r.n (suc r.days) r.start (linked_of r);
      start = r.start;
      season = r.season;
    }

-- 02's blocks of a close (SPEC 17.3): those that the day's end, its link to black and its links to slots compress
unfoldable pub closed_blocks : Record → ℕ
closed_blocks r =
    finished_blocks (open_day r) (r.bytes + 1) + link_blocks r.black (digest_of r)
    + slot_blocks r.scheme r.n (suc r.days) (digest_of r) 0 r.running

-- the number of values written, 0 after a refusal
abbrev pub count_of : Result ℕ Refusal → ℕ
count_of (Ok count) = count
count_of (Err refusal) = 0

-- what close gives: the number of values written, the record after it and the blocks that it compressed
pub record ClosedTo : Type 0 where
  pub answer : Result ℕ Refusal
  pub state : Record
  pub blocks : ℕ

-- the number of values and the blocks, as the call returns them
abbrev pub both_of : Result ℕ Refusal → ℕ → Result Closed Refusal
both_of (Ok count) blocks = Ok (record { values = count; blocks = blocks })
both_of (Err refusal) blocks = Err refusal

-- and the part as it leaves it: the day's values at its front
pub record Closing : Type 0 where
  pub result : ClosedTo
  pub part : List ℕ

unfoldable pub closing : Record → List ℕ → Closing
closing r part =
    let refusal = close_refusal r (length part) in
    record {
      result =
          record {
            answer = answered (close_tested r (length part)) (day_count (current r));
            state = unless_refused refusal (next_day (current r)) r;
            blocks = unless_refused refusal (closed_blocks (current r)) 0;
          };
      part = front_written refusal (day_bytes (current r)) part;
    }

-- ---- our own call (SPEC 15.5): the number of values of the days closed in the season; test 6

unfoldable pub written_so_far : Record → Result ℕ Refusal
written_so_far r =
    answered (tested (allowed_record r or_refuse cause.BadRecord ∷ [])) (length (chains r.scheme r.n r.days))
