-- What the steps of the calls give. Definitions only; private contracts cite them.
use Rattle.std.specs.Prelude.{◌≡◌, true, List, ℕ, suc, ◌*◌, ◌<◌, Result}
use Rattle.refusals.specs.Refusals.{book_limit, tested}
use Rattle.refusals.specs.declared.Refusal.{Refusal}
use Rattle.buffers.specs.Private as buffers
use Rattle.chains.specs.declared.Value.{Value}
use Rattle.chains.specs.Step.{linked, restarted}
use Rattle.service.specs.declared.Record.{Record}
use Rattle.service.specs.declared.Closed.{Closed}
use Rattle.service.specs.Contract.{allowed_record, record_tests, digest_of, linked_of, day_count, day_bytes}
use Rattle.service.specs.Contract.{next_day, closed_blocks}

-- tests 6 5
unfoldable pub record_tested : Record → Result Unit Refusal
record_tested r = tested (record_tests r)

-- a record whose open day can be closed: test 6 finds no cause, and the season is not full
pub record Open (r : Record) : Type 0 where
  pub allowed : allowed_record r ≡ true
  pub day_left : r.days < book_limit

-- the chains of a record with the digest of its open day linked
pub record Linked (r : Record) (black : Value) (slots : List Value) : Type 0 where
  pub black_is : black ≡ linked r.black (digest_of r)
  pub slots_are : slots ≡ linked_of r

-- and started again where they are values of the day
pub record After (r : Record) (black : Value) (slots : List Value) : Type 0 where
  pub black_is : black ≡ linked r.black (digest_of r)
  pub slots_are : slots ≡ restarted r.scheme r.n (suc r.days) r.start (linked_of r)

-- what the close of the open day gives, and leaves of the record and of a part that has room for the day's values
pub record ClosedDay (r : Record) (old : List ℕ) (c : Closed) (state : Record) (part : List ℕ) : Type 0 where
  pub result_is : c ≡ record { values = day_count r; blocks = closed_blocks r }
  pub state_is : state ≡ next_day r
  pub part_is : buffers.Wrote 0 (day_bytes r) old (32 * day_count r) part
