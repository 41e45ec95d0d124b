-- The record that any list of calls leaves (SPEC 15.4, 15.5): its bytes say it again, and it knows how many values the
-- calls of its season have written.
use Rattle.std.specs.Prelude.{◌≡◌, List, ℕ, ◌*◌, length}
use Rattle.refusals.specs.Refusals.{number_of}
use Rattle.service.specs.declared.Record.{Record}
use Rattle.service.specs.Contract.{opened, count_of, written_so_far}
use Rattle.journal.specs.Run.{Call, state_after}
use Rattle.record_bytes.specs.Bytes.{Fits, bytes_of_record, record_of}
use Rattle.daybook.specs.Claim.{wrote}

pub record Told (r : Record) (written : List ℕ) : Type 0 where
  -- sizes and numbers are those of the record's type, so decoding undoes encoding
  pub fits : Fits r
  pub same : record_of (bytes_of_record r) ≡ r
  -- 6 is not said, and the values counted are those that were written
  pub not_refused : number_of (written_so_far r) ≡ 0
  pub counted : 32 * count_of (written_so_far r) ≡ length written

abbrev pub RecordsTold : Type 0
RecordsTold =
    (scheme n f : ℕ) → number_of (opened scheme n f).answer ≡ 0 → (cs : List Call) →
    let r = state_after (opened scheme n f).state cs in Told r (wrote scheme n f cs r.season)
