-- What the calls of the C interface (SPEC 15.3) return and leave in the arrays that they are lent, by the calls' own
-- definitions; for a record, by its bytes. A call returns 0, or 01's number of the refusal. Definitions only.
use Rattle.std.specs.Prelude.{List, [], ◌∷◌, ℕ, Result, Ok, Err}
use Rattle.refusals.specs.Refusals.{number_of, unless_refused}
use Rattle.refusals.specs.declared.Refusal.{Refusal}
use Rattle.layouts.specs.Layouts.{layout_refusal, value_count}
use Rattle.reading.specs.Contract.{Report, five_numbers}
use Rattle.record_bytes.specs.Bytes.{bytes_of_record, record_of}
use Rattle.sizing.specs.declared.Sizes.{Sizes}
use Rattle.positions.specs.declared.Chain.{Chain}
use Rattle.positions.specs.Positions.{numbers_of}
use Rattle.searching.specs.declared.Progress.{Progress}
use Rattle.ambiguity.specs.declared.Counts.{Counts}
use Rattle.service.specs.Contract.{count_of, added, closing, written_so_far}

-- add, on a record's bytes; blocks is what the number of blocks was before
pub record AddedBytes : Type 0 where
  pub number : ℕ
  pub state : List ℕ
  pub blocks : ℕ

unfoldable pub added_bytes : List ℕ → List ℕ → ℕ → AddedBytes
added_bytes state piece blocks =
    let call = added (record_of state) piece in
    let number = number_of call.answer in
    record {
      number = number;
      state = unless_refused number (bytes_of_record call.state) state;
      blocks = unless_refused number call.blocks blocks;
    }

-- close, on a record's bytes; values and blocks are what these numbers were before
pub record ClosedBytes : Type 0 where
  pub number : ℕ
  pub state : List ℕ
  pub part : List ℕ
  pub values : ℕ
  pub blocks : ℕ

unfoldable pub closed_bytes : List ℕ → List ℕ → ℕ → ℕ → ClosedBytes
closed_bytes state part values blocks =
    let call = closing (record_of state) part in
    let number = number_of call.result.answer in
    record {
      number = number;
      state = unless_refused number (bytes_of_record call.result.state) state;
      part = call.part;
      values = unless_refused number (count_of call.result.answer) values;
      blocks = unless_refused number call.result.blocks blocks;
    }

-- the numbers after read: listed, first listed, low, high, last good
unfoldable pub numbers_after : Report → List ℕ → List ℕ
numbers_after report numbers = unless_refused report.refusal (five_numbers report) numbers

-- 01's number of values for d days (SPEC 4.12)
unfoldable pub values_after : ℕ → ℕ → ℕ → ℕ → ℕ → ℕ
values_after scheme n f d values = unless_refused (layout_refusal scheme n f d) (value_count scheme n d) values

-- the number of values of a record's closed days (SPEC 15.5), from its bytes
unfoldable pub record_values_after : List ℕ → ℕ → ℕ
record_values_after state values =
    let answer = written_so_far (record_of state) in unless_refused (number_of answer) (count_of answer) values

-- the sizes after forecast: values, bytes, blocks (SPEC 17)
unfoldable pub sizes_after : Result Sizes Refusal → List ℕ → List ℕ
sizes_after (Ok s) sizes = s.values ∷ s.bytes ∷ s.blocks ∷ []
sizes_after (Err refusal) sizes = sizes

-- the four numbers after chain_at: kind, index or level, first and last day (SPEC 18.2)
unfoldable pub chain_after : Result Chain Refusal → List ℕ → List ℕ
chain_after (Ok c) chain = numbers_of c
chain_after (Err refusal) chain = chain

-- the position after position_of
unfoldable pub position_after : Result ℕ Refusal → ℕ → ℕ
position_after (Ok p) position = p
position_after (Err refusal) position = position

-- the three numbers after search: looked, found, undecided (SPEC 20.5)
unfoldable pub progress_after : Result Progress Refusal → List ℕ → List ℕ
progress_after (Ok p) progress = p.looked ∷ p.found ∷ p.undecided ∷ []
progress_after (Err refusal) progress = progress

-- the two numbers after tile_counts: sets, listed (SPEC 21.2)
unfoldable pub counts_after : Result Counts Refusal → List ℕ → List ℕ
counts_after (Ok c) counts = c.sets ∷ c.listed ∷ []
counts_after (Err refusal) counts = counts

-- the version of the calls: 10000 · major + 100 · minor + patch
abbrev pub version : ℕ
version = 900
