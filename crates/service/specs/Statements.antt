-- What is proved of add and close beside their contracts.
use Rattle.std.specs.Prelude.{◌≡◌, ◌↔◌, true, List, ℕ, length, Err}
use Rattle.refusals.specs.Refusals.{book_limit, last_season}
use Rattle.refusals.specs.declared.Refusal.{Refusal}
use Rattle.service.specs.declared.Record.{Record}
use Rattle.service.specs.Contract.{allowed_record, add_tested, add_refusal, added, close_tested, close_refusal, closing}

-- 02's refusal 5 (SPEC 10.5, 23.2): of every record, add and close say it exactly if 6 is not said and the last season
-- is full, whatever the length of the piece or the part
pub record LastFull (r : Record) : Type 0 where
  pub allowed : allowed_record r ≡ true
  pub last : r.season ≡ last_season
  pub full : r.days ≡ book_limit

abbrev pub SaysLastFull : Type 0
SaysLastFull =
    (r : Record) (size : ℕ) → ((add_refusal r size ≡ 5) ↔ LastFull r) × ((close_refusal r size ≡ 5) ↔ LastFull r)

-- 02's blocks of a refused call (SPEC 17.3): none, of every record, piece and part. An Err has no count to say so
abbrev pub RefusedHasNoBlocks : Type 0
RefusedHasNoBlocks =
    (r : Record) (lent : List ℕ) (refusal : Refusal) →
    (add_tested r (length lent) ≡ Err refusal → (added r lent).blocks ≡ 0)
    × (close_tested r (length lent) ≡ Err refusal → (closing r lent).result.blocks ≡ 0)
