-- `record_bytes::slots_at` meets its contract.
use Rattle.std.proofs.Common.{◌≡◌, ℕ, ◌+◌, ◌*◌, ◌<◌, length, get_or}
use Rattle.record_bytes.specs.Bytes.{value_at, running_at}
use Rattle.record_bytes.proofs.Steps.{none}
use Rattle.record_bytes.proofs.slots_at.Given as goal

abbrev pub invariant-loop-k : goal.invariant-loop-k
invariant-loop-k l = (length l.slot-items ≡ 17) × ((j : ℕ) → j < l.k → get_or l.slot-items j none ≡ value_at l.b (running_at + 32 * j))
