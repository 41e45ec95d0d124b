-- `record_bytes::numbers_at` meets its contract.
use Rattle.std.proofs.Common.{◌≡◌, ℕ, ◌+◌, ◌*◌, ◌<◌, length, get_or}
use Rattle.record_bytes.specs.Bytes.{number_at}
use Rattle.record_bytes.proofs.numbers_at.Given as goal

abbrev pub invariant-loop-k : goal.invariant-loop-k
invariant-loop-k g l = (length l.number-items ≡ g.row.N) × ((j : ℕ) → j < l.k → get_or l.number-items j 0 ≡ number_at l.b (l.i + 4 * j))
