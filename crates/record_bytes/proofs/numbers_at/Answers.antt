-- `record_bytes::numbers_at` meets its contract.
use Rattle.std.proofs.Common.{ℕ, ◌+◌, ◌*◌, rules}
use Rattle.record_bytes.specs.Bytes.{number_at}
use Rattle.record_bytes.proofs.Steps.{set_next, numbers_read_are}
use Rattle.record_bytes.proofs.numbers_at.Goals as goal

pub loop-k-preserved : goal.loop-k-preserved
loop-k-preserved g c = (
  search rules,
  set_next (λ (j : ℕ). number_at c.args.b.now (c.args.i + 4 * j)) c.loop-k.number-items c.loop-k.k c.number_at.result 0 (search rules)
      c.number_at.ensures c.loop-k.invariant.1,
)

pub returns : goal.returns
returns g c = numbers_read_are _ _ _ _ c.loop-k.invariant.0 (λ j l. c.loop-k.invariant.1 j (search rules))
