-- `record_bytes::slots_at` meets its contract.
use Rattle.std.proofs.Common.{ℕ, ◌+◌, ◌*◌, rules}
use Rattle.record_bytes.specs.Bytes.{value_at, running_at}
use Rattle.record_bytes.proofs.Steps.{none, set_next}
use Rattle.record_bytes.proofs.slots_at.Goals as goal

pub loop-k-preserved : goal.loop-k-preserved
loop-k-preserved c = (
  search rules,
  set_next (λ (j : ℕ). value_at c.args.b.now (running_at + 32 * j)) c.loop-k.slot-items c.loop-k.k c.value_at.result none (search rules)
      c.value_at.ensures c.loop-k.invariant.1,
)
