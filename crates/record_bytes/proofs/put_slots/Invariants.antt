-- `record_bytes::put_slots` meets its contract.
use Rattle.std.proofs.Common.{◌≡◌, ◌+◌, ◌*◌, ◌++◌, take}
use Rattle.record_bytes.specs.Bytes.{slots_bytes, running_at}
use Rattle.record_bytes.proofs.put_slots.Given as goal

abbrev pub invariant-loop-k : goal.invariant-loop-k
invariant-loop-k l = take (running_at + 32 * l.k) l.b ≡ take running_at l.initial.b ++ slots_bytes (take l.k l.slot-items)
