-- The loop's invariant: the first i values stand at the front of the part.
use Prim.Native.Nat.{◌*◌}
use lib.ListN.{take}
use Rattle.buffers.specs.Private.{Wrote}
use Rattle.chains.specs.Step.{value_bytes}
use Rattle.service.proofs.day.write.Given as goal

abbrev pub invariant-loop-i : goal.invariant-loop-i
invariant-loop-i l = Wrote 0 (value_bytes (take l.i l.values)) l.initial.part (32 * l.i) l.part
