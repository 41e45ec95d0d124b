-- `lanes::worked` meets its contract.
use Prim.Native.Nat.{◌*◌}
use Rattle.lanes.proofs.Steps.{Before}
use Rattle.lanes.proofs.worked.Given as goal

abbrev pub invariant-loop-i : goal.invariant-loop-i
invariant-loop-i l = Before l.s l.w (4 * l.i) l.v
