-- `lanes::put` meets its contract.
use mathlib.Core.Path.{◌≡◌}
use lib.ListN.{take}
use Rattle.lanes.specs.Private.{puts}
use Rattle.lanes.proofs.put.Given as goal

abbrev pub invariant-loop-i : goal.invariant-loop-i
invariant-loop-i g l = l.rows ≡ puts l.initial.rows l.j (take l.i l.v)
