-- `lanes::summed` meets its contract.
use Rattle.lanes.specs.Private.{sum_of}
use Rattle.lanes.proofs.LaneLaws.{Through}
use Rattle.lanes.proofs.summed.Given as goal

abbrev pub invariant-loop-j : goal.invariant-loop-j
invariant-loop-j l = Through 8 (sum_of l.h l.initial.s) l.j l.initial.s l.s
