-- `lanes::rounds` meets its contract.
use Rattle.lanes.specs.Private.{four_on}
use Rattle.lanes.proofs.LaneLaws.{Through}
use Rattle.lanes.proofs.rounds.Given as goal

abbrev pub invariant-loop-j : goal.invariant-loop-j
invariant-loop-j l = Through 8 (four_on l.w l.k l.t l.initial.s) l.j l.initial.s l.s
