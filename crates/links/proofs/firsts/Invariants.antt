-- `links::firsts` meets its contract.
use Rattle.lanes.specs.Private.{always}
use Rattle.lanes.proofs.LaneLaws.{Through}
use Rattle.links.proofs.firsts.Given as goal

abbrev pub invariant-loop-j : goal.invariant-loop-j
invariant-loop-j l = Through 8 (always l.v) l.j l.initial.s l.s
