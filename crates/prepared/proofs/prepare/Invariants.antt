-- `prepared::prepare` meets its contract.
use Rattle.prepared.proofs.Laws.{Added}
use Rattle.prepared.proofs.prepare.Given as goal

abbrev pub invariant-loop-i : goal.invariant-loop-i
invariant-loop-i l = Added l.k l.initial.x-items l.i l.x-items
