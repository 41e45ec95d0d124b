-- `prepared::compress` meets its contract.
use Rattle.prepared.proofs.Laws.{turn_first, turn_next, worked_of}
use borrow.Author.Rules.{rules}
use Rattle.prepared.proofs.compress.Goals as goal

pub loop-turn-init : goal.loop-turn-init
loop-turn-init c = turn_first _ _

pub loop-turn-preserved : goal.loop-turn-preserved
loop-turn-preserved c = turn_next _ _ _ c.loop-turn.invariant c.rounds-next.ensures

pub returns : goal.returns
returns c = worked_of _ _ _ c.loop-turn.invariant (search rules) c.summed.ensures
