-- `lanes::summed` meets its contract.
use borrow.Author.Rules.{rules}
use Rattle.lanes.proofs.Steps.{sum_turn}
use Rattle.lanes.proofs.summed.Goals as goal

pub loop-j-preserved : goal.loop-j-preserved
loop-j-preserved c =
    sum_turn _ _ _ _ c.loop-j.invariant c.state-g.ensures c.state-v.ensures c.summed-u.ensures c.put.ensures (search rules) (search rules)
