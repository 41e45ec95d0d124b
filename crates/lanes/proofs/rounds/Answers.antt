-- `lanes::rounds` meets its contract.
use borrow.Author.Rules.{rules}
use Rattle.lanes.proofs.Steps.{rounds_turn}
use Rattle.lanes.proofs.rounds.Goals as goal

pub loop-j-preserved : goal.loop-j-preserved
loop-j-preserved c =
    rounds_turn _ _ _ _ _ _ c.loop-j.invariant c.state-v.ensures c.four_rounds-u.ensures c.put.ensures (search rules) (search rules)
