-- `lanes::next_row` meets its contract.
use borrow.Author.Rules.{rules}
use Rattle.lanes.proofs.Steps.{row_next}
use Rattle.lanes.proofs.next_row.Goals as goal

pub loop-j-preserved : goal.loop-j-preserved
loop-j-preserved c = (search rules, row_next _ _ _ _ c.loop-j.invariant.1 c.mixed.ensures (search rules))
