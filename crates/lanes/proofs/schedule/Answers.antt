-- `lanes::schedule` meets its contract.
use borrow.Author.Rules.{rules}
use Rattle.lanes.proofs.Steps.{schedules_first, schedules_next, schedules_all}
use Rattle.lanes.proofs.schedule.Goals as goal

pub loop-i-init : goal.loop-i-init
loop-i-init c = (search rules, schedules_first _ (search rules))

pub loop-i-preserved : goal.loop-i-preserved
loop-i-preserved c = (search rules, schedules_next _ _ _ _ c.loop-i.invariant.1 c.next_row.ensures (search rules) (search rules))

pub returns : goal.returns
returns c = schedules_all _ _ c.loop-i.i c.loop-i.invariant.1 (search rules) (search rules) c.loop-i.invariant.0
