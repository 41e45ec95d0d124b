-- `lanes::worked` meets its contract.
use borrow.Author.Rules.{rules}
use Rattle.lanes.proofs.LaneLaws.{wide_by_type}
use Rattle.lanes.proofs.Steps.{before_first, before_next, worked_by_lem}
use Rattle.lanes.proofs.worked.Goals as goal

pub loop-i-init : goal.loop-i-init
loop-i-init c = before_first _ _ (search rules) (wide_by_type _ c.well_formed.0.0 c.well_formed.0.1.1)

pub loop-i-preserved : goal.loop-i-preserved
loop-i-preserved c = before_next _ _ _ _ c.loop-i.invariant c.table-k.ensures c.rounds.ensures.lanes c.rounds.ensures.wide (search rules)

pub returns-clause-lanes : goal.returns-clause-lanes
returns-clause-lanes c = worked_by_lem _ _ _ _ c.loop-i.invariant (search rules) c.summed.ensures.lanes
