-- `acceptance::level_rules` meets its contract.
use Rattle.acceptance.proofs.Since.{last_none, checked_none, checked_next, days_next, levels_all, levels_false}
use Rattle.acceptance.proofs.{Steps.has_earlier, Steps.table_has}
use Rattle.acceptance.specs.Private.{Has}
use native.Mathlib.Omega.{arith}
use Rattle.acceptance.proofs.level_rules.Goals.{In-loop-g}
use Rattle.acceptance.proofs.level_rules.Goals as goal

-- a turn's day is one of the table's
here : (c : In-loop-g) → let a = c.args in Has 3 a.n c.loop-g.g a.t.now
here c = has_earlier c.loop-g.g (table_has c.requires) (omega arith) (omega arith)

pub loop-g-init : goal.loop-g-init
loop-g-init c = (last_none _ _, checked_none _ _)

pub last_failed-s-requires : goal.last_failed-s-requires
last_failed-s-requires c = (here (goal.at.last_failed-s-requires c).In-loop-g, c.tree_at-p.ensures, c.loop-g.invariant.0)

pub day_rules-requires : goal.day_rules-requires
day_rules-requires c = (here (goal.at.day_rules-requires c).In-loop-g, c.tree_at-p.ensures, c.last_failed-s.ensures.most)

pub returns-then-not-day_rules : goal.returns-then-not-day_rules
returns-then-not-day_rules c =
    levels_false _ _ _ c.requires.most (omega arith) (omega arith) c.last_failed-s.ensures c.day_rules.ensures
    c.if-not-day_rules.true

pub loop-g-preserved : goal.loop-g-preserved
loop-g-preserved c =
    let u = c.last_failed-s.ensures in
    days_next _ _ _ _ u
    (checked_next _ _ _ _ (omega arith) c.loop-g.invariant.1 u c.day_rules.ensures c.if-not-day_rules.false)

pub returns-else-not-day_rules : goal.returns-else-not-day_rules
returns-else-not-day_rules c =
    levels_all _ _ _ _ (omega arith) (omega arith)
    (checked_next _ _ _ _ (omega arith) c.loop-g.invariant.1 c.last_failed-s.ensures c.day_rules.ensures c.if-not-day_rules.false)
