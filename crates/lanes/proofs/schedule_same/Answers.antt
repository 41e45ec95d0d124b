-- `lanes::schedule_same` meets its contract.
use borrow.Author.Rules.{rules}
use Rattle.lanes.proofs.Steps.{same_none, same_next}
use Rattle.lanes.proofs.schedule_same.Goals as goal

pub loop-i-init : goal.loop-i-init
loop-i-init c = (search rules, λ j l. same_none c.args.m j)

pub loop-i-preserved : goal.loop-i-preserved
loop-i-preserved c = (search rules, same_next _ _ _ _ c.loop-i.invariant.1 c.next_word-x.ensures (search rules))
