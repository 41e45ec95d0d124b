-- `prepared::scheduled` meets its contract.
use native.Mathlib.Omega.{arith}
use lib.ListN.{length-append}
use Rattle.prepared.proofs.Laws.{schedule_first, schedule_next, schedule_all, carried_first, carried_on, carried_new}
use borrow.Author.Rules.{rules}
use Rattle.prepared.proofs.scheduled.Goals as goal

pub loop-i-init : goal.loop-i-init
loop-i-init c = (
  simp length-append (omega arith),
  schedule_first c.args.m _ c.copy_from_slice.ensures.after (search rules),
  carried_first c.args.m _ 14 c.copy_from_slice.ensures.after (search rules) (omega arith),
  carried_first c.args.m _ 15 c.copy_from_slice.ensures.after (search rules) (omega arith),
)

pub loop-i-preserved : goal.loop-i-preserved
loop-i-preserved c = let l = c.loop-i in (
  search rules,
  schedule_next _ l.w l.i l.a l.invariant.1 (search rules) (search rules) l.invariant.2 c.mixed-x.ensures,
  carried_on l.w l.i _ l.invariant.3 (search rules),
  carried_new l.w l.i _ (search rules),
)

pub returns : goal.returns
returns c = let l = c.loop-i in schedule_all c.args.m l.w l.i l.invariant.1 (search rules) l.invariant.0
