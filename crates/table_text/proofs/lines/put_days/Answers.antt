-- `table_text::lines::put_days` meets its contract.
use Rattle.table_text.proofs.LineLaws.{days_none, days_room, days_next}
use Rattle.table_text.proofs.lines.put_days.Goals as goal

pub loop-day-init : goal.loop-day-init
loop-day-init c = days_none c.args.at c.args.days.now c.args.out.now

pub put_line-next-requires : goal.put_line-next-requires
put_line-next-requires c = days_room _ _ _ _ c.args.days.now _ _ c.requires c.loop-day.auto.out c.loop-day.invariant

pub loop-day-preserved : goal.loop-day-preserved
loop-day-preserved c = days_next _ _ _ _ c.args.days.now _ _ _ c.loop-day-test.true c.requires c.loop-day.invariant c.put_line-next.ensures
