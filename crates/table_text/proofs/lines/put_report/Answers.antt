-- `table_text::lines::put_report` meets its contract.
use Rattle.std.proofs.Common.{refl}
use Rattle.table_text.proofs.LineLaws.{ref_room, ref_put}
use Rattle.table_text.proofs.lines.put_report.Goals as goal

pub put_days-requires : goal.put_days-requires
put_days-requires c = ref_room _ c.args.days.now c.args.out.now refl c.requires _ _ _ c.put_line-at.auto.out c.put_line-at.ensures

pub returns : goal.returns
returns c = ref_put _ c.args.days.now c.args.out.now refl c.requires _ _ _ _ c.put_line-at.ensures c.put_days.ensures
