-- `table_text::lines::put_days` meets its contract.
use Rattle.std.proofs.Common.{take}
use Rattle.table_text.specs.Text.{day_lines}
use Rattle.buffers.specs.Private.{Wrote}
use Rattle.table_text.proofs.lines.put_days.Given as goal

abbrev pub invariant-loop-day : goal.invariant-loop-day
invariant-loop-day l = Wrote l.at (day_lines (take l.day-index l.days)) l.initial.out l.next l.out
