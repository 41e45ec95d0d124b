-- `table_text::answer` meets its contract.
use lib.ListN.{replicate}
use native.Mathlib.Omega.{arith}
use mathlib.Core.Path.{refl, sym, ap, ◌∙◌}
use Rattle.buffers.proofs.Writes.{wrote_as}
use Rattle.table_text.specs.Text.{no_line}
use Rattle.table_text.proofs.TextLaws.{answer_early, answer_late, part_fits, part_length, part_room, answer_read}
use Rattle.table_text.proofs.answer.Goals as goal

pub returns-in-Err : goal.returns-in-Err
returns-in-Err c = wrote_as _ (answer_early _ _ _ _ _ c.args.outcomes.now (sym c.in-Err.ensures) ∙ ap no_line (sym c.number.ensures)) c.refuse.ensures

pub returns-in-Refused : goal.returns-in-Refused
returns-in-Refused c = wrote_as _ (answer_late _ _ _ _ _ c.args.outcomes.now (sym c.test_digits.ensures ∙ c.in_default.is) (replicate 256 0) refl c.requires.0 _
    c.read-reading.ensures.result_value c.in-Refused.is) c.refuse-in-Refused.ensures

pub slice_bounds-list-end : goal.slice_bounds-list-end
slice_bounds-list-end c = omega (
  arith,
  part_fits _ _ _ _ _ c.args.outcomes.now (sym c.test_digits.ensures ∙ c.in_default.is) (replicate 256 0) refl c.requires.0 _
      c.read-reading.ensures.result_value c.in_default-reading.not-Refused c.numbers_of-report.ensures c.read-reading.ensures.list_after,
)

pub slice_bounds-put_report-end : goal.slice_bounds-put_report-end
slice_bounds-put_report-end c = part_length _ _ _ _ _ c.args.outcomes.now (sym c.test_digits.ensures ∙ c.in_default.is) (replicate 256 0) refl c.requires.0 _
    c.read-reading.ensures.result_value c.in_default-reading.not-Refused c.numbers_of-report.ensures c.read-reading.ensures.list_after

pub put_report-requires : goal.put_report-requires
put_report-requires c = part_room _ _ _ _ _ c.args.outcomes.now (sym c.test_digits.ensures ∙ c.in_default.is) (replicate 256 0) refl c.requires.0 _
    c.read-reading.ensures.result_value c.in_default-reading.not-Refused c.numbers_of-report.ensures c.read-reading.ensures.list_after _ c.requires.1

pub returns : goal.returns
returns c = wrote_as _ (answer_read _ _ _ _ _ c.args.outcomes.now (sym c.test_digits.ensures ∙ c.in_default.is) (replicate 256 0) refl c.requires.0 _
    c.read-reading.ensures.result_value c.in_default-reading.not-Refused c.numbers_of-report.ensures c.read-reading.ensures.list_after)
    c.put_report.ensures
