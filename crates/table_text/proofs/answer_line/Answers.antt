-- `table_text::answer_line` meets its contract.
use Rattle.std.proofs.Common.{arith}
use mathlib.Core.Path.{sym, ap, ◌∙◌}
use Rattle.buffers.proofs.Writes.{wrote_as}
use Rattle.table_text.specs.Text.{no_line}
use Rattle.table_text.proofs.TextLaws.{answer_layout, validation_within}
use Rattle.table_text.proofs.answer_line.Goals as goal

pub returns-in-Err : goal.returns-in-Err
returns-in-Err c = wrote_as _ (answer_layout _ _ _ _ _ c.args.outcomes.now (sym c.in-Err.ensures) ∙ ap no_line (sym c.number.ensures)) c.refuse.ensures

pub overflow_mul-validation : goal.overflow_mul-validation
overflow_mul-validation c = record { fits = omega (arith, validation_within _ _ _ _ (sym c.test_layout.ensures ∙ c.in_default.is)) }

pub overflow_sub-validation : goal.overflow_sub-validation
overflow_sub-validation c = validation_within _ _ _ _ (sym c.test_layout.ensures ∙ c.in_default.is)
