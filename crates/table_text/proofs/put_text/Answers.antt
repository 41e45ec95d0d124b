-- `table_text::put_text` meets its contract.
use mathlib.Core.Path.{sym, ap, ◌∙◌}
use Rattle.buffers.proofs.Writes.{wrote_as}
use Rattle.table_text.specs.Text.{no_line}
use Rattle.table_text.proofs.TextLaws.{text_unformed, text_large, digits_fit, text_read}
use Rattle.table_text.proofs.put_text.Goals as goal

pub returns-in_default : goal.returns-in_default
returns-in_default c = wrote_as _ (text_unformed _ c.in_default.ensures ∙ ap no_line (sym c.number.ensures)) c.refuse.ensures

pub returns-then-not-is_small : goal.returns-then-not-is_small
returns-then-not-is_small c = wrote_as _ (text_large _ c.in-Some.ensures c.is_small.ensures c.if-not-is_small.true ∙ ap no_line (sym c.number-then-not-is_small.ensures)) c.refuse-then-not-is_small.ensures

pub outcomes-requires : goal.outcomes-requires
outcomes-requires c = digits_fit _ c.in-Some.ensures c.is_small.ensures c.if-not-is_small.false

pub returns : goal.returns
returns c = wrote_as _ (text_read _ c.in-Some.ensures _ _ c.outcomes.ensures c.is_small.ensures c.if-not-is_small.false) c.answer_line.ensures
