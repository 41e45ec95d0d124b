-- `table_text::input::read_lines` meets its contract.
use Rattle.std.proofs.Common.{refl}
use Rattle.table_text.proofs.InputLaws.{no_scheme, no_n, no_f, no_last, no_end, typed_is}
use Rattle.table_text.proofs.input.read_lines.Goals as goal

pub returns-in_err-last : goal.returns-in_err-last
returns-in_err-last c =
    rw c.from_residual.ensures (no_last _ c.read_field-scheme.ensures.rest c.read_field-n.ensures.rest c.read_field-f.ensures.rest c.in_err-last.ensures)

pub returns-then-not-is_end : goal.returns-then-not-is_end
returns-then-not-is_end c = no_end _ c.read_field-scheme.ensures.rest c.read_field-n.ensures.rest c.read_field-f.ensures.rest c.in_ok-last.ensures
    c.split_digits.ensures.front c.split_digits.ensures.back c.is_end.ensures c.if-not-is_end.true

pub returns-in_err-scheme : goal.returns-in_err-scheme
returns-in_err-scheme c = rw c.from_residual-in_err-scheme.ensures (no_scheme _ c.read_field-scheme.ensures.rest c.read_field-n.ensures.rest c.read_field-f.ensures.rest
    c.read_field-scheme.ensures.value c.in_err-scheme.was)

pub returns-in_err-n : goal.returns-in_err-n
returns-in_err-n c = rw c.from_residual-in_err-n.ensures (no_n _ c.read_field-scheme.ensures.rest c.read_field-n.ensures.rest c.read_field-f.ensures.rest
    c.read_field-n.ensures.value c.in_err-n.was)

pub returns-in_err-f : goal.returns-in_err-f
returns-in_err-f c = rw c.from_residual-in_err-f.ensures (no_f _ c.read_field-scheme.ensures.rest c.read_field-n.ensures.rest c.read_field-f.ensures.rest
    c.read_field-f.ensures.value c.in_err-f.was)

pub returns : goal.returns
returns c = typed_is _ c.read_field-scheme.ensures.rest c.read_field-n.ensures.rest c.read_field-f.ensures.rest c.in_ok-last.ensures
    c.split_digits.ensures.front c.split_digits.ensures.back c.is_end.ensures c.if-not-is_end.false c.read_field-scheme.ensures.value c.in_ok-scheme.was
    c.read_field-n.ensures.value c.in_ok-n.was c.read_field-f.ensures.value c.in_ok-f.was refl
