-- `table_text::lines::refuse` meets its contract.
use Rattle.table_text.specs.Text.{no_line}
use Rattle.table_text.proofs.lines.refuse.Goals as goal

pub returns : goal.returns
unfolding no_line
returns c = c.put_line.ensures
