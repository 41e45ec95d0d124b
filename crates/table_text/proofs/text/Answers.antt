-- `table_text::text` meets its contract.
use Rattle.table_text.proofs.{TextLaws.front_count, TextLaws.front_list}
use Rattle.table_text.proofs.text.Goals as goal

pub returns : goal.returns
returns c = record { value = front_count c.put_text.ensures; out_after = front_list c.put_text.ensures }
