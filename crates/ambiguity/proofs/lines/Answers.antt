-- `ambiguity::lines` meets its contract.
use Rattle.ambiguity.proofs.{LineLaws.printed_once}
use Rattle.ambiguity.proofs.lines.Goals as goal

pub returns : goal.returns
returns c = printed_once c.put_lines.ensures
