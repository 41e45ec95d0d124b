-- `lanes::compress` meets its contract.
use borrow.Author.Rules.{rules}
use Rattle.lanes.proofs.Steps.{compressed_by}
use Rattle.lanes.proofs.compress.Goals as goal

pub returns : goal.returns
returns c = compressed_by _ c.args.m _ _ _ c.copy_from_slice.ensures.after (search rules) c.schedule.ensures c.worked.ensures.lanes c.worked.ensures.wide
