-- `chains::tile_link_count` meets its contract.
use Rattle.chains.proofs.BlockLaws.{links_more}
use Rattle.chains.proofs.tile_link_count.Goals as goal

pub loop-i-preserved : goal.loop-i-preserved
loop-i-preserved c = links_more 2 c.args.n c.args.g c.loop-i.i _ c.loop-i.invariant c.links_slot.ensures c.from-links.ensures
