-- `chains::tile_step` meets its contract.
use Rattle.chains.proofs.Values.{day_linked}
use Rattle.chains.proofs.tile_step.Goals as goal

pub returns : goal.returns
returns c = let a = c.args in day_linked 2 a.n a.g a.black a.slots a.h c.requires.2 c.link_by.ensures c.link_tiles.ensures
