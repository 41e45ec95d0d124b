-- `positions::tile_chain` meets its contract.
use Rattle.positions.proofs.StepLaws.{tile_of}
use Rattle.positions.proofs.tile_chain.Goals as goal

pub returns : goal.returns
returns c = let p = c.requires in tile_of _ _ _ p.0 p.1 p.2 p.3 c.tile_last-last.ensures
