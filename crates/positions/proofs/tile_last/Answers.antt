-- `positions::tile_last` meets its contract.
use Rattle.positions.proofs.StepLaws.{weight_fits}
use Rattle.positions.proofs.tile_last.Goals as goal

pub overflow_shr-result : goal.overflow_shr-result
overflow_shr-result c = let p = c.requires in (weight_fits _ _ _ p.0 p.1 p.2 p.3).0
