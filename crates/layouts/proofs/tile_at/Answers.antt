-- `layouts::tile_at` meets its contract.
use Rattle.layouts.proofs.AllowedLaws.{place}
use Rattle.layouts.proofs.tile_at.Goals as goal

pub returns : goal.returns
returns c = place 2 _ _ _ c.values_through.ensures
