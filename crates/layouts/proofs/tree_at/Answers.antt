-- `layouts::tree_at` meets its contract.
use Rattle.layouts.proofs.AllowedLaws.{place}
use Rattle.layouts.proofs.tree_at.Goals as goal

pub returns : goal.returns
returns c = place 3 _ _ _ c.values_through.ensures
