-- `acceptance::values::tree_passes` meets its contract.
use Rattle.acceptance.proofs.{Steps.chain_has, Steps.tree_inside, Steps.passes_by}
use Rattle.acceptance.proofs.values.tree_passes.Goals as goal

pub tree_at-requires : goal.tree_at-requires
tree_at-requires c = chain_has c.requires

pub mark-requires : goal.mark-requires
mark-requires c = tree_inside c.requires c.tree_at.ensures

pub returns : goal.returns
returns c = passes_by 3 _ _ _ c.tree_at.ensures c.mark.ensures
