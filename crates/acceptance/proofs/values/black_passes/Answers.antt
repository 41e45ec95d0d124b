-- `acceptance::values::black_passes` meets its contract.
use Rattle.acceptance.proofs.Steps.{interval_black, black_inside, passes_by}
use Rattle.acceptance.proofs.values.black_passes.Goals as goal

pub black_at-requires : goal.black_at-requires
black_at-requires c = interval_black c.requires

pub mark-requires : goal.mark-requires
mark-requires c = black_inside c.requires c.black_at.ensures

pub returns : goal.returns
returns c = passes_by _ _ _ _ c.black_at.ensures c.mark.ensures
