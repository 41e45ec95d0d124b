-- `links::back` meets its contract.
use Rattle.links.proofs.Links.{back_of}
use Rattle.links.proofs.back.Goals as goal

pub returns : goal.returns
returns c = back_of _ c.across.ensures
