-- `links::tail` meets its contract.
use Rattle.links.proofs.tail.Goals as goal

pub returns : goal.returns
returns c = rw c.back.ensures at c.prepare.ensures
