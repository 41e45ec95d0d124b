-- `ambiguity::set_count` meets its contract.
use Rattle.ambiguity.proofs.Calls.{sets_tuples, sets_of}
use Rattle.ambiguity.proofs.set_count.Goals as goal

pub of_tuples-requires : goal.of_tuples-requires
of_tuples-requires c = (c.requires.some, sets_tuples _ _ c.requires)

pub returns : goal.returns
returns c = sets_of _ _ c.requires c.of_tuples.ensures
