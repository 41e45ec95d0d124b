-- `ambiguity::listed_count` meets its contract.
use Rattle.std.proofs.Common.{arith}
use Rattle.ambiguity.proofs.Calls.{n_some, power_small, listed_tuples, listed_of}
use Rattle.ambiguity.proofs.listed_count.Goals as goal

pub lg-m-requires : goal.lg-m-requires
lg-m-requires c = n_some _ _ c.requires

pub pow-requires : goal.pow-requires
pow-requires c = power_small _ _ _ c.requires c.lg-m.ensures (omega arith)

pub pow-requires-2 : goal.pow-requires-2
pow-requires-2 c = power_small _ _ _ c.requires c.lg-m.ensures (omega arith)

pub pow-requires-3 : goal.pow-requires-3
pow-requires-3 c = power_small _ _ _ c.requires c.lg-m.ensures (omega arith)

pub of_tuples-requires : goal.of_tuples-requires
of_tuples-requires c = (c.requires.some, listed_tuples _ _ c.requires c.lg-m.ensures c.pow.ensures c.pow-2.ensures c.pow-3.ensures)

pub returns : goal.returns
returns c = listed_of _ _ c.requires c.lg-m.ensures c.pow.ensures c.pow-2.ensures c.pow-3.ensures c.of_tuples.ensures
