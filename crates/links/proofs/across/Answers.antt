-- `links::across` meets its contract.
use Rattle.links.proofs.Links.{across_of}
use native.Mathlib.Omega.{arith}
use Rattle.links.proofs.across.Goals as goal

pub returns : goal.returns
returns c = across_of c.args.a c.args.b (omega arith)
