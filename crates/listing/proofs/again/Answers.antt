-- `listing::again` meets its contract.
use Rattle.listing.proofs.Tiles.{again_none, again_next, again_end}
use Rattle.std.proofs.Common.{arith}
use Rattle.listing.proofs.again.Goals as goal

pub loop-i-init : goal.loop-i-init
loop-i-init c = again_none _ _ _ _ c.requires.0

pub loop-i-preserved : goal.loop-i-preserved
loop-i-preserved c = let l = c.loop-i in
    again_next _ _ _ _ l.i _ (omega arith) (omega arith) c.requires.1 l.auto.list l.invariant

pub returns : goal.returns
returns c = again_end _ _ _ _ c.loop-i.i _ (omega arith) c.loop-i.invariant
