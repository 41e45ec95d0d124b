-- `listing::top_days` meets its contract.
use Rattle.listing.proofs.{Lists.top_none, Lists.top_chain, Lists.top_walk}
use Rattle.buffers.proofs.Writes.{wrote_none, wrote_as}
use Rattle.listing.proofs.top_days.Goals as goal

pub returns-then-k-eq0 : goal.returns-then-k-eq0
returns-then-k-eq0 c = wrote_none _ _ _ (top_none _ _ _ _ _ c.size-w.ensures c.if-k-eq0.true)

pub walk-requires : goal.walk-requires
walk-requires c = let w = top_walk _ _ _ _ _ _ c.args.list.now c.requires.0 c.requires.2 c.size-w.ensures c.if-k-eq0.false c.requires.1
    c.requires.3 in
    (w.0, c.tree_at.ensures, w.1)

pub returns : goal.returns
returns c = wrote_as _ (top_chain _ _ _ _ _ c.size-w.ensures c.if-k-eq0.false) c.walk.ensures
