-- `listing::tree_walk` meets its contract.
use Rattle.listing.proofs.Lists.{level_place, next_level}
use Rattle.std.proofs.Common.{arith}
use Rattle.listing.proofs.tree_walk.Goals as goal

pub top_days-at-requires : goal.top_days-at-requires
top_days-at-requires c = let l = c.loop-level in
    let pre = c.requires in
    let p = level_place _ _ _ _ _ _ c.loop-level-test.true pre.1 l.invariant in
    (pre.0, p.0, omega arith, p.1)

pub loop-level-preserved : goal.loop-level-preserved
loop-level-preserved c = let pre = c.requires in
    next_level _ _ _ pre.0.most pre.2 _ _ _ _ _ _ c.loop-level-test.true pre.1 c.loop-level.invariant c.top_days-at.ensures
