-- `listing::tiles_walk` meets its contract.
use Rattle.listing.proofs.Lists.{next_place, next_interval, all_intervals}
use Rattle.acceptance.proofs.Steps.{interval_of}
use Rattle.std.proofs.Common.{arith}
use Rattle.listing.proofs.tiles_walk.Goals as goal

pub tile_days-at-requires : goal.tile_days-at-requires
tile_days-at-requires c = let l = c.loop-k in
    let pre = c.requires in
    (interval_of _ pre.0 (omega arith) (omega arith), next_place _ _ c.args.d l.k _ _ _ (omega arith) (omega arith) pre.1 l.invariant)

pub loop-k-preserved : goal.loop-k-preserved
loop-k-preserved c = let l = c.loop-k in
    next_interval _ _ c.args.d l.k _ _ _ _ _ (omega arith) (omega arith) c.requires.1 l.invariant c.tile_days-at.ensures

pub returns-2 : goal.returns-2
returns-2 c = let l = c.loop-k in
    all_intervals _ _ _ _ _ _ _ c.requires.0.whole (omega arith) (omega arith)
    (next_interval _ _ c.args.d l.k _ _ _ _ _ (omega arith) (omega arith) c.requires.1 l.invariant c.tile_days-at.ensures)
