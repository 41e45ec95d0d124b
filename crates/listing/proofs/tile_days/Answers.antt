-- `listing::tile_days` meets its contract.
use Rattle.listing.proofs.{Lists.tile_whole, Lists.tile_failed, Lists.tile_start}
use Rattle.buffers.proofs.Writes.{wrote_none, wrote_as}
use Rattle.acceptance.proofs.{Steps.tile_inside, Steps.passes_by}
use Rattle.std.proofs.Common.{arith}
use Rattle.listing.proofs.tile_days.Goals as goal

pub mark-requires : goal.mark-requires
mark-requires c = let h = c.requires.0 in tile_inside h (omega arith) c.tile_at-p.ensures

pub returns-then-mark : goal.returns-then-mark
returns-then-mark c = let h = c.requires.0 in
    wrote_none _ _ _ (tile_whole _ _ _ h (passes_by 2 _ _ _ c.tile_at-p.ensures c.mark.ensures) c.if-mark.true)

pub tile_walk-requires : goal.tile_walk-requires
tile_walk-requires c = let pre = c.requires in
    tile_start _ _ _ pre.0 c.lg.ensures c.passing-m.ensures _ _ pre.1

pub returns : goal.returns
returns c = let h = c.requires.0 in
    wrote_as _ (tile_failed _ _ _ h c.lg.ensures c.passing-m.ensures
    (passes_by 2 _ _ _ c.tile_at-p.ensures c.mark.ensures) c.if-mark.false) c.tile_walk.ensures
