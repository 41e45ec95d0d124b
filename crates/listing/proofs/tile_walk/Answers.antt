-- `listing::tile_walk` meets its contract.
use Rattle.listing.proofs.Tiles.{doubled_none, doubled_place, doubled_one, doubled_zero, doubled_all}
use Rattle.std.proofs.Common.{◌+◌, ◌^◌, ◌≤◌, length, set, arith, length-set}
use mathlib.Core.{Path.refl}
use Rattle.listing.proofs.tile_walk.Goals.{At-loop-l, then-m-l-eq0, else-m-l-eq0}
use Rattle.listing.proofs.tile_walk.Goals as goal

-- the list with the first day has room
room : (c : At-loop-l) → let a = c.args in a.at + 2 ^ a.level ≤ length (set a.list.now a.at (a.day + a.m))
room c = let a = c.args in omega (arith, length-set a.list.now a.at (a.day + a.m), c.requires.1)

pub loop-l-init : goal.loop-l-init
loop-l-init c = doubled_none _ _ _ _ c.args.list.now c.requires.1

pub again-end-requires : goal.again-end-requires
again-end-requires c = doubled_place c.requires.0 (room (goal.at.again-end-requires c).At-loop-l) (omega arith) c.loop-l.invariant (omega arith)

pub loop-l-preserved : goal.loop-l-preserved
loop-l-preserved c =
    let h = room (goal.at.loop-l-preserved c).At-loop-l in
    let l = c.loop-l in
    elim c.if-m-l-eq0.branch [
      | then-m-l-eq0 w ↦ rw (w.end-is, w.list-is)
          (doubled_zero c.requires.0 h (omega arith) l.invariant (omega arith) w.size.ensures w.if-m-l-eq0.true w.again-end.ensures)
      | else-m-l-eq0 w ↦ rw (w.end-is, w.list-is) (doubled_one c.requires.0 h (omega arith) l.invariant w.if-m-l-eq0.false)
    ]

pub returns : goal.returns
returns c = doubled_all c.requires.0 (room (goal.at.returns c).At-loop-l) (omega arith) c.loop-l.invariant _ _ refl (omega arith)
