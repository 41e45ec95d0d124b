-- `chains::link_tiles` meets its contract.
use Prim.Native.Nat.{◌+◌, ◌≤◌, ◌<◌}
use lib.ListN.{length}
use mathlib.Core.Path.{◌≡◌, ◌∙◌}
use native.Mathlib.Omega.{arith}
use Rattle.layouts.specs.Layouts.{lg}
use Rattle.layouts.proofs.AllowedLaws.{allowed_n_is}
use Rattle.chains.specs.Step.{link_slot}
use Rattle.chains.proofs.Slots.{upto, tile_put, tile_keep, tiles_linked}
use Rattle.chains.proofs.link_tiles.Goals.{After-lg-i-end, Joined-links_slot, then-links_slot, else-links_slot}
use Rattle.chains.proofs.link_tiles.Goals as goal

few : (c : After-lg-i-end) → c.lg-i-end.result ≤ 8
few c = let few : lg c.args.n ≤ 8 = (allowed_n_is c.args.n c.requires.0).small in omega (arith, c.lg-i-end.ensures)

pub bounds-slots-i : goal.bounds-slots-i
bounds-slots-i c = let w = few (goal.at.bounds-slots-i c).After-lg-i-end in omega arith

pub bounds-r-i : goal.bounds-r-i
bounds-r-i c = let w = few (goal.at.bounds-r-i c).After-lg-i-end in omega arith

-- one more slot is done
turn : (c : Joined-links_slot) → c.if-links_slot.r ≡ upto (link_slot 2 c.args.n c.args.g c.args.h) 0 (c.loop-i.i + 1) c.args.slots
turn c =
    let few : lg c.args.n ≤ 8 = (allowed_n_is c.args.n c.requires.0).small in
    let here : c.loop-i.i < length c.args.slots = omega (arith, c.lg-i-end.ensures) in
    let a = c.args in
    let l = c.loop-i in
    elim c.if-links_slot.branch [
      | then-links_slot w ↦
          w.r-is ∙ tile_put _ a.n a.g a.h l.i a.slots l.r _ l.invariant c.links_slot.ensures w.if-links_slot.true w.link_by.ensures here
      | else-links_slot w ↦
          w.r-is ∙ tile_keep a.n a.g a.h l.i a.slots l.r _ l.invariant c.links_slot.ensures w.if-links_slot.false
    ]

pub loop-i-preserved : goal.loop-i-preserved
loop-i-preserved c = turn (goal.at.loop-i-preserved c).Joined-links_slot

pub returns : goal.returns
returns c = tiles_linked c.args.n c.args.g c.args.h c.loop-i.i c.args.slots (omega (arith, c.lg-i-end.ensures)) c.loop-i.invariant

pub returns-after-links_slot : goal.returns-after-links_slot
returns-after-links_slot c =
    tiles_linked c.args.n c.args.g c.args.h (c.loop-i.i + 1) c.args.slots (omega (arith, c.lg-i-end.ensures))
    (turn (goal.at.returns-after-links_slot c).Joined-links_slot)
