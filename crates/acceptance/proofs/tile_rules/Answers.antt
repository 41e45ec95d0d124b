-- `acceptance::tile_rules` meets its contract.
use Rattle.acceptance.proofs.{Steps.every_turn, Steps.every_stop, Steps.every_done, Steps.tile_inside, Steps.passes_by}
use Rattle.acceptance.proofs.{Places.tile_place, Places.tile_fits, Places.tile_free, Places.tile_own}
use Rattle.acceptance.specs.Private.{tile_rule}
use Rattle.layouts.specs.Layouts.{lg}
use native.Mathlib.Omega.{arith}
use mathlib.Core.{Path.◌≡◌}
use mathlib.Core.{Path.ap, Bool.not}
use Rattle.acceptance.proofs.tile_rules.Goals.{After-mark-in-loop-i}
use Rattle.acceptance.proofs.tile_rules.Goals as goal

-- a turn finds the rule of its chain
turn : (c : After-mark-in-loop-i) → let a = c.args in
    c.mark-in-loop-i.result ≡ tile_rule a.n a.t.now a.g c.loop-i.i
turn c = let pre = c.requires in
    let a = c.args in
    tile_own a.n a.g a.t.now (passes_by 2 _ _ _ pre.1 c.mark.ensures) _ (ap not c.if-not-mark.false)
    (passes_by 2 _ _ _ (tile_place pre.0 pre.1 c.loop-i.i) c.mark-in-loop-i.ensures)

pub mark-requires : goal.mark-requires
mark-requires c = let pre = c.requires in tile_inside pre.0 (omega arith) pre.1

pub returns-then-not-mark : goal.returns-then-not-mark
returns-then-not-mark c = let pre = c.requires in
    let a = c.args in
    tile_free a.n a.g a.t.now (passes_by 2 _ _ _ pre.1 c.mark.ensures) (lg a.n) (ap not c.if-not-mark.true)

pub overflow_add-p : goal.overflow_add-p
overflow_add-p c = let pre = c.requires in
    record { fits = omega (arith, tile_fits pre.0 pre.1 c.loop-i.i (omega (arith, c.lg-i-end.ensures))) }

pub mark-requires-in-loop-i : goal.mark-requires-in-loop-i
mark-requires-in-loop-i c = let pre = c.requires in
    tile_inside pre.0 (omega (arith, c.lg-i-end.ensures)) (tile_place pre.0 pre.1 c.loop-i.i)

pub returns-then-not-mark-2 : goal.returns-then-not-mark-2
returns-then-not-mark-2 c =
    every_stop _ 1 (lg c.args.n) c.loop-i.i (omega arith) (omega (arith, c.lg-i-end.ensures))
    (turn (goal.at.returns-then-not-mark-2 c).After-mark-in-loop-i) (c.if-not-mark-2.true)

pub loop-i-preserved : goal.loop-i-preserved
loop-i-preserved c =
    every_turn _ c.loop-i.i (omega arith) c.loop-i.invariant (turn (goal.at.loop-i-preserved c).After-mark-in-loop-i)
    (c.if-not-mark-2.false)

pub returns-else-not-mark-2 : goal.returns-else-not-mark-2
returns-else-not-mark-2 c =
    every_done _ 1 _ (lg c.args.n) (omega (arith, c.lg-i-end.ensures)) (omega (arith, c.lg-i-end.ensures))
    (every_turn _ c.loop-i.i (omega arith) c.loop-i.invariant (turn (goal.at.returns-else-not-mark-2 c).After-mark-in-loop-i)
    c.if-not-mark-2.false)
