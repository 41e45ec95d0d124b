-- `acceptance::tile_block` meets its contract.
use Rattle.acceptance.proofs.{Steps.tile_inside, Steps.passes_by, Steps.alike_is}
use Rattle.acceptance.specs.Private.{block_rule, alike, prior, passes}
use Rattle.layouts.specs.Layouts.{black, tile}
use mathlib.Core.Bool.{◌&&◌, beq}
use Rattle.std.proofs.Common.{◌≡◌, arith, refl}
use Rattle.acceptance.proofs.tile_block.Goals.{then-before, else-before, Joined-before}
use Rattle.acceptance.proofs.tile_block.Goals as goal

-- black is compared with the black before and c(0)
compared : (c : Joined-before) → let a = c.args in
    beq a.own c.if-before.whole ≡ alike (passes 2 a.n a.t.now (black a.g)) (prior 2 a.n a.t.now a.g && passes 2 a.n a.t.now (tile 0 a.g))
compared c = let pre = c.requires in
    elim c.if-before.branch [
      | then-before w ↦ rw (w.whole-is, ← pre.2, ← pre.1, w.if-before.true, ← (passes_by 2 _ _ _ c.tile_at-p.ensures w.mark-whole.ensures)) (alike_is _ _)
      | else-before w ↦ rw (w.whole-is, ← pre.2, ← pre.1, w.if-before.false) (alike_is _ _)
    ]

pub mark-whole-requires : goal.mark-whole-requires
mark-whole-requires c = tile_inside c.requires.0 (omega arith) c.tile_at-p.ensures

pub returns-then-agrees : goal.returns-then-agrees
unfolding block_rule
returns-then-agrees c = rw (← compared (goal.at.returns-then-agrees c).Joined-before, c.if-agrees.true) c.tile_rules.ensures

pub returns-else-agrees : goal.returns-else-agrees
unfolding block_rule
returns-else-agrees c = rw (← compared (goal.at.returns-else-agrees c).Joined-before, c.if-agrees.false) refl
