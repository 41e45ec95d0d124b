-- `acceptance::day_rules` meets its contract.
use Rattle.acceptance.specs.Private.{since_rule}
use Rattle.acceptance.proofs.{Steps.tree_inside, Steps.passes_by}
use Rattle.acceptance.proofs.Since.{day_chain, day_days, days_twice, day_place, day_turn, day_next, day_stop, day_all}
use mathlib.Core.{Bool.beq, Path.refl, Path.sym, Path.◌∙◌}
use lib.Dec.{leb}
use Rattle.std.proofs.Common.{◌≡◌, ◌+◌, arith}
use Rattle.acceptance.proofs.day_rules.Goals as goal

pub overflow_add-p : goal.overflow_add-p
overflow_add-p c = record { fits = (day_place c.requires.0 c.loop-l.l (omega arith) (omega arith) c.requires.1).1 }

pub mark-own-requires : goal.mark-own-requires
mark-own-requires c = let pre = c.requires in
    tree_inside (day_chain pre.0 c.loop-l.l (omega arith) (omega arith))
    (day_place pre.0 c.loop-l.l (omega arith) (omega arith) pre.1).0

pub overflow_mul-days : goal.overflow_mul-days
overflow_mul-days c =
    let most = day_days c.requires.0 c.loop-l.l (omega arith) (omega arith) in
    record { fits = omega (arith, most, c.loop-l.invariant.1, c.requires.0.most) }

pub returns-then-not-agrees : goal.returns-then-not-agrees
returns-then-not-agrees c =
    let pre = c.requires in
    let place = (day_place pre.0 c.loop-l.l (omega arith) (omega arith) pre.1).0 in
    let turn = day_turn pre.0 _ c.loop-l.l c.loop-l.invariant.1 (passes_by 3 _ _ _ place c.mark-own.ensures) refl in
    day_stop pre.0 _ c.loop-l.l (omega arith) (omega arith) (sym turn ∙ c.if-not-agrees.true)

pub loop-l-preserved : goal.loop-l-preserved
loop-l-preserved c =
    let pre = c.requires in
    let place = (day_place pre.0 c.loop-l.l (omega arith) (omega arith) pre.1).0 in
    let turn = day_turn pre.0 _ c.loop-l.l c.loop-l.invariant.1 (passes_by 3 _ _ _ place c.mark-own.ensures) refl in (
      day_next pre.0 _ c.loop-l.l (omega arith) c.loop-l.invariant.0 (sym turn ∙ c.if-not-agrees.false),
      days_twice c.loop-l.l c.loop-l.invariant.1,
    )

pub returns : goal.returns
returns c = day_all c.requires.0 _ c.loop-l.l (omega arith) c.loop-l.invariant.0

pub returns-else-not-agrees : goal.returns-else-not-agrees
returns-else-not-agrees c =
    let pre = c.requires in
    let place = (day_place pre.0 c.loop-l.l (omega arith) (omega arith) pre.1).0 in
    let turn = day_turn pre.0 _ c.loop-l.l c.loop-l.invariant.1 (passes_by 3 _ _ _ place c.mark-own.ensures) refl in
    day_all pre.0 _ (c.loop-l.l + 1) (omega arith)
    (day_next pre.0 _ c.loop-l.l (omega arith) c.loop-l.invariant.0 (sym turn ∙ c.if-not-agrees.false))
