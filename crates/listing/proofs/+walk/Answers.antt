-- `listing::walk` meets its contract.
use Rattle.buffers.proofs.Writes.{wrote_none}
use Rattle.acceptance.proofs.Steps.{tree_inside, passes_by, chain_has}
use Rattle.listing.proofs.Writes.{tree_none, level_less, place_one, left_room, left_chain, right_chain, right_place, left_place, tree_right_place}
use Rattle.listing.proofs.Writes.{tree_join, pair_chain, pair_place, pair_join, pair_room}
use Rattle.listing.proofs.+walk.Goals as goal

pub mark-requires : goal.mark-requires
mark-requires t c = tree_inside c.requires.0 c.requires.1

pub returns-then-mark : goal.returns-then-mark
returns-then-mark t c = wrote_none _ _ _ (tree_none _ _ _ _ (passes_by 3 _ _ _ c.requires.1 c.mark.ensures) c.if-mark.true)

pub overflow_sub-h : goal.overflow_sub-h
overflow_sub-h t c = left_room c.requires.0 c.if-level-eq0.false c.size-w.ensures

pub tree_at-left-requires : goal.tree_at-left-requires
tree_at-left-requires t c = chain_has (left_chain c.requires.0 c.if-level-eq0.false c.size-w.ensures)

pub day-b-requires : goal.day-b-requires
day-b-requires t c =
    let pre = c.requires in
    let q = left_chain pre.0 c.if-level-eq0.false c.size-w.ensures in
    (pair_chain q c.if-l-eq0.true, pair_place q c.tree_at-left.ensures c.if-l-eq0.true, place_one _ _ _ pre.2)

pub day-requires-then-l-eq0 : goal.day-requires-then-l-eq0
day-requires-then-l-eq0 t c =
    let pre = c.requires in
    let o = c.if-level-eq0.false in
    let q = right_chain pre.0 o c.size-w.ensures in (
      pair_chain q c.if-l-eq0.true,
      pair_place q (right_place pre.0 pre.1 o).1 c.if-l-eq0.true,
      pair_room _ _ _ _ _ _ _ _ _ o pre.2 c.if-l-eq0.true c.day-b.ensures c.day-b.auto.list,
    )

pub returns-then-l-eq0 : goal.returns-then-l-eq0
returns-then-l-eq0 t c =
    let pre = c.requires in
    pair_join _ _ _ _ _ _ _ _ _ _ _ (passes_by 3 _ _ _ pre.1 c.mark.ensures) c.if-mark.false c.if-level-eq0.false c.size-w.ensures pre.2
    c.if-l-eq0.true c.day-b.ensures c.day-then-l-eq0.ensures

pub walk-b-requires : goal.walk-b-requires
walk-b-requires t c =
    let pre = c.requires in
    let o = c.if-level-eq0.false in (
      level_less _ _ c.decreases o,
      (left_chain pre.0 o c.size-w.ensures, c.tree_at-left.ensures, left_place _ _ _ o pre.2),
    )

pub walk-requires : goal.walk-requires
walk-requires t c =
    let pre = c.requires in
    let o = c.if-level-eq0.false in (
      level_less _ _ c.decreases o,
      (
        right_chain pre.0 o c.size-w.ensures,
        (right_place pre.0 pre.1 o).1,
        tree_right_place _ _ _ _ _ _ _ _ _ o pre.2 c.walk-b.ensures c.walk-b.auto.list,
      ),
    )

pub returns : goal.returns
returns t c =
    let pre = c.requires in
    tree_join _ _ _ _ _ _ _ _ _ _ _ (passes_by 3 _ _ _ pre.1 c.mark.ensures) c.if-mark.false c.if-level-eq0.false c.size-w.ensures pre.2
    c.walk-b.ensures c.walk.ensures
