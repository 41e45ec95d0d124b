-- `listing::day` meets its contract.
use Rattle.listing.proofs.{Writes.tree_none, Writes.tree_day}
use Rattle.buffers.proofs.Writes.{wrote_none, wrote_one}
use Rattle.acceptance.proofs.Steps.{tree_inside, passes_by}
use Rattle.std.proofs.Common.{refl}
use Rattle.listing.proofs.day.Goals as goal

pub mark-requires : goal.mark-requires
mark-requires c = let pre = c.requires in tree_inside pre.0 pre.1

pub returns-then-mark : goal.returns-then-mark
returns-then-mark c = wrote_none _ _ _ (tree_none _ 0 _ _ (passes_by 3 _ _ _ c.requires.1 c.mark.ensures) c.if-mark.true)

pub returns : goal.returns
returns c = let pre = c.requires in
    wrote_one _ _ _ _ (tree_day _ 0 _ _ (passes_by 3 _ _ _ pre.1 c.mark.ensures) c.if-mark.false refl) pre.2
