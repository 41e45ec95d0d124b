-- `acceptance::last_failed` meets its contract.
use Rattle.acceptance.proofs.{Steps.tree_inside, Steps.passes_by, Since.own_chain, Since.last_kept, Since.last_new}
use Rattle.acceptance.proofs.last_failed.Goals as goal

pub mark-requires : goal.mark-requires
mark-requires c = let pre = c.requires in tree_inside (own_chain pre.0) pre.1

pub returns-then-mark : goal.returns-then-mark
returns-then-mark c = last_kept c.args.n c.args.t.now c.requires.0.some c.requires.2 (passes_by 3 _ _ _ c.requires.1 c.mark.ensures) c.if-mark.true

pub returns-else-mark : goal.returns-else-mark
returns-else-mark c = last_new c.args.n c.args.t.now c.requires.0.some c.requires.2 (passes_by 3 _ _ _ c.requires.1 c.mark.ensures) c.if-mark.false
