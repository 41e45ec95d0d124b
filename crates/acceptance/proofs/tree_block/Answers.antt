-- `acceptance::tree_block` meets its contract.
use Rattle.acceptance.proofs.{Steps.chain_own, Steps.alike_is}
use Rattle.acceptance.specs.Private.{block_rule}
use Rattle.acceptance.proofs.tree_block.Goals.{then-before, else-before}
use Rattle.acceptance.proofs.tree_block.Goals as goal

pub tree_passes-whole-requires : goal.tree_passes-whole-requires
tree_passes-whole-requires c = chain_own c.requires.0 c.lg.ensures

pub returns : goal.returns
unfolding block_rule
returns c = let pre = c.requires in
    elim c.if-before.branch [
      | then-before w ↦ rw (w.whole-is, ← pre.2, ← pre.1, w.if-before.true, ← w.lg.ensures, ← w.tree_passes-whole.ensures) (alike_is _ _)
      | else-before w ↦ rw (w.whole-is, ← pre.2, ← pre.1, w.if-before.false) (alike_is _ _)
    ]
