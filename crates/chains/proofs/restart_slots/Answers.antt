-- `chains::restart_slots` meets its contract.
use mathlib.Core.Path.{◌∙◌}
use borrow.Author.Rules.{rules}
use Rattle.chains.proofs.Slots.{restart_put, restart_keep, restarted_done}
use Rattle.chains.proofs.restart_slots.Goals.{then-stores_slot, else-stores_slot}
use Rattle.chains.proofs.restart_slots.Goals as goal

pub loop-i-preserved : goal.loop-i-preserved
loop-i-preserved c = let a = c.args in let l = c.loop-i in elim c.if-stores_slot.branch [
  | then-stores_slot w ↦ w.r-is
      ∙ restart_put a.scheme a.n a.g a.start l.i a.slots l.r _ l.invariant c.stores_slot.ensures w.if-stores_slot.true (search rules)
  | else-stores_slot w ↦ w.r-is
      ∙ restart_keep a.scheme a.n a.g a.start l.i a.slots l.r _ l.invariant c.stores_slot.ensures w.if-stores_slot.false
]

pub returns : goal.returns
returns c = let a = c.args in
    restarted_done a.scheme a.n a.g a.start c.loop-i.i a.slots c.loop-i.invariant (search rules) (search rules)
