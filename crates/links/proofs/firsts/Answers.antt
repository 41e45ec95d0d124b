-- `links::firsts` meets its contract.
use mathlib.Core.Path.{refl}
use borrow.Author.Rules.{rules}
use Rattle.lanes.proofs.LaneLaws.{through_none, through_next, through_all}
use Rattle.links.proofs.Links.{firsts_are}
use Rattle.links.proofs.firsts.Goals as goal

pub loop-j-init : goal.loop-j-init
loop-j-init c = through_none 8 _ _ refl (search rules)

pub loop-j-preserved : goal.loop-j-preserved
loop-j-preserved c = through_next 8 _ _ _ _ _ c.loop-j.invariant c.put.ensures refl (search rules) (search rules)

pub returns : goal.returns
returns c = firsts_are _ _ (through_all 8 _ _ _ _ c.loop-j.invariant (search rules)) c.initial-v.ensures
