-- `chains::link_tiles` meets its contract.
use mathlib.Core.Path.{◌≡◌}
use Rattle.chains.specs.Step.{link_slot}
use Rattle.chains.proofs.Slots.{upto}
use Rattle.chains.proofs.link_tiles.Given as goal

abbrev pub invariant-loop-i : goal.invariant-loop-i
invariant-loop-i l = l.r ≡ upto (link_slot 2 l.n l.g l.h) 0 l.i l.initial.r
