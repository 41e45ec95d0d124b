-- `chains::link_levels` meets its contract.
use mathlib.Core.Path.{◌≡◌}
use Rattle.chains.specs.Private.{link_each}
use Rattle.chains.proofs.Slots.{upto}
use Rattle.chains.proofs.link_levels.Given as goal

abbrev pub invariant-loop-i : goal.invariant-loop-i
invariant-loop-i l = l.r ≡ upto (link_each l.h) 0 l.i l.initial.r
