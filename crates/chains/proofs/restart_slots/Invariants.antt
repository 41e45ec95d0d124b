-- `chains::restart_slots` meets its contract.
use mathlib.Core.Path.{◌≡◌}
use Rattle.chains.specs.Step.{restart_slot}
use Rattle.chains.proofs.Slots.{upto}
use Rattle.chains.proofs.restart_slots.Given as goal

abbrev pub invariant-loop-i : goal.invariant-loop-i
invariant-loop-i l = l.r ≡ upto (restart_slot l.scheme l.n l.g l.fn.start) 0 l.i l.initial.r
