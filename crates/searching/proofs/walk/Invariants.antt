-- The loop's invariant: the walk after some looks, and what is written of it.
use Prim.Native.Nat.{◌-◌}
use Rattle.searching.proofs.Looks.{Through}
use Rattle.searching.proofs.walk.Given as goal

abbrev pub invariant-loop-looked : goal.invariant-loop-looked
invariant-loop-looked l = Through l.n l.d l.t l.limit l.initial.list l.looked l.c l.list

abbrev pub decreases-loop-looked : goal.decreases-loop-looked
decreases-loop-looked l = l.limit - l.looked
