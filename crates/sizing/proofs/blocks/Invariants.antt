-- The loop's invariant: the sum is that of the first i days.
use mathlib.Core.Path.{◌≡◌}
use Rattle.sizing.specs.Sizing.{blocks_through}
use Rattle.sizing.proofs.blocks.Given as goal

abbrev pub invariant-loop-i : goal.invariant-loop-i
invariant-loop-i l = l.sum ≡ blocks_through l.scheme l.n l.lengths l.i
