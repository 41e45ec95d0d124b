-- `prepared::compress` meets its contract.
use Prim.Native.Nat.{◌*◌}
use mathlib.Core.Path.{◌≡◌}
use mathlib.Core.List.{[]}
use Rattle.sha256.specs.Private.{rounds_on}
use Rattle.prepared.proofs.compress.Given as goal

abbrev pub invariant-loop-turn : goal.invariant-loop-turn
invariant-loop-turn l = l.v ≡ rounds_on l.h [] l.w 0 (16 * l.turn)
