-- `lanes::state` meets its contract.
use Prim.Native.Nat.{ℕ, ◌<◌}
use mathlib.Core.Path.{◌≡◌}
use mathlib.Core.List.{[]}
use lib.ListN.{length, get_or}
use Rattle.lanes.proofs.state.Given as goal

abbrev pub invariant-loop-i : goal.invariant-loop-i
invariant-loop-i l = (length l.v ≡ 8) × ((k : ℕ) → k < l.i → get_or l.v k 0 ≡ get_or (get_or l.s k []) l.j 0)
