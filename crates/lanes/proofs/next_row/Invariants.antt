-- `lanes::next_row` meets its contract.
use Prim.Native.Nat.{ℕ, ◌<◌}
use mathlib.Core.Path.{◌≡◌}
use lib.ListN.{length, get_or}
use Rattle.sha256.specs.Sha256.{later}
use Rattle.lanes.specs.Lanes.{lane}
use Rattle.lanes.proofs.next_row.Given as goal

abbrev pub invariant-loop-j : goal.invariant-loop-j
invariant-loop-j l = (length l.row ≡ 16) × ((k : ℕ) → k < l.j → get_or l.row k 0 ≡ later (lane l.w k) l.i)
