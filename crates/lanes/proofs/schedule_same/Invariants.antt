-- `lanes::schedule_same` meets its contract.
use Prim.Native.Nat.{ℕ, ◌<◌}
use mathlib.Core.Path.{◌≡◌}
use lib.ListN.{length, take}
use Rattle.sha256.specs.Sha256.{schedule}
use Rattle.lanes.specs.Lanes.{lane}
use Rattle.lanes.proofs.schedule_same.Given as goal

abbrev pub invariant-loop-i : goal.invariant-loop-i
invariant-loop-i l = (length l.w ≡ 64) × ((j : ℕ) → j < 16 → lane (take l.i l.w) j ≡ schedule l.m l.i)
