-- `prepared::scheduled` meets its contract.
use Prim.Native.Nat.{◌-◌}
use mathlib.Core.Path.{◌≡◌}
use lib.ListN.{length, get_or, take}
use Rattle.sha256.specs.Sha256.{schedule}
use Rattle.prepared.proofs.scheduled.Given as goal

abbrev pub invariant-loop-i : goal.invariant-loop-i
invariant-loop-i l =
    (length l.w ≡ 64) × (take l.i l.w ≡ schedule l.fn.m l.i) × (l.a ≡ get_or l.w (l.i - 2) 0) × (l.b ≡ get_or l.w (l.i - 1) 0)
