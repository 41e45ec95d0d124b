-- `chains::fronts` meets its contract.
use Prim.Native.Nat.{ℕ, ◌<◌}
use mathlib.Core.Path.{◌≡◌}
use lib.ListN.{length}
use Rattle.chains.specs.Private.{words_at, front_of}
use Rattle.lanes.proofs.LaneLaws.{Through}
use Rattle.chains.proofs.fronts.Given as goal

abbrev pub invariant-loop-j : goal.invariant-loop-j
invariant-loop-j l = (length l.slots ≡ 17) ×
    Through 16 (front_of l.slots l.h) l.j l.initial.w l.w × ((i : ℕ) → i < l.j → length (words_at l.slots i) ≡ 8)
