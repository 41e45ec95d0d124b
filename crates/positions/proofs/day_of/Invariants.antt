-- The loop's invariant: the position is not below the values up to day `low`, and below those up to day `high`.
use Prim.Native.Nat.{◌≤◌, ◌<◌, ◌-◌}
use lib.ListN.{length}
use Rattle.layouts.specs.Layouts.{chains}
use Rattle.positions.proofs.day_of.Given as goal

abbrev pub invariant-loop-high : goal.invariant-loop-high
invariant-loop-high l =
    (l.low < l.high) × (l.high ≤ l.d) × (length (chains l.scheme l.n l.low) ≤ l.position) × (l.position < length (chains l.scheme l.n l.high))

abbrev pub decreases-loop-high : goal.decreases-loop-high
decreases-loop-high l = l.high - l.low
