-- `lanes::four_rounds` meets its contract.
use mathlib.Core.Path.{◌≡◌}
use Rattle.lanes.specs.Private.{on_lane}
use Rattle.lanes.proofs.four_rounds.Given as goal

abbrev pub invariant-loop-i : goal.invariant-loop-i
invariant-loop-i l = l.r ≡ on_lane l.w l.k l.t l.i l.initial.r l.j
