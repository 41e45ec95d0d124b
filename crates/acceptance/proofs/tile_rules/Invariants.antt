-- `acceptance::tile_rules` meets its contract.
use Rattle.lists.specs.Lists.{every, up_from}
use Rattle.acceptance.specs.Private.{tile_rule}
use Prim.Native.Nat.{◌-◌}
use mathlib.Core.{Bool.true, Path.◌≡◌}
use Rattle.acceptance.proofs.tile_rules.Given as goal

abbrev pub invariant-loop-i : goal.invariant-loop-i
invariant-loop-i l = every (tile_rule l.n l.t l.g) (up_from 1 (l.i - 1)) ≡ true
