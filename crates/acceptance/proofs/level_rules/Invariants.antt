-- `acceptance::level_rules` meets its contract.
use Rattle.acceptance.proofs.Since.{Checked}
use Rattle.acceptance.specs.Private.{LastFailed}
use Prim.Native.Nat.{◌-◌}
use Rattle.acceptance.proofs.level_rules.Given as goal

abbrev pub invariant-loop-g : goal.invariant-loop-g
invariant-loop-g l = LastFailed l.n l.t (l.g - 1) l.s × Checked l.n l.t (l.g - 1)
