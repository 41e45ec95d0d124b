-- `acceptance::day_rules` meets its contract.
use Rattle.acceptance.specs.Private.{since_rule}
use Rattle.std.proofs.Common.{◌≡◌, ℕ, suc, ◌<◌, ◌^◌, true}
use Rattle.acceptance.proofs.day_rules.Given as goal

abbrev pub invariant-loop-l : goal.invariant-loop-l
invariant-loop-l l = ((j : ℕ) → suc j < l.l → since_rule l.n l.t l.g l.s (suc j) ≡ true) × (l.days ≡ 2 ^ l.l)
