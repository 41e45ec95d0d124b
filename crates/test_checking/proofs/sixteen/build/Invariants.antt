use Rattle.std.proofs.Common.{◌≤◌, length}
use Rattle.test_checking.proofs.sixteen.build.Given as goal

abbrev pub invariant-loop-day : goal.invariant-loop-day
invariant-loop-day l = l.at ≤ length l.ledger
