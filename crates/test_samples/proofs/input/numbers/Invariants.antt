use Rattle.std.proofs.Common.{◌≤◌}
use Rattle.test_samples.proofs.input.numbers.Given as goal

abbrev pub invariant-loop-b : goal.invariant-loop-b
invariant-loop-b l = l.k ≤ 10
