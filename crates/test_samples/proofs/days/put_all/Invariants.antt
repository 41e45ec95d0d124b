use Rattle.std.proofs.Common.{◌≤◌, length}
use Rattle.test_samples.proofs.days.put_all.Given as goal

abbrev pub invariant-loop-i : goal.invariant-loop-i
invariant-loop-i l = l.at ≤ length l.ledger
