use Rattle.std.proofs.Common.{◌≤◌, length}
use Rattle.test_service.proofs.books.seal.Given as goal

abbrev pub invariant-loop-g : goal.invariant-loop-g
invariant-loop-g l = l.at ≤ length l.book
