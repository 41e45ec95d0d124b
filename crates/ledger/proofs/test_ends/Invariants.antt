-- The loop's invariant: the first i ends are good.
use mathlib.Core.{Path.◌≡◌, Bool.true}
use Rattle.ledger.specs.Ledger.{good_ends}
use Rattle.ledger.proofs.test_ends.Given as goal

abbrev pub invariant-loop-i : goal.invariant-loop-i
invariant-loop-i l = good_ends l.i l.ends l.size ≡ true
