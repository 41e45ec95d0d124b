-- The loop's invariant: the days of index below i are sealed, and at is the place behind their values.
use Rattle.sealing.proofs.SealLaws.{Through}
use Rattle.sealing.proofs.seal_days.Given as goal

abbrev pub invariant-loop-i : goal.invariant-loop-i
invariant-loop-i l = Through l.scheme l.n l.f l.ledger l.ends l.initial.book l.i l.at l.state l.book
