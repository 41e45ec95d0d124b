-- The loop's invariant: the buffers hold what a check of the first i days writes.
use mathlib.Core.Path.{◌≡◌}
use Rattle.checking.proofs.Through.{Through}
use Rattle.checking.proofs.check_days.Given as goal

abbrev pub invariant-loop-i : goal.invariant-loop-i
invariant-loop-i g l =
    (g.R.Running.state l.running).scheme ≡ (g.R.Running.state l.fn.running).scheme ×
    (g.R.Running.state l.running).n ≡ (g.R.Running.state l.fn.running).n ×
    Through l.d l.ledger l.ends l.book l.initial.work l.initial.outcomes l.i l.at (g.R.Running.state l.running) l.work l.outcomes
