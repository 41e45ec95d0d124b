-- The loop's invariant: the position is not below the values up to day `low`, and below those up to day `high`.
use native.Mathlib.Omega.{arith}
use borrow.Author.Rules.{rules}
use Rattle.positions.proofs.StepLaws.{no_values, some_day}
use Rattle.positions.proofs.day_of.Goals as goal

pub loop-high-init : goal.loop-high-init
loop-high-init c = let a = c.args in (
  some_day a.scheme a.n a.d a.position c.requires.3,
  search rules,
  omega
      (arith, no_values a.scheme a.n),
  c.requires.3,
)
