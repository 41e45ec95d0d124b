-- `searching::level_behind` meets its contract.
use native.Mathlib.Omega.{arith}
use Rattle.searching.proofs.Frontier.{level_least}
use Rattle.searching.proofs.level_behind.Goals as goal

pub returns-then-g-d : goal.returns-then-g-d
returns-then-g-d c = λ h. absurd (omega (arith, c.if-g-d.true))

pub returns : goal.returns
returns c = λ h. level_least _ _ h c.requires.1 (cc)
