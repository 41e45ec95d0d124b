-- `comparing::all` meets its contract.
use Rattle.std.proofs.Common.{◌≡◌, ◌++◌, take, drop}
use Rattle.comparing.specs.Private.{compared}
use Rattle.comparing.proofs.all.Given as goal

abbrev pub invariant-loop-j : goal.invariant-loop-j
invariant-loop-j l = l.outcomes ≡ compared (take l.j l.values) l.book ++ drop l.j l.initial.outcomes
