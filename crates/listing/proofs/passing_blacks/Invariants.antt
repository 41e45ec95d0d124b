-- `listing::passing_blacks` meets its contract.
use Rattle.listing.specs.Private.{black_passes}
use Rattle.lists.specs.Lists.{up_from, every}
use mathlib.Core.{Path.◌≡◌, Bool.true}
use Rattle.listing.proofs.passing_blacks.Given as goal

abbrev pub invariant-loop-k : goal.invariant-loop-k
invariant-loop-k l = every (black_passes l.n l.t) (up_from 1 l.k) ≡ true
