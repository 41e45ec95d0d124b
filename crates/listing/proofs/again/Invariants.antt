-- `listing::again` meets its contract.
use Rattle.listing.proofs.Tiles.{Copied}
use Rattle.listing.proofs.again.Given as goal

abbrev pub invariant-loop-i : goal.invariant-loop-i
invariant-loop-i l = Copied l.w l.at l.end l.initial.list l.i l.list
