-- `listing::walk` meets its contract.
use Rattle.listing.proofs.+walk.Given as goal

abbrev pub decreases-walk : goal.decreases-walk
decreases-walk l = l.level
