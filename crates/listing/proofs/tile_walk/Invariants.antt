-- `listing::tile_walk` meets its contract.
use Rattle.listing.proofs.Tiles.{Doubled}
use Rattle.listing.proofs.tile_walk.Given as goal

abbrev pub invariant-loop-l : goal.invariant-loop-l
invariant-loop-l l = Doubled l.day l.m l.at l.initial.list l.l l.end l.list
