-- `listing::tiles_walk` meets its contract.
use Rattle.acceptance.specs.Private.{is_listed}
use Rattle.buffers.specs.Private.{Wrote}
use Rattle.evidence.specs.Evidence.{days}
use Rattle.lists.specs.Lists.{keep}
use Rattle.std.proofs.Common.{◌-◌, ◌*◌}
use Rattle.listing.proofs.tiles_walk.Given as goal

abbrev pub invariant-loop-k : goal.invariant-loop-k
invariant-loop-k l = Wrote 0 (keep (is_listed 2 l.n l.t) (days ((l.k - 1) * l.n))) l.initial.list l.at l.list
