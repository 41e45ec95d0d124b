-- `listing::tree_walk` meets its contract.
use Rattle.acceptance.specs.Private.{is_listed}
use Rattle.buffers.specs.Private.{Wrote}
use Rattle.evidence.specs.Evidence.{days}
use Rattle.lists.specs.Lists.{keep}
use Rattle.std.proofs.Common.{◌*◌, ◌/◌, ◌^◌}
use Rattle.listing.proofs.tree_walk.Given as goal

abbrev pub invariant-loop-level : goal.invariant-loop-level
invariant-loop-level l = Wrote 0 (keep (is_listed 3 l.n l.t) (days (l.d / 2 ^ l.level * 2 ^ l.level))) l.initial.list l.at l.list
