-- `listing::run` meets its contract.
use Rattle.buffers.specs.Private.{Wrote}
use Rattle.lists.specs.Lists.{up_from}
use Rattle.std.proofs.Common.{◌+◌, ◌-◌}
use Rattle.listing.proofs.run.Given as goal

abbrev pub invariant-loop-day : goal.invariant-loop-day
invariant-loop-day l = Wrote l.at (up_from l.first (l.day - l.first)) l.initial.list (l.at + (l.day - l.first)) l.list
