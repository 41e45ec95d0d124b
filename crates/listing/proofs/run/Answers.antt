-- `listing::run` meets its contract.
use Rattle.listing.proofs.Writes.{run_next}
use Rattle.std.proofs.Common.{arith}
use Rattle.listing.proofs.run.Goals as goal

pub loop-day-preserved : goal.loop-day-preserved
loop-day-preserved c = let l = c.loop-day in
    run_next _ l.day c.args.end _ _ _ (omega arith) (omega arith) c.requires.1 l.auto.list l.invariant
