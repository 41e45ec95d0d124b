-- `comparing::all` meets its contract.
use Rattle.std.proofs.Common.{rules}
use Rattle.comparing.proofs.Laws.{compared_next}
use Rattle.comparing.proofs.all.Goals as goal

pub loop-j-preserved : goal.loop-j-preserved
loop-j-preserved c =
    compared_next c.args.values.now c.args.book.now c.args.outcomes.now c.loop-j.outcomes c.loop-j.j c.outcome.result _ c.loop-j.invariant (search rules) (search rules) c.outcome.ensures
