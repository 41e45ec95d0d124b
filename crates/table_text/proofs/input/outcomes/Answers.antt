-- `table_text::input::outcomes` meets its contract.
use Rattle.table_text.proofs.InputLaws.{outcomes_next}
use Rattle.table_text.proofs.input.outcomes.Goals as goal

pub loop-i-preserved : goal.loop-i-preserved
loop-i-preserved c = outcomes_next c.args.ds.now c.args.to.now _ c.loop-i.i c.loop-i-test.true c.requires c.loop-i.invariant c.digit.ensures
