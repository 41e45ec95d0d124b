-- The test of each length is the test of all.
use Rattle.sizing.proofs.LengthLaws.{all_short}
use borrow.Author.Rules.{rules}
use Rattle.sizing.proofs.short_days.Goals as goal

pub returns : goal.returns
returns c = all_short c.args.lengths.now c.all.result (search rules) (search rules)
