-- `acceptance::accepts` meets its contract.
use borrow.Author.Tests.{eq-eqb, ne_eqb}
use Rattle.acceptance.specs.Private.{rules}
use Rattle.acceptance.proofs.accepts.Goals as goal

pub returns-then-scheme-ne3 : goal.returns-then-scheme-ne3
unfolding rules
returns-then-scheme-ne3 c = rw (← c.block_rules.ensures, c.if-block_rules.true, ne_eqb _ 3 c.if-scheme-ne3.true)

pub returns-else-scheme-ne3 : goal.returns-else-scheme-ne3
unfolding rules
returns-else-scheme-ne3 c = rw (← c.block_rules.ensures, c.if-block_rules.true, eq-eqb _ 3 c.if-scheme-ne3.false) c.level_rules.ensures

pub returns-else-block_rules : goal.returns-else-block_rules
unfolding rules
returns-else-block_rules c = rw (← c.block_rules.ensures, c.if-block_rules.false)
