-- `sha256::compress_with` meets its contract.
use Rattle.std.proofs.Common.{rules, arith}
use Rattle.std.proofs.lemmas.Grind.{common_steps}
use Rattle.sha256.proofs.Steps.{before_first, before_next, compressed}
use Rattle.sha256.proofs.compress_with.Goals as goal

pub loop-turn-init : goal.loop-turn-init
loop-turn-init c = before_first _ _ (search rules)

pub loop-turn-preserved : goal.loop-turn-preserved
loop-turn-preserved c = before_next _ _ _ c.loop-turn.invariant (search rules) c.requires c.rounds-next.ensures (grind (arith, common_steps))

pub returns : goal.returns
returns c = compressed _ _ _ c.loop-turn.invariant (omega arith) c.summed.ensures
