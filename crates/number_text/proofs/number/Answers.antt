-- `number_text::number` meets its contract.
use Rattle.number_text.proofs.FieldLaws.{number_small}
use Rattle.std.proofs.Common.{arith}
use Rattle.number_text.proofs.number.Goals as goal

pub overflow_mul-v : goal.overflow_mul-v
overflow_mul-v c = record { fits = omega (arith, number_small _ _ _ c.loop-b.invariant.0 c.loop-b-test.true c.requires) }
