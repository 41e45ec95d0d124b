-- `layouts::black_at` meets its contract.
use Rattle.layouts.proofs.AllowedLaws.{black_value}
use Rattle.layouts.proofs.black_at.Goals as goal

pub overflow_sub-result : goal.overflow_sub-result
overflow_sub-result c = (black_value _ _ _ c.requires.0 c.requires.1 c.requires.2 c.requires.4 c.values_through.ensures).0
