-- `layouts::values_of_day` meets its contract.
use Rattle.layouts.proofs.AllowedLaws.{day_values_lem}
use Rattle.layouts.proofs.values_of_day.Goals as goal

pub overflow_sub-result : goal.overflow_sub-result
overflow_sub-result c = (day_values_lem _ _ _ c.requires.2 c.values_through.ensures c.values_through-2.ensures).0
