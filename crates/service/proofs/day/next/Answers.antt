-- `service::day::next` meets its contract.
use native.Mathlib.Omega.{arith}
use Rattle.service.proofs.DayLaws.{day_asks, after_next}
use Rattle.service.proofs.day.next.Goals as goal

pub overflow_add-result : goal.overflow_add-result
overflow_add-result c = let a = day_asks c.args.state c.requires.0 in omega (arith, a.3)

pub returns : goal.returns
returns c = after_next c.args.state c.requires.1 c.begin.ensures
