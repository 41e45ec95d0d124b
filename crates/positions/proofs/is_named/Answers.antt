-- `positions::is_named` meets its contract.
use Rattle.positions.proofs.StepLaws.{no_value, a_value, by_numbers}
use Rattle.positions.proofs.is_named.Goals as goal

pub chain_in_day-requires : goal.chain_in_day-requires
chain_in_day-requires c =
    let a = c.args in
    let p = c.requires in
    (p.0, p.1, p.2, p.3, a_value a.scheme a.n a.g a.i c.values_of_day.ensures c.if-i-values_of_day.true)

pub returns-then-i-values_of_day : goal.returns-then-i-values_of_day
returns-then-i-values_of_day c =
    let a = c.args in
    by_numbers a.scheme a.n a.g a.i c.values_of_day.ensures a.numbers c.if-i-values_of_day.true c.chain_in_day.ensures
    c.has_numbers.ensures

pub returns-else-i-values_of_day : goal.returns-else-i-values_of_day
returns-else-i-values_of_day c =
    let a = c.args in
    no_value a.scheme a.n a.g a.i c.values_of_day.ensures a.numbers c.if-i-values_of_day.false
