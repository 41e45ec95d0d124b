-- `chains::step` meets its contract.
use borrow.Author.Rules.{rules}
use Rattle.chains.proofs.Values.{day_tree, day_black}
use Rattle.chains.proofs.step.Goals as goal

pub returns-in-3 : goal.returns-in-3
returns-in-3 c = let a = c.args in
    day_tree a.scheme a.n a.g a.black a.slots a.h c.in-3.is c.values_of_day-count.ensures c.link_value.ensures c.link_levels.ensures

pub returns-in_default : goal.returns-in_default
returns-in_default c = let a = c.args in
    day_black a.scheme a.n a.g a.black a.slots a.h c.requires.0 (search rules) (search rules) c.values_of_day-count.ensures c.link_value-in_default.ensures
