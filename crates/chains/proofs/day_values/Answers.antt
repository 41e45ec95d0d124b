-- `chains::day_values` meets its contract.
use mathlib.Core.Path.{sym, refl, ◌∙◌}
use borrow.Author.Rules.{rules}
use Rattle.chains.proofs.Values.{in_slots, values_black, values_plain, black_place_lem}
use Rattle.chains.proofs.day_values.Goals as goal

pub bounds-r-k : goal.bounds-r-k
bounds-r-k c = let a = c.args in let p = c.requires in
    (black_place_lem a.scheme a.n a.g a.black a.slots (search rules) (in_slots a.scheme a.n a.g p.0 p.1 p.2 p.3) a.k
    (sym c.stores_black.ensures ∙ c.if-stores_black.true) p.4).1

pub returns-then-stores_black : goal.returns-then-stores_black
returns-then-stores_black c = let a = c.args in let p = c.requires in
    values_black a.scheme a.n a.g a.black a.slots (search rules) (in_slots a.scheme a.n a.g p.0 p.1 p.2 p.3) a.k
    (sym c.stores_black.ensures ∙ c.if-stores_black.true) p.4 refl

pub returns-else-stores_black : goal.returns-else-stores_black
returns-else-stores_black c = let a = c.args in let p = c.requires in
    values_plain a.scheme a.n a.g a.black a.slots (search rules) (in_slots a.scheme a.n a.g p.0 p.1 p.2 p.3) a.k
    (sym c.stores_black.ensures ∙ c.if-stores_black.false) p.4 refl
