-- `links::link_by` meets its contract.
use mathlib.Core.Path.{refl, ◌∙◌}
use Rattle.prepared.proofs.Laws.{worked_is}
use Rattle.links.proofs.Links.{link_of_lem}
use borrow.Author.Rules.{rules}
use Rattle.links.proofs.link_by.Goals as goal

pub returns : goal.returns
returns c = link_of_lem _ _ c.front-m.ensures.0 refl c.initial.ensures c.compress-g.ensures
    (c.compress.ensures ∙ worked_is _ _ _ c.requires) c.front-m.ensures.1 (search rules)
