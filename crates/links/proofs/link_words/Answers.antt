-- `links::link_words` meets its contract.
use Rattle.links.proofs.Links.{link_of_lem}
use borrow.Author.Rules.{rules}
use Rattle.links.proofs.link_words.Goals as goal

pub returns : goal.returns
returns c =
    link_of_lem _ _ c.front-m.ensures.0 c.back-n.ensures c.initial.ensures c.compress_with-g.ensures
    c.compress_with.ensures (search rules) (search rules)
