-- `links::front` meets its contract.
use Rattle.links.proofs.Links.{front_of}
use borrow.Author.Rules.{rules}
use Rattle.links.proofs.front.Goals as goal

pub returns : goal.returns
returns c = (
  front_of _ _ c.across.ensures
      c.across-2.ensures
      c.across-3.ensures
      c.across-4.ensures
      c.across-5.ensures
      c.across-6.ensures
      c.across-7.ensures c.across-8.ensures
      c.across-9.ensures c.across-10.ensures
      c.across-11.ensures c.across-12.ensures c.across-13.ensures
      c.across-14.ensures c.across-15.ensures c.across-16.ensures,
  search rules,
)
