-- `chains::fronts` meets its contract.
use borrow.Author.Rules.{rules}
use Rattle.chains.proofs.Levels.{fronts_turn, eight_more}
use Rattle.chains.proofs.fronts.Goals as goal

pub loop-j-preserved : goal.loop-j-preserved
loop-j-preserved c = let l = c.loop-j in let a = c.args in (
  l.invariant.0,
  fronts_turn a.slots _ a.h l.j _ l.w l.invariant.1 c.front.ensures.0 c.put.ensures (search rules) l.invariant.0,
  eight_more a.slots _ l.j l.invariant.2 c.front.ensures.1 (search rules) l.invariant.0,
)
