-- `chains::link_levels` meets its contract.
use borrow.Author.Rules.{rules}
use Rattle.chains.proofs.Levels.{links_are, levels_next, levels_done}
use Rattle.chains.proofs.link_levels.Goals as goal

pub loop-i-preserved : goal.loop-i-preserved
loop-i-preserved c = let l = c.loop-i in let a = c.args in
    levels_next a.h c.link_lanes-s.result l.i a.slots l.r l.invariant c.state.ensures
    (links_are a.slots a.h c.fronts.result c.link_lanes-s.result c.fronts.ensures c.link_lanes-s.ensures (search rules) l.i (search rules))
    (search rules)

pub returns : goal.returns
returns c = let l = c.loop-i in levels_done _ _ l.i _ l.r l.invariant (search rules) c.link_value.ensures (search rules)
