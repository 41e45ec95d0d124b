-- The numbers of a turn are small.
use native.Mathlib.Omega.{arith}
use Rattle.sizing.proofs.LengthLaws.{Small, loop_small}
use Rattle.sizing.proofs.blocks.Goals.{After-link_count-links}
use Rattle.sizing.proofs.blocks.Goals as goal

small : (c : After-link_count-links) → Small c.loop-i.sum c.day_blocks-own.result c.link_count-links.result
small c =
    let l = c.loop-i in
    loop_small c.args.scheme c.args.n c.args.lengths.now c.args.d l.i c.requires.3 c.requires.1 (omega arith) l.invariant
    c.day_blocks-own.ensures c.link_count-links.ensures

pub overflow_mul-links : goal.overflow_mul-links
overflow_mul-links c = record { fits = omega (arith, (small (goal.at.overflow_mul-links c).After-link_count-links).links_few) }

pub overflow_add-own : goal.overflow_add-own
overflow_add-own c =
    let s = small (goal.at.overflow_add-own c).After-link_count-links in
    record { fits = omega (arith, s.links_few, s.own_most) }

pub overflow_add-sum : goal.overflow_add-sum
overflow_add-sum c =
    let s = small (goal.at.overflow_add-sum c).After-link_count-links in
    record { fits = omega (arith, s.links_few, s.own_most, s.sum_most, c.from-sum.ensures) }
