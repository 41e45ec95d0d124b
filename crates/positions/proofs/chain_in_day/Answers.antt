-- `positions::chain_in_day` meets its contract: the ranges decide which value it is.
use native.Mathlib.Omega.{arith}
use Rattle.positions.proofs.StepLaws.{under, level_asks}
use Rattle.positions.proofs.chain_in_day.Goals as goal

pub overflow_sub-e : goal.overflow_sub-e
overflow_sub-e c = let a = c.args in under a.scheme a.n a.g a.i c.requires c.black_place.ensures

pub tree_chain-requires : goal.tree_chain-requires
tree_chain-requires c =
    let a = c.args in
    level_asks a.scheme a.n a.g a.i c.requires c.black_place.ensures (λ e. absurd (omega arith)) (λ e. absurd (omega arith)) (omega arith)
