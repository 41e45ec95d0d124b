-- `acceptance::block_rules` meets its contract.
use Rattle.acceptance.proofs.Steps.{every_turn, every_stop, every_done, interval_of, prior_none, prior_turn}
use Rattle.acceptance.specs.Private.{block_at, blocks_rule}
use Rattle.layouts.proofs.AllowedLaws.{allowed_n_is}
use native.Mathlib.Omega.{arith}
use Prim.Native.Nat.{◌/◌}
use mathlib.Core.{Path.refl}
use Rattle.acceptance.proofs.block_rules.Goals as goal

pub loop-k-init : goal.loop-k-init
loop-k-init c = (prior_none _ _ _, refl)

pub black_passes-own-requires : goal.black_passes-own-requires
black_passes-own-requires c = interval_of _ c.requires (omega arith) (omega arith)

pub block_rule-requires : goal.block_rule-requires
block_rule-requires c = (interval_of _ c.requires (omega arith) (omega arith), c.loop-k.invariant.0, c.black_passes-own.ensures)

pub returns-then-not-block_rule : goal.returns-then-not-block_rule
unfolding block_at blocks_rule
returns-then-not-block_rule c = let a = c.args in
    every_stop _ 1 (a.d / a.n) c.loop-k.k (omega arith) (omega arith) c.block_rule.ensures c.if-not-block_rule.true

pub loop-k-preserved : goal.loop-k-preserved
unfolding block_at
loop-k-preserved c = (
  prior_turn _ _ _ _ (allowed_n_is _ c.requires.n_ok).some (omega arith) c.black_passes-own.ensures,
  every_turn _ c.loop-k.k (omega arith) c.loop-k.invariant.1 c.block_rule.ensures c.if-not-block_rule.false,
)

pub returns-else-not-block_rule : goal.returns-else-not-block_rule
unfolding block_at blocks_rule
returns-else-not-block_rule c = let a = c.args in
    every_done _ 1 _ (a.d / a.n) (omega arith) (omega arith)
    (every_turn _ c.loop-k.k (omega arith) c.loop-k.invariant.1 c.block_rule.ensures c.if-not-block_rule.false)
