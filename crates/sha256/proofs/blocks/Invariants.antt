-- `sha256::blocks` meets its contract.
use Rattle.std.proofs.Common.{◌≡◌}
use Rattle.std.specs.Slice.Iter.{chunks_exact_rest, chunks_exact_size}
use Rattle.sha256.specs.Sha256 as spec
use Rattle.sha256.proofs.blocks.Given as goal

-- what is left, from v on, gives what the whole gives
abbrev pub invariant-loop-block : goal.invariant-loop-block
invariant-loop-block l = (chunks_exact_size l.block-iterator ≡ 64) × (spec.blocks l.v (chunks_exact_rest l.block-iterator) ≡ spec.blocks l.initial.v l.s)
