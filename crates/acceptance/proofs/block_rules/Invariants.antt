-- `acceptance::block_rules` meets its contract.
use Rattle.lists.specs.Lists.{every, up_from}
use Rattle.acceptance.specs.Private.{prior, block_at}
use Prim.Native.Nat.{◌-◌, ◌*◌}
use mathlib.Core.{Bool.true, Path.◌≡◌}
use Rattle.acceptance.proofs.block_rules.Given as goal

abbrev pub invariant-loop-k : goal.invariant-loop-k
invariant-loop-k l = (l.before ≡ prior l.scheme l.n l.t (l.k * l.n)) × (every (block_at l.scheme l.n l.t) (up_from 1 (l.k - 1)) ≡ true)
