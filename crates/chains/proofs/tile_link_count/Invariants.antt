-- `chains::tile_link_count` meets its contract.
use Prim.Native.Nat.{suc}
use mathlib.Core.Path.{◌≡◌}
use Rattle.chains.specs.Step.{slot_links}
use Rattle.chains.proofs.tile_link_count.Given as goal

abbrev pub invariant-loop-i : goal.invariant-loop-i
invariant-loop-i l = l.links ≡ suc (slot_links 2 l.n l.g l.i)
