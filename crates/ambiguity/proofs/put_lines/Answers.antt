-- `ambiguity::put_lines` meets its contract.
use Rattle.std.proofs.Common.{arith}
use Rattle.ambiguity.proofs.LineLaws.{power_countable, lines_none, tile_room, lines_next}
use Rattle.ambiguity.proofs.put_lines.Goals as goal

pub loop-i-init : goal.loop-i-init
loop-i-init c = lines_none _

pub put_tile-at-requires : goal.put_tile-at-requires
put_tile-at-requires c = (power_countable c.loop-i.i (omega arith) c.size.ensures, tile_room c.loop-i.i _ _ _ c.requires c.loop-i.invariant (omega arith) c.loop-i.auto.out)

pub loop-i-preserved : goal.loop-i-preserved
loop-i-preserved c = lines_next c.loop-i.i _ _ _ c.requires c.loop-i.invariant _ _ (omega arith) c.size.ensures c.put_tile-at.ensures
