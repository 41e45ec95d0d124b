-- `ambiguity::put_tile` meets its contract.
use mathlib.Core.Path.{◌∙◌}
use native.Mathlib.Omega.{arith}
use Rattle.ambiguity.proofs.LineLaws.{countable_more, second_room, third_room, tile_written}
use Rattle.ambiguity.proofs.put_tile.Goals as goal

pub put_line-b-requires : goal.put_line-b-requires
put_line-b-requires c = (countable_more c.args.n _ c.requires.0 (omega arith) (omega arith), second_room _ c.args.n _ c.args.out.now _ c.requires.1 c.put_line-a.ensures c.put_line-a.auto.out)

pub put_line-requires : goal.put_line-requires
put_line-requires c = (
  countable_more c.args.n _ c.requires.0 (omega arith) (omega arith),
  third_room _ c.args.n _ c.args.out.now _ c.requires.1 c.put_line-a.ensures _ _ c.put_line-b.ensures (c.put_line-b.auto.out ∙ c.put_line-a.auto.out),
)

pub returns : goal.returns
returns c = tile_written _ c.args.n _ c.args.out.now _ c.requires.1 c.put_line-a.ensures _ _ c.put_line-b.ensures _ _ c.put_line-a.auto.out c.put_line.ensures
