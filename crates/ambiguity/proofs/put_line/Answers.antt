-- `ambiguity::put_line` meets its contract.
use mathlib.Core.Path.{◌∙◌}
use native.Mathlib.Omega.{arith}
use Prim.Native.Nat.{◌<◌}
use lib.ListN.{length, length-set}
use Rattle.ambiguity.proofs.LineLaws.{digits_room, feed_room, line_written}
use Rattle.ambiguity.proofs.put_line.Goals.{After-put_numbers-b}
use Rattle.ambiguity.proofs.put_line.Goals as goal

-- the place of the line feed stands in the buffer

feed : (c : After-put_numbers-b) → c.put_numbers-b.result < length c.put_numbers-b.new.out
feed c = feed_room _ c.args.n _ _ _ _ _ c.args.out.now _ _ c.requires.1 c.put_digits-a.ensures c.put_numbers-b.ensures (c.put_numbers-b.auto.out ∙ c.put_digits-a.auto.out)

pub put_numbers-b-requires : goal.put_numbers-b-requires
put_numbers-b-requires c = digits_room _ c.args.n _ _ c.args.out.now _ c.requires.1 c.put_digits-a.auto.out c.put_digits-a.ensures

pub bounds-out-b : goal.bounds-out-b
bounds-out-b c = feed (goal.at.bounds-out-b c).After-put_numbers-b

pub overflow_add-result : goal.overflow_add-result
overflow_add-result c = record { fits = omega (arith, feed (goal.at.overflow_add-result c).After-put_numbers-b) }

pub shape_of-out : goal.shape_of-out
shape_of-out c = length-set c.put_numbers-b.new.out c.put_numbers-b.result _ ∙ c.put_numbers-b.auto.out ∙ c.put_digits-a.auto.out

pub returns : goal.returns
returns c = line_written _ c.args.n _ _ _ _ _ c.args.out.now _ _ c.requires.1 c.put_digits-a.ensures c.put_numbers-b.ensures c.put_digits-a.auto.out c.put_numbers-b.auto.out
    c.set_count.ensures c.listed_count.ensures
