-- `table_text::lines::put_line` meets its contract.
use mathlib.Core.Path.{◌∙◌}
use lib.ListN.{length, length-set}
use Prim.Native.Nat.{◌<◌}
use native.Mathlib.Omega.{arith}
use Rattle.table_text.proofs.{LineLaws.line_room, LineLaws.line_put}
use Rattle.table_text.proofs.lines.put_line.Goals.{After-put_numbers-b}
use Rattle.table_text.proofs.lines.put_line.Goals as goal

-- the place of the line feed stands in the buffer

room : (c : After-put_numbers-b) → c.put_numbers-b.result < length c.put_numbers-b.new.out
room c = let a = c.args in
    line_room _ _ _ _ a.word.now a.numbers.now a.out.now _ _ c.requires (c.put_numbers-b.auto.out ∙ c.put-a.auto.out)
    c.put-a.ensures c.put_numbers-b.ensures

pub bounds-out-b : goal.bounds-out-b
bounds-out-b c = room (goal.at.bounds-out-b c).After-put_numbers-b

pub overflow_add-result : goal.overflow_add-result
overflow_add-result c = record { fits = omega (arith, room (goal.at.overflow_add-result c).After-put_numbers-b) }

pub shape_of-out : goal.shape_of-out
shape_of-out c = let n = c.put_numbers-b in length-set n.new.out n.result _ ∙ n.auto.out ∙ c.put-a.auto.out

pub returns : goal.returns
returns c = let n = c.put_numbers-b in
    let a = c.args in
    line_put _ _ _ a.word.now a.numbers.now a.out.now _ _ c.requires c.put-a.auto.out n.auto.out c.put-a.ensures n.ensures
