-- `ambiguity::put_lines` meets its contract.
use Rattle.buffers.specs.Private.{Wrote}
use Rattle.ambiguity.specs.Ambiguity.{text_in}
use Rattle.ambiguity.specs.Private.{ascending}
use Rattle.ambiguity.proofs.put_lines.Given as goal

abbrev pub invariant-loop-i : goal.invariant-loop-i
invariant-loop-i l = Wrote 0 (text_in (ascending l.i)) l.initial.out l.at l.out
