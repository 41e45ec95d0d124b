-- `number_text::decimal::put_numbers` meets its contract.
use Rattle.std.proofs.Common.{take}
use Rattle.buffers.specs.Private.{Wrote}
use Rattle.number_text.specs.Numbers.{comma_numbers}
use Rattle.number_text.proofs.decimal.put_numbers.Given as goal

abbrev pub invariant-loop-x : goal.invariant-loop-x
invariant-loop-x l = Wrote l.at (comma_numbers (take l.x-index l.numbers)) l.initial.out l.next l.out
