-- `table_text::input::outcomes` meets its contract.
use Rattle.std.proofs.Common.{◌≡◌, ◌++◌, map, take, drop}
use Rattle.number_text.specs.Numbers.{digit_of}
use Rattle.table_text.proofs.input.outcomes.Given as goal

abbrev pub invariant-loop-i : goal.invariant-loop-i
invariant-loop-i l = l.to ≡ map digit_of (take l.i l.ds) ++ drop l.i l.initial.to
