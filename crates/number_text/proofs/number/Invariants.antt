-- `number_text::number` meets its contract.
use Rattle.std.proofs.Common.{◌≡◌, ◌+◌, ◌≤◌, take}
use Rattle.number_text.specs.Numbers.{number_from}
use Rattle.number_text.proofs.FieldLaws.{most}
use Rattle.number_text.proofs.number.Given as goal

abbrev pub invariant-loop-b : goal.invariant-loop-b
invariant-loop-b l = (l.v + 29 ≤ most l.b-index) × (l.v ≡ number_from 0 (take l.b-index l.ds))
