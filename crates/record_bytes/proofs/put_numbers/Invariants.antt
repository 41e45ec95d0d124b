-- `record_bytes::put_numbers` meets its contract.
use Rattle.std.proofs.Common.{◌≡◌, ◌+◌, ◌*◌, ◌++◌, take}
use Rattle.record_bytes.specs.Bytes.{numbers_bytes}
use Rattle.record_bytes.proofs.put_numbers.Given as goal

abbrev pub invariant-loop-k : goal.invariant-loop-k
invariant-loop-k l = take (l.i + 4 * l.k) l.b ≡ take l.i l.initial.b ++ numbers_bytes (take l.k l.numbers)
