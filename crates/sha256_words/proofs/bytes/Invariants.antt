-- `sha256_words::bytes` meets its contract.
use Rattle.std.proofs.Common.{◌≡◌, ◌*◌, ◌++◌, drop, take}
use Rattle.sha256_words.specs.Words.{bytes_of}
use Rattle.sha256_words.proofs.bytes.Given as goal

abbrev pub invariant-loop-i : goal.invariant-loop-i
invariant-loop-i l = l.r ≡ bytes_of (take l.i l.word-items) ++ drop (4 * l.i) l.initial.r
