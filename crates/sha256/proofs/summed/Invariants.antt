-- `sha256::summed` meets its contract.
use Rattle.std.proofs.Common.{◌≡◌, ℕ, ◌<◌, ◌≤◌, get_or}
use Rattle.sha256_words.specs.Words.{add32}
use Rattle.sha256.proofs.summed.Given as goal

abbrev pub invariant-loop-i : goal.invariant-loop-i
invariant-loop-i l = ((k : ℕ) → k < l.i → get_or l.word-items k 0 ≡ add32 (get_or l.initial.word-items k 0) (get_or l.v k 0))
    × ((k : ℕ) → l.i ≤ k → get_or l.word-items k 0 ≡ get_or l.initial.word-items k 0)
