-- The loops over the blocks of a slice and the words of a hash value.
-- Assumes nothing.
use Rattle.std.proofs.Common.{◌≡◌, ℕ, ◌<◌, List, length, get_or}
use Rattle.std.proofs.lemmas.List.FromFn.{fill_by_all}
use Rattle.sha256_words.specs.Words.{add32}
use Rattle.sha256.specs.Sha256.{summed}

pub summed_of : (h v r : List ℕ) → length r ≡ 8 → ((k : ℕ) → k < 8 → get_or r k 0 ≡ add32 (get_or h k 0) (get_or v k 0)) → r ≡ summed h v
unfolding summed
summed_of h v r e each = fill_by_all (λ k. add32 (get_or h k 0) (get_or v k 0)) r 8 0 e each
