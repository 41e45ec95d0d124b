-- A block made ready for several hash values. Definitions only.
use Rattle.std.specs.Prelude.{ℕ, ◌<◌, ◌≡◌, List, [], length, get_or}
use Rattle.sha256_words.specs.Words.{add32, k_table}
use Rattle.sha256.specs.Sha256.{schedule, summed}
use Rattle.sha256.specs.Private.{rounds_on}

-- w is the block m, prepared: the words of its schedule, each with the constant of its round added
pub record Prepared (m w : List ℕ) : Type 0 where
  pub size : length w ≡ 64
  pub each : (i : ℕ) → i < 64 → get_or w i 0 ≡ add32 (get_or k_table i 0) (get_or (schedule m 64) i 0)

-- the hash value after h, by the prepared block w: it stands for the constants, and the rounds' words are 0
unfoldable pub worked : List ℕ → List ℕ → List ℕ
worked h w = summed h (rounds_on h [] w 0 64)
