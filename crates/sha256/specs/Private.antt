-- The form of the code, which is no part of the standard: the schedule as a window of sixteen words, renewed one by
-- one. Assumes nothing.
use Rattle.std.specs.Prelude.{ℕ, zero, suc, ◌+◌, ◌%◌, List, get_or, take, drop, set}
use Rattle.sha256_words.specs.Words.{add32, ssig0, ssig1}
use Rattle.sha256.specs.Sha256.{round}

-- the sixteen words of w from word t on
abbrev pub window : List ℕ → ℕ → List ℕ
window w t = take 16 (drop t w)

unfoldable pub mixed : ℕ → ℕ → ℕ → ℕ → ℕ
mixed a b c d = add32 (add32 (add32 (ssig1 a) b) (ssig0 c)) d

-- the window as a ring: word i made the word sixteen on; and so the first n words
unfoldable pub slid : List ℕ → ℕ → List ℕ
slid w i = set w i (mixed (get_or w ((i + 14) % 16) 0) (get_or w ((i + 9) % 16) 0) (get_or w ((i + 1) % 16) 0) (get_or w i 0))

unfoldable pub slides : ℕ → List ℕ → List ℕ
slides zero w = w
slides (suc n) w = slid (slides n w) n

-- n rounds on a window, from round t on, with the constants k
unfoldable pub rounds_on : List ℕ → List ℕ → List ℕ → ℕ → ℕ → List ℕ
rounds_on v w k t zero = v
rounds_on v w k t (suc n) = round (rounds_on v w k t n) (get_or k (t + n) 0) (get_or w n 0)
