-- Values compared with the book. Definitions only; private contracts cite them. The law `compared_day_lem` (checking)
-- leads them back to 01's outcomes.
use Rattle.std.specs.Prelude.{cond, List, [], ◌∷◌, ℕ, take, drop}
use Rattle.lists.specs.Lists.{same}
use Rattle.sha256_words.specs.Words.{bytes_of}
use Rattle.chains.specs.declared.Value.{Value}

-- the outcome of a value against the first 32 bytes of a book, and of some values against its front
abbrev pub outcome_of : Value → List ℕ → ℕ
outcome_of v book = cond (same (take 32 book) (bytes_of v.words)) 1 0

unfoldable pub compared : List Value → List ℕ → List ℕ
compared [] book = []
compared (v ∷ vs) book = outcome_of v book ∷ compared vs (drop 32 book)
