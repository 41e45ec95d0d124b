-- 01's values at SHA-256: the start of a chain, the book over the sealed days, the inputs hashed. Definitions only.
use Rattle.std.specs.Prelude.{List, [], ◌∷◌, ℕ, length}
use Rattle.evidence.specs.Evidence.{values, inputs}
use Rattle.layouts.specs.Layouts.{lg, chains}
use Rattle.sha256.specs.Sha256.{sha256}

-- 02's start of a chain (SPEC 3.4): SHA-256 of three bytes, 02 hex, the scheme, lg N
unfoldable pub start_input : ℕ → ℕ → List ℕ
start_input scheme n = 2 ∷ scheme ∷ lg n ∷ []

unfoldable pub start : ℕ → ℕ → List ℕ
start scheme n = sha256 (start_input scheme n)

-- 01's book (SPEC 4.13): the values over the entries, in book order, end to end
unfoldable pub book_of : ℕ → ℕ → List (List ℕ) → List ℕ
book_of scheme n entries = values sha256 (start scheme n) entries (chains scheme n (length entries))

-- 01's inputs hashed (SPEC 3.7), at sealing or at checking, for the layout's chains over the days 1 to d; 02: the
-- start's three bytes are one of them
unfoldable pub inputs_of : ℕ → ℕ → ℕ → List (List ℕ) → List (List ℕ)
inputs_of scheme n d days = start_input scheme n ∷ inputs sha256 (start scheme n) (chains scheme n d) d days
