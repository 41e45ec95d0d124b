-- Words in sixteen lanes, and the compression of every lane's hash value by its block. Definitions only.
use Rattle.std.specs.Prelude.{ℕ, List, map, get_or}
use Rattle.lists.specs.Lists.{up_from}
use Rattle.sha256.specs.Sha256.{compress}

-- the words stand in rows of sixteen, a word of each lane: lane j has word j of each row
abbrev pub word_of : ℕ → List ℕ → ℕ
word_of j row = get_or row j 0

unfoldable pub lane : List (List ℕ) → ℕ → List ℕ
lane rows j = map (word_of j) rows

-- the n rows whose lane j is f j: in row i stands word i of each lane
abbrev pub row_of : (ℕ → List ℕ) → ℕ → List ℕ
row_of f i = map (λ j. get_or (f j) i 0) (up_from 0 16)

unfoldable pub rows : ℕ → (ℕ → List ℕ) → List (List ℕ)
rows n f = map (row_of f) (up_from 0 n)

-- the hash values after those of the lanes of s, by the blocks whose words are the lanes of m: in each lane the
-- standard's compression
abbrev pub lane_after : List (List ℕ) → List (List ℕ) → ℕ → List ℕ
lane_after s m j = compress (lane s j) (lane m j)

unfoldable pub compressed : List (List ℕ) → List (List ℕ) → List (List ℕ)
compressed s m = rows 8 (lane_after s m)

-- and by one block for all lanes, whose words are m
abbrev pub lane_after_same : List (List ℕ) → List ℕ → ℕ → List ℕ
lane_after_same s m j = compress (lane s j) m

unfoldable pub compressed_same : List (List ℕ) → List ℕ → List (List ℕ)
compressed_same s m = rows 8 (lane_after_same s m)
