-- The form of the code of a link. Definitions only.
use Rattle.std.specs.Prelude.{List, [], ◌∷◌, ℕ, ◌+◌, ◌*◌, ◌/◌, ◌%◌, ◌^◌, get_or}
use Rattle.sha256_words.specs.Words.{initial}
use Rattle.sha256.specs.Sha256.{compress}
use Rattle.lanes.specs.Lanes.{lane}

-- ---- the two blocks of a link, made of the words that are hashed

-- the word of the last byte of the word a and the first three bytes of the word b
unfoldable pub across : ℕ → ℕ → ℕ
across a b = a % 256 * 2 ^ 24 + b / 2 ^ 24 % 256 * 2 ^ 16 + b / 2 ^ 16 % 256 * 2 ^ 8 + b / 2 ^ 8 % 256

-- the words of the two blocks of the byte 1, the bytes of the words v and those of the words h: 65 bytes, so that the
-- second block has the last byte and the padding
unfoldable pub front : List ℕ → List ℕ → List ℕ
front v h =
    across 1 (get_or v 0 0)
    ∷ across (get_or v 0 0) (get_or v 1 0)
    ∷ across (get_or v 1 0) (get_or v 2 0)
    ∷ across (get_or v 2 0) (get_or v 3 0)
    ∷ across (get_or v 3 0) (get_or v 4 0)
    ∷ across (get_or v 4 0) (get_or v 5 0)
    ∷ across (get_or v 5 0) (get_or v 6 0)
    ∷ across (get_or v 6 0) (get_or v 7 0)
    ∷ across (get_or v 7 0) (get_or h 0 0)
    ∷ across (get_or h 0 0) (get_or h 1 0)
    ∷ across (get_or h 1 0) (get_or h 2 0)
    ∷ across (get_or h 2 0) (get_or h 3 0)
    ∷ across (get_or h 3 0) (get_or h 4 0)
    ∷ across (get_or h 4 0) (get_or h 5 0)
    ∷ across (get_or h 5 0) (get_or h 6 0)
    ∷ across (get_or h 6 0) (get_or h 7 0) ∷ []

unfoldable pub back : List ℕ → List ℕ
back h = across (get_or h 7 0) 0x80000000 ∷ 0 ∷ 0 ∷ 0 ∷ 0 ∷ 0 ∷ 0 ∷ 0 ∷ 0 ∷ 0 ∷ 0 ∷ 0 ∷ 0 ∷ 0 ∷ 0 ∷ 520 ∷ []

-- the link in lane j, whose first block is lane j of m
abbrev pub link_of : List (List ℕ) → List ℕ → ℕ → List ℕ
link_of m h j = compress (compress initial (lane m j)) (back h)
