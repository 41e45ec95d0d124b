-- SHA-256 of a message that comes in pieces (SPEC 3.2). A hasher holds the hash value of the message's whole blocks,
-- and a block that starts with the bytes since. How many bytes came is not in it: each definition that needs the
-- number, n, takes it. Assumes nothing.
use Rattle.std.specs.Prelude.{ℕ, ◌+◌, ◌-◌, ◌*◌, ◌/◌, ◌%◌, List, [], ◌∷◌, ◌++◌, length, take, drop, replicate}
use Rattle.sha256_words.specs.Words.{initial}
use Rattle.sha256.specs.Sha256.{whole_blocks, blocks, padding}
use Rattle.hasher.specs.declared.Hasher.{Hasher}

-- the bytes after the last whole block
unfoldable pub rest : List ℕ → List ℕ
rest l = drop (length l / 64 * 64) l

-- a block of given bytes, then zeros
unfoldable pub filled : List ℕ → List ℕ
filled l = l ++ replicate (64 - length l) 0

-- what the bytes l leave, after the hash value h
unfoldable pub onward : List ℕ → List ℕ → Hasher
onward h l = record { words = blocks h l; block = filled (rest l) }

-- after the message m
unfoldable pub begun : List ℕ → Hasher
begun m = onward initial m

-- the bytes since the last whole block, after n bytes
abbrev pub held : Hasher → ℕ → List ℕ
held st n = take (n % 64) st.block

-- the bytes y more, after n bytes: a block that they fill is compressed (SPEC 3.2)
unfoldable pub absorbed : Hasher → ℕ → List ℕ → Hasher
absorbed st n y = onward st.words (held st n ++ y)

unfoldable pub absorbed_blocks : Hasher → ℕ → List ℕ → ℕ  -- the blocks that it compresses
absorbed_blocks st n y = whole_blocks (held st n ++ y)

-- the hash value of the whole message, of n bytes
unfoldable pub finished : Hasher → ℕ → List ℕ
finished st n = blocks st.words (held st n ++ padding n)

unfoldable pub finished_blocks : Hasher → ℕ → ℕ  -- the blocks that it compresses
finished_blocks st n = whole_blocks (held st n ++ padding n)

-- the pieces ps more, one after the other, after n bytes
unfoldable pub absorbed_all : Hasher → ℕ → List (List ℕ) → Hasher
absorbed_all st n [] = st
absorbed_all st n (p ∷ ps) = absorbed_all (absorbed st n p) (n + length p) ps
