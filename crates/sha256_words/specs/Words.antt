-- SHA-256's words, as FIPS 180-4 defines them (SPEC 3.1). A byte is a number below 2 ^ 8 and a word one below 2 ^ 32.
-- Assumes nothing.
use Rattle.std.specs.Prelude.{ℕ, ◌+◌, ◌-◌, ◌*◌, ◌/◌, ◌%◌, ◌^◌, List, [], ◌∷◌, bit_and, bit_or, bit_xor, slice_index}

-- ---- section 3.2: operations on words

-- 01's addition on words (SPEC 3.1): the sum modulo 2 ^ 32, the carry dropped
unfoldable pub add32 : ℕ → ℕ → ℕ
add32 x y = (x + y) % 2 ^ 32

abbrev pub shr : ℕ → ℕ → ℕ
shr n x = x / 2 ^ n

abbrev pub rotr : ℕ → ℕ → ℕ
rotr n x = bit_or (x / 2 ^ n) ((x * 2 ^ (32 - n)) % 2 ^ 32)

-- the complement
abbrev pub inv : ℕ → ℕ
inv x = (2 ^ 32 - 1) - x

-- ---- section 4.1.2: functions

unfoldable pub ch : ℕ → ℕ → ℕ → ℕ
ch x y z = bit_xor (bit_and x y) (bit_and (inv x) z)

unfoldable pub maj : ℕ → ℕ → ℕ → ℕ
maj x y z = bit_xor (bit_xor (bit_and x y) (bit_and x z)) (bit_and y z)

unfoldable pub bsig0 : ℕ → ℕ
bsig0 x = bit_xor (bit_xor (rotr 2 x) (rotr 13 x)) (rotr 22 x)

unfoldable pub bsig1 : ℕ → ℕ
bsig1 x = bit_xor (bit_xor (rotr 6 x) (rotr 11 x)) (rotr 25 x)

unfoldable pub ssig0 : ℕ → ℕ
ssig0 x = bit_xor (bit_xor (rotr 7 x) (rotr 18 x)) (shr 3 x)

unfoldable pub ssig1 : ℕ → ℕ
ssig1 x = bit_xor (bit_xor (rotr 17 x) (rotr 19 x)) (shr 10 x)

-- ---- section 4.2.2: constants

unfoldable pub k_table : List ℕ
k_table =
    0x428a2f98 ∷ 0x71374491 ∷ 0xb5c0fbcf ∷ 0xe9b5dba5 ∷ 0x3956c25b ∷ 0x59f111f1 ∷ 0x923f82a4 ∷ 0xab1c5ed5
    ∷ 0xd807aa98 ∷ 0x12835b01 ∷ 0x243185be ∷ 0x550c7dc3 ∷ 0x72be5d74 ∷ 0x80deb1fe ∷ 0x9bdc06a7 ∷ 0xc19bf174
    ∷ 0xe49b69c1 ∷ 0xefbe4786 ∷ 0x0fc19dc6 ∷ 0x240ca1cc ∷ 0x2de92c6f ∷ 0x4a7484aa ∷ 0x5cb0a9dc ∷ 0x76f988da
    ∷ 0x983e5152 ∷ 0xa831c66d ∷ 0xb00327c8 ∷ 0xbf597fc7 ∷ 0xc6e00bf3 ∷ 0xd5a79147 ∷ 0x06ca6351 ∷ 0x14292967
    ∷ 0x27b70a85 ∷ 0x2e1b2138 ∷ 0x4d2c6dfc ∷ 0x53380d13 ∷ 0x650a7354 ∷ 0x766a0abb ∷ 0x81c2c92e ∷ 0x92722c85
    ∷ 0xa2bfe8a1 ∷ 0xa81a664b ∷ 0xc24b8b70 ∷ 0xc76c51a3 ∷ 0xd192e819 ∷ 0xd6990624 ∷ 0xf40e3585 ∷ 0x106aa070
    ∷ 0x19a4c116 ∷ 0x1e376c08 ∷ 0x2748774c ∷ 0x34b0bcb5 ∷ 0x391c0cb3 ∷ 0x4ed8aa4a ∷ 0x5b9cca4f ∷ 0x682e6ff3
    ∷ 0x748f82ee ∷ 0x78a5636f ∷ 0x84c87814 ∷ 0x8cc70208 ∷ 0x90befffa ∷ 0xa4506ceb ∷ 0xbef9a3f7 ∷ 0xc67178f2 ∷ []

-- ---- section 5.3.3: the first hash value

unfoldable pub initial : List ℕ
initial =
    0x6a09e667 ∷ 0xbb67ae85 ∷ 0x3c6ef372 ∷ 0xa54ff53a ∷ 0x510e527f ∷ 0x9b05688c ∷ 0x1f83d9ab ∷ 0x5be0cd19 ∷ []

-- ---- section 5.2.1: a block of 64 bytes as sixteen words

-- the word of the four bytes from i on, the first byte highest
unfoldable pub word_at : List ℕ → ℕ → ℕ
word_at b i = slice_index b i * 2 ^ 24 + slice_index b (i + 1) * 2 ^ 16 + slice_index b (i + 2) * 2 ^ 8 + slice_index b (i + 3)

unfoldable pub words : List ℕ → List ℕ
words b =
    word_at b 0 ∷ word_at b 4 ∷ word_at b 8 ∷ word_at b 12 ∷ word_at b 16 ∷ word_at b 20 ∷ word_at b 24 ∷ word_at b 28
    ∷ word_at b 32 ∷ word_at b 36 ∷ word_at b 40 ∷ word_at b 44 ∷ word_at b 48 ∷ word_at b 52 ∷ word_at b 56 ∷ word_at b 60 ∷ []

-- ---- section 6.2: words as bytes, the highest of each first

unfoldable pub bytes_of : List ℕ → List ℕ
bytes_of [] = []
bytes_of (x ∷ xs) = x / 2 ^ 24 % 256 ∷ x / 2 ^ 16 % 256 ∷ x / 2 ^ 8 % 256 ∷ x % 256 ∷ bytes_of xs
