-- The definition computes the standard's first example.
-- Assumes nothing.
use mathlib.Core.{Path.◌≡◌, Path.refl, List.[], List.◌∷◌}
use Rattle.sha256_words.specs.Words.{add32, ch, maj, bsig0, bsig1, ssig0, ssig1, k_table, initial, word_at, words, bytes_of}
use Rattle.sha256.specs.Sha256.{later, scheduled, grown, schedule, t1, t2, turned, round, rounds, summed, compress, chunks, blocks, wide, padding, hashed, sha256}

-- the digest of "abc"
pub abc : sha256 (0x61 ∷ 0x62 ∷ 0x63 ∷ []) ≡ 0xba ∷ 0x78 ∷ 0x16 ∷ 0xbf ∷ 0x8f ∷ 0x01 ∷ 0xcf ∷ 0xea ∷ 0x41 ∷ 0x41 ∷ 0x40 ∷ 0xde ∷ 0x5d ∷ 0xae ∷ 0x22 ∷ 0x23 ∷ 0xb0 ∷ 0x03 ∷ 0x61 ∷ 0xa3 ∷ 0x96 ∷ 0x17
    ∷ 0x7a ∷ 0x9c ∷ 0xb4 ∷ 0x10 ∷ 0xff ∷ 0x61 ∷ 0xf2 ∷ 0x00 ∷ 0x15 ∷ 0xad ∷ []
unfolding add32 ch maj bsig0 bsig1 ssig0 ssig1 k_table initial word_at words later scheduled grown schedule t1 t2 turned round rounds summed compress chunks blocks wide padding hashed bytes_of sha256
abc = refl
