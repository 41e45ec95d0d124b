-- Laws of SHA-256: the successive blocks of a list, and the sizes of hash values and digests.
-- Assumes nothing.
use Prim.Native.Nat.{ℕ, zero, suc, ◌+◌, ◌-◌, ◌*◌, ◌/◌, ◌%◌, ◌≤◌, ◌<◌}
use mathlib.Core.{Path.◌≡◌, Path.refl, Path.ap, Path.ap₂, Path.◌∙◌, List.List, List.◌++◌}
use native.Mathlib.{Omega.arith, Nat.suc-mul, Nat.zero-add, Nat.suc-add}
use lib.ListN.{length, take, drop, replicate, length-append, length-drop, length-replicate}
use lib.Seq.{take-append-le, drop-append-le, drop-drop, take_all, take_at, drop_at}
use Rattle.sha256_words.specs.Words.{initial, words}
use Rattle.sha256_words.proofs.Laws.{length_initial, length_bytes}
use Rattle.sha256.specs.Sha256.{summed, compress, chunks, blocks, wide, padding, hashed, hashed_blocks, sha256}

-- ---- blocks

drop_more : (n : ℕ) (l : List ℕ) → drop (n * 64) (drop 64 l) ≡ drop (suc n * 64) l
drop_more n l = let e : suc n * 64 ≡ 64 + n * 64 = omega (arith, suc-mul n 64) in rw e (drop-drop (n * 64) 64 l)

-- what stands after the blocks is not read
pub chunks_append : (n : ℕ) (h l r : List ℕ) → n * 64 ≤ length l → chunks n h (l ++ r) ≡ chunks n h l
unfolding chunks
chunks_append zero h l r p = refl
chunks_append (suc n) h l r p =
    let p64 : 64 ≤ length l = omega (arith, suc-mul n 64) in
    rw (take-append-le 64 l r p64, drop-append-le 64 l r p64)
    (chunks_append n (compress h (words (take 64 l))) (drop 64 l) r (rw length-drop (omega (arith, suc-mul n 64))))

pub chunks_add : (n m : ℕ) (h l : List ℕ) → chunks (n + m) h l ≡ chunks m (chunks n h l) (drop (n * 64) l)
unfolding chunks
chunks_add zero m h l = rw zero-add
chunks_add (suc n) m h l =
    rw suc-add
    (chunks_add n m (compress h (words (take 64 l))) (drop 64 l)
    ∙ ap (λ (k : List ℕ). chunks m (chunks n (compress h (words (take 64 l))) (drop 64 l)) k) (drop_more n l))

-- fewer than 64 bytes have no whole block
pub blocks_short : (h l : List ℕ) → length l < 64 → blocks h l ≡ h
unfolding blocks chunks
blocks_short h l p = let e : length l / 64 ≡ 0 = omega arith in rw e

-- 64 bytes are one
pub blocks_one : (h x : List ℕ) → length x ≡ 64 → blocks h x ≡ compress h (words x)
unfolding blocks chunks
blocks_one h x p = let e : length x / 64 ≡ 1 = omega arith in rw (e, take_all 64 x (omega arith))

-- a block, and what stands after it
pub blocks_cons : (h x y : List ℕ) → length x ≡ 64 → blocks h (x ++ y) ≡ blocks (compress h (words x)) y
unfolding blocks chunks
blocks_cons h x y p =
    let e : length (x ++ y) / 64 ≡ suc (length y / 64) = rw length-append (omega arith) in
    ap (λ (k : ℕ). chunks k h (x ++ y)) e
    ∙ ap₂ (λ (a b : List ℕ). chunks (length y / 64) (compress h (words a)) b) (take_at x y 64 p) (drop_at x y 64 p)

-- ---- sizes

pub length_compress : (h m : List ℕ) → length (compress h m) ≡ 8
unfolding compress summed
length_compress h m = refl

pub length_chunks : (n : ℕ) (h l : List ℕ) → length h ≡ 8 → length (chunks n h l) ≡ 8
unfolding chunks
length_chunks zero h l e = e
length_chunks (suc n) h l e = length_chunks n (compress h (words (take 64 l))) (drop 64 l) (length_compress h (words (take 64 l)))

pub length_blocks : (h l : List ℕ) → length h ≡ 8 → length (blocks h l) ≡ 8
unfolding blocks
length_blocks h l e = length_chunks (length l / 64) h l e

pub length_hashed : (m : List ℕ) → length (hashed m) ≡ 8
unfolding hashed
length_hashed m = length_blocks initial (m ++ padding (length m)) length_initial

-- a digest is 32 bytes
pub sha256_length : (m : List ℕ) → length (sha256 m) ≡ 32
unfolding sha256
sha256_length m = omega (arith, length_bytes (hashed m), length_hashed m)

-- ---- blocks compressed

pub length_padding : (n : ℕ) → length (padding n) ≡ 9 + (119 - n % 64) % 64
unfolding padding wide
length_padding n =
    let z : ℕ = (119 - n % 64) % 64 in
    omega (arith, length-append (replicate z 0) (wide (8 * n)), length-replicate {A = ℕ} z 0)

pub hashed_blocks_lem : (m : List ℕ) → hashed_blocks m ≡ (length m + 8) / 64 + 1
unfolding hashed_blocks
hashed_blocks_lem m = omega (arith, length-append m (padding (length m)), length_padding (length m))
