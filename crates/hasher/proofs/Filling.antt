-- A block that is filled with bytes, and the last eight bytes of a block.
-- Assumes nothing.
use Rattle.std.proofs.Common.{◌≡◌, ℕ, suc, ◌+◌, ◌-◌, ◌*◌, ◌/◌, ◌%◌, ◌^◌, ◌<◌, ◌≤◌, List, [], ◌∷◌, ◌++◌, append_assoc}
use Rattle.std.proofs.Common.{append-nil, length, take, drop, set, replicate, length-append, take_at, drop_at}
use Rattle.std.proofs.Common.{drop_of_length-le, arith, refl, sym}
use Rattle.std.proofs.Math.Seq.{drop-drop, set_at}
use Rattle.std.proofs.lemmas.List.{drop-replicate}
use Rattle.std.specs.Int.{to_be_bytes, w64}
use borrow.Rule.Slice.PartMut.{put_mid}
use Rattle.sha256.specs.Sha256.{wide}
use Rattle.hasher.specs.Hasher.{filled}

-- ---- a block of zeros, written from the left

-- the bytes b and then s, of which the block has room
pub filled_by : (b s x y : List ℕ) → length b + length s ≤ 64 → x ≡ b → y ≡ s
    → put_mid (length b) (length b + length s - length b) (x ++ drop (length b) (replicate 64 0)) y ≡ filled (b ++ s)
unfolding filled
filled_by b s x y room ex ey =
    let at = length b in
    let many : at + length s - at ≡ length s = omega arith in
    let left : 64 - at - length s ≡ 64 - length (b ++ s) = omega (arith, length-append b s) in
    rw (ex, ey, take_at b (drop at (replicate 64 0)) at refl, drop_at b (drop at (replicate 64 0)) at refl, many, drop-replicate {X = ℕ} at 64 0, drop-replicate {X = ℕ} (length s) (64 - at) 0, left)
    (sym (append_assoc b s (replicate (64 - length (b ++ s)) 0)))

-- the byte p, the bytes s and the mark, put into a block of zeros one after the other
pub marked_by : (p : ℕ) (s y : List ℕ) → y ≡ s → length s < 55 → set (p ∷ (y ++ drop (1 + length s - 1) (replicate 63 0))) (1 + length s) 0x80 ≡ filled ((p ∷ s) ++ 0x80 ∷ [])
unfolding filled
marked_by p s y ey l =
    let many : 1 + length s - 1 ≡ length s = omega arith in
    let end : 1 + length s ≡ suc (length s) = omega arith in
    let zeros : 63 - length s ≡ suc (62 - length s) = omega arith in
    let left : 62 - length s ≡ 64 - length ((p ∷ s) ++ 0x80 ∷ []) = omega (arith, length-append (p ∷ s) (0x80 ∷ [])) in
    rw (ey, many, drop-replicate {X = ℕ} (length s) 63 0, zeros, end, set_at (p ∷ s) 0 (replicate (62 - length s) 0) 0x80 (suc (length s)) refl, left)
    (sym (append_assoc (p ∷ s) (0x80 ∷ []) (replicate (64 - length ((p ∷ s) ++ 0x80 ∷ [])) 0)))

-- ---- the last eight bytes of a block

last_wide : (n : ℕ) → to_be_bytes w64 (n * 8 % 2 ^ 64) ≡ wide (8 * n)
unfolding wide
last_wide n =
    let x = n * 8 % 2 ^ 64 in
    let e₀ : x / 2 ^ 56 % 256 ≡ 8 * n / 2 ^ 56 % 256 = omega arith in
    let e₁ : x / 2 ^ 48 % 256 ≡ 8 * n / 2 ^ 48 % 256 = omega arith in
    let e₂ : x / 2 ^ 40 % 256 ≡ 8 * n / 2 ^ 40 % 256 = omega arith in
    let e₃ : x / 2 ^ 32 % 256 ≡ 8 * n / 2 ^ 32 % 256 = omega arith in
    let e₄ : x / 2 ^ 24 % 256 ≡ 8 * n / 2 ^ 24 % 256 = omega arith in
    let e₅ : x / 2 ^ 16 % 256 ≡ 8 * n / 2 ^ 16 % 256 = omega arith in
    let e₆ : x / 2 ^ 8 % 256 ≡ 8 * n / 2 ^ 8 % 256 = omega arith in
    let e₇ : x % 256 ≡ 8 * n % 256 = omega arith in
    cc

pub ended_of : (b x : List ℕ) (n : ℕ) → length b ≡ 64 → x ≡ to_be_bytes w64 (n * 8 % 2 ^ 64) → put_mid 56 8 b x ≡ take 56 b ++ wide (8 * n)
ended_of b x n e ex =
    let rest : drop 64 b ≡ [] = drop_of_length-le b {i = 64} (omega arith) in
    rw (drop-drop 8 56 b, rest, append-nil, ex, last_wide)
