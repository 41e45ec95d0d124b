-- Laws of a message that comes in pieces: any cutting gives the digest of the whole.
-- Assumes nothing.
use Prim.Native.Nat.{ℕ, ◌+◌, ◌-◌, ◌*◌, ◌/◌, ◌%◌, ◌<◌}
use mathlib.Core.Path.{◌≡◌, refl, sym, ap, ap₂, ◌∙◌}
use mathlib.Core.List.{List, [], ◌∷◌, ◌++◌, append_assoc, append-nil}
use native.Mathlib.Omega.{arith}
use lib.ListN.{length, take, drop, replicate, length-append, length-drop, drop_of_length-le}
use lib.Seq.{drop-append-le, drop-drop, take_at, length-take-le}
use Rattle.sha256_words.specs.Words.{initial}
use Rattle.sha256.specs.Sha256.{chunks, blocks, padding, hashed}
use Rattle.sha256.proofs.Laws.{chunks_append, chunks_add, length_blocks, length_padding}
use Rattle.hasher.specs.declared.Hasher.{Hasher}
use Rattle.hasher.specs.Statements.{AnyCutting}
use Rattle.hasher.specs.Hasher.{rest, filled, onward, begun, absorbed, absorbed_blocks, finished, finished_blocks, absorbed_all}
use Rattle.lists.specs.Lists.{joined}

-- ---- the bytes after the last whole block

pub length_rest : (l : List ℕ) → length (rest l) ≡ length l % 64
unfolding rest
length_rest l = rw length-drop (omega arith)

-- the whole blocks of m, then those of what is left of m and y
count : (m y : List ℕ) → length (m ++ y) / 64 ≡ length m / 64 + length (rest m ++ y) / 64
count m y = rw (length-append, length-append, length_rest) (omega arith)

pub blocks_rest : (h m y : List ℕ) → blocks (blocks h m) (rest m ++ y) ≡ blocks h (m ++ y)
unfolding blocks rest
blocks_rest h m y = sym
    (ap (λ (k : ℕ). chunks k h (m ++ y)) (count m y)
    ∙ chunks_add (length m / 64) (length (rest m ++ y) / 64) h (m ++ y)
    ∙ ap₂ (λ (a b : List ℕ). chunks (length (rest m ++ y) / 64) a b) (chunks_append (length m / 64) h m y (omega arith)) (drop-append-le (length m / 64 * 64) m y (omega arith)))

pub rest_rest : (m y : List ℕ) → rest (rest m ++ y) ≡ rest (m ++ y)
unfolding rest
rest_rest m y =
    let e : length (m ++ y) / 64 * 64 ≡ length m / 64 * 64 + length (rest m ++ y) / 64 * 64 = omega (arith, count m y) in
    sym
    (ap (λ (k : ℕ). drop k (m ++ y)) e
    ∙ sym (drop-drop (length (rest m ++ y) / 64 * 64) (length m / 64 * 64) (m ++ y))
    ∙ ap (λ (k : List ℕ). drop (length (rest m ++ y) / 64 * 64) k) (drop-append-le (length m / 64 * 64) m y (omega arith)))

-- fewer than 64 bytes have no whole block
pub rest_short : (l : List ℕ) → length l < 64 → rest l ≡ l
unfolding rest
rest_short l p = let e : length l / 64 ≡ 0 = omega arith in rw e

-- 64 bytes are one
rest_one : (x : List ℕ) → length x ≡ 64 → rest x ≡ []
unfolding rest
rest_one x p = let e : length x / 64 * 64 ≡ 64 = omega arith in rw e (drop_of_length-le x {i = 64} (omega arith))

pub rest_cons : (x y : List ℕ) → length x ≡ 64 → rest (x ++ y) ≡ rest y
rest_cons x y p = sym (rest_rest x y) ∙ ap (λ (b : List ℕ). rest (b ++ y)) (rest_one x p)

-- ---- blocks that are filled up

pub take_filled : (l : List ℕ) (n : ℕ) → n ≡ length l → take n (filled l) ≡ l
unfolding filled
take_filled l n e = take_at l (replicate (64 - length l) 0) n (sym e)

-- ---- pieces

kept : (m : List ℕ) (n : ℕ) → n % 64 ≡ length m % 64 → take (n % 64) (filled (rest m)) ≡ rest m
kept m n e = take_filled (rest m) (n % 64) (e ∙ sym (length_rest m))

onward_rest : (h m y : List ℕ) → onward (blocks h m) (rest m ++ y) ≡ onward h (m ++ y)
unfolding onward
onward_rest h m y = rw (blocks_rest h m y, rest_rest m y)

-- a piece more is a longer message
pub absorbed_begun : (m y : List ℕ) (n : ℕ) → n % 64 ≡ length m % 64 → absorbed (begun m) n y ≡ begun (m ++ y)
unfolding absorbed begun onward
absorbed_begun m y n e = ap (λ (l : List ℕ). onward (blocks initial m) (l ++ y)) (kept m n e) ∙ onward_rest initial m y

-- the end gives the hash value
pub finished_begun : (m : List ℕ) → finished (begun m) (length m) ≡ hashed m
unfolding finished begun onward hashed
finished_begun m =
    ap (λ (l : List ℕ). blocks (blocks initial m) (l ++ padding (length m))) (kept m (length m) refl)
    ∙ blocks_rest initial m (padding (length m))

pub absorbed_all_begun : (m : List ℕ) (ps : List (List ℕ)) → absorbed_all (begun m) (length m) ps ≡ begun (m ++ joined ps)
unfolding absorbed_all joined
absorbed_all_begun m [] = ap begun (sym (append-nil m))
absorbed_all_begun m (p ∷ ps) =
    ap₂ (λ (st : Hasher) (n : ℕ). absorbed_all st n ps) (absorbed_begun m p (length m) refl) (sym (length-append m p))
    ∙ absorbed_all_begun (m ++ p) ps ∙ ap begun (append_assoc m p (joined ps))

-- any cutting of a message, after a beginning m, gives the hash value of the whole
pub pieces_hashed : (m : List ℕ) (ps : List (List ℕ))
    → finished (absorbed_all (begun m) (length m) ps) (length m + length (joined ps)) ≡ hashed (m ++ joined ps)
pieces_hashed m ps =
    ap₂ finished (absorbed_all_begun m ps) (sym (length-append m (joined ps))) ∙ finished_begun (m ++ joined ps)

-- ---- blocks compressed

held_length : (st : Hasher) (n : ℕ) → length st.block ≡ 64 → length (take (n % 64) st.block) ≡ n % 64
held_length st n e = length-take-le (n % 64) st.block (omega arith)

pub absorbed_blocks_lem : (st : Hasher) (n : ℕ) (y : List ℕ) → length st.block ≡ 64 → absorbed_blocks st n y ≡ (n % 64 + length y) / 64
unfolding absorbed_blocks
absorbed_blocks_lem st n y e = rw (length-append, held_length st n e)

pub finished_blocks_lem : (st : Hasher) (n : ℕ) → length st.block ≡ 64 → finished_blocks st n ≡ (n % 64 + 8) / 64 + 1
unfolding finished_blocks
finished_blocks_lem st n e = rw (length-append, held_length st n e, length_padding n) (omega arith)

pub finished_length : (st : Hasher) (n : ℕ) → length st.words ≡ 8 → length (finished st n) ≡ 8
unfolding finished
finished_length st n e = length_blocks st.words (take (n % 64) st.block ++ padding n) e

-- ---- as stated

pub any_cutting : AnyCutting
any_cutting = pieces_hashed
