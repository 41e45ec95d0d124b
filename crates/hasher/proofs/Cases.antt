-- The cases of a message that comes in pieces, as the code tells them apart.
-- Assumes nothing.
use Prim.Native.Nat.{ℕ, suc, ◌+◌, ◌-◌, ◌*◌, ◌/◌, ◌%◌, ◌≤◌, ◌<◌}
use mathlib.Core.Path.{◌≡◌, refl, sym, ap, ap₂, ◌∙◌}
use mathlib.Core.List.{List, [], ◌∷◌, ◌++◌, append_assoc, append-nil}
use native.Mathlib.Omega.{arith}
use native.Mathlib.Numerals.{add-one}
use lib.ListN.{length, take, drop, replicate, length-append, length-replicate, replicate-append-replicate, take-append-drop}
use lib.Seq.{take_at, length-take-le}
use Rattle.std.proofs.lemmas.Grind.{common_steps}
use Rattle.sha256_words.specs.Words.{initial, words}
use Rattle.sha256.specs.Sha256.{compress, chunks, blocks, wide, padding, hashed}
use Rattle.sha256.proofs.Laws.{blocks_short, blocks_one, blocks_cons}
use Rattle.hasher.specs.declared.Hasher.{Hasher}
use Rattle.hasher.specs.Hasher.{rest, filled, onward, begun, absorbed, finished}
use Rattle.hasher.proofs.Laws.{rest_short, rest_cons, absorbed_begun, finished_begun}

abbrev hasher : List ℕ → List ℕ → Hasher
hasher h b = record { words = h; block = b }

pub onward_of : (h s : List ℕ) → hasher (blocks h s) (filled (drop (length s / 64 * 64) s)) ≡ onward h s
unfolding onward rest
onward_of h s = refl

pub empty_of : hasher initial (replicate 64 0) ≡ begun []
unfolding begun onward blocks chunks rest filled
empty_of = refl

pub begin_of : (p : ℕ) → hasher initial (p ∷ replicate 63 0) ≡ begun (p ∷ [])
unfolding begun onward blocks chunks rest filled
begin_of p = refl

-- ---- the three cases of absorb

pub absorb_none : (st : Hasher) (n : ℕ) (s : List ℕ) → n % 64 ≡ 0 → onward st.words s ≡ absorbed st n s
unfolding absorbed
absorb_none st n s e = rw e

joint : (b s : List ℕ) (n : ℕ) → length b ≡ 64 → n ≤ 64 → length (take n b ++ s) ≡ n + length s
joint b s n eb l = rw (length-append, length-take-le n b (omega arith))

pub absorb_short : (st : Hasher) (s : List ℕ) (n : ℕ) → length st.block ≡ 64 → n % 64 + length s < 64
    → hasher st.words (filled (take (n % 64) st.block ++ s)) ≡ absorbed st n s
unfolding absorbed onward
absorb_short st s n eb l =
    let x : List ℕ = take (n % 64) st.block ++ s in
    let p : length x < 64 = rw (joint st.block s (n % 64) eb (omega arith)) l in
    ap₂ hasher (sym (blocks_short st.words x p)) (ap filled (sym (rest_short x p)))

filled_full : (x : List ℕ) → length x ≡ 64 → filled x ≡ x
unfolding filled
filled_full x e = rw e (append-nil x)

length_filled : (x : List ℕ) → length x ≤ 64 → length (filled x) ≡ 64
unfolding filled
length_filled x l = rw (length-append, length-replicate) (omega arith)

onward_cons : (h x y : List ℕ) → length x ≡ 64 → onward (compress h (words x)) y ≡ onward h (x ++ y)
unfolding onward
onward_cons h x y e = ap₂ hasher (sym (blocks_cons h x y e)) (ap filled (sym (rest_cons x y e)))

pub absorb_long : (st : Hasher) (s : List ℕ) (n : ℕ) → length st.block ≡ 64 → 64 - n % 64 ≤ length s
    → onward (blocks st.words (filled (take (n % 64) st.block ++ take (64 - n % 64) s))) (drop (64 - n % 64) s) ≡ absorbed st n s
unfolding absorbed
absorb_long st s n eb ls =
    let h : List ℕ = st.words in
    let a : List ℕ = take (n % 64) st.block in
    let x : List ℕ = a ++ take (64 - n % 64) s in
    let y : List ℕ = drop (64 - n % 64) s in
    let lx : length x ≡ 64 = joint st.block (take (64 - n % 64) s) (n % 64) eb (omega arith) ∙ rw (length-take-le (64 - n % 64) s ls) (omega arith) in
    let e : x ++ y ≡ a ++ s = append_assoc a (take (64 - n % 64) s) y ∙ ap (λ (l : List ℕ). a ++ l) (take-append-drop (64 - n % 64) s) in
    ap (λ (g : List ℕ). onward g y) (ap (blocks h) (filled_full x lx) ∙ blocks_one h x lx) ∙ onward_cons h x y lx ∙ ap (onward h) e

-- for the proof of `absorb`
pub ruleset absorb_cases = (absorb_none, absorb_short, absorb_long, common_steps)

-- ---- the two cases of finish

-- the first 56 bytes of a block that is filled no further
filled_56 : (p : List ℕ) → length p ≤ 56 → take 56 (filled p) ≡ p ++ replicate (56 - length p) 0
unfolding filled
filled_56 p l =
    let e : replicate {A = ℕ} (64 - length p) 0 ≡ replicate (56 - length p) 0 ++ replicate 8 0 =
    let k : 64 - length p ≡ 56 - length p + 8 = omega arith in rw k (sym (replicate-append-replicate (56 - length p) 8 0)) in
    rw (e, ← append_assoc) (take_at (p ++ replicate (56 - length p) 0) (replicate 8 0) 56 (rw (length-append, length-replicate) (omega arith)))

marked : (b : List ℕ) (n : ℕ) → length b ≡ 64 → n ≤ 64 → length (take n b ++ 0x80 ∷ []) ≡ n + 1
marked b n eb l = joint b (0x80 ∷ []) n eb l

padded_one : (b : List ℕ) (n : ℕ) → length b ≡ 64 → n % 64 < 56
    → take 56 (filled (take (n % 64) b ++ 0x80 ∷ [])) ++ wide (8 * n) ≡ take (n % 64) b ++ padding n
unfolding padding
padded_one b n eb l =
    let m : length (take (n % 64) b ++ 0x80 ∷ []) ≡ n % 64 + 1 = marked b (n % 64) eb (omega arith) in
    let k : 56 - length (take (n % 64) b ++ 0x80 ∷ []) ≡ (119 - n % 64) % 64 = omega arith in
    rw (filled_56 (take (n % 64) b ++ 0x80 ∷ []) (omega arith), k) (simp append_assoc)

pub finish_one : (st : Hasher) (n : ℕ) → length st.block ≡ 64 → n % 64 < 56
    → blocks st.words (take 56 (filled (take (n % 64) st.block ++ 0x80 ∷ [])) ++ wide (8 * n)) ≡ finished st n
unfolding finished
finish_one st n eb l = ap (blocks st.words) (padded_one st.block n eb l)

padded_two : (b : List ℕ) (n : ℕ) → length b ≡ 64 → 56 ≤ n % 64
    → filled (take (n % 64) b ++ 0x80 ∷ []) ++ (replicate 56 0 ++ wide (8 * n)) ≡ take (n % 64) b ++ padding n
unfolding padding filled
padded_two b n eb l =
    let m : length (take (n % 64) b ++ 0x80 ∷ []) ≡ n % 64 + 1 = marked b (n % 64) eb (omega arith) in
    let k : (119 - n % 64) % 64 ≡ 64 - length (take (n % 64) b ++ 0x80 ∷ []) + 56 = omega arith in
    rw (k, ← replicate-append-replicate) (simp append_assoc)

pub finish_two : (st : Hasher) (n : ℕ) → length st.block ≡ 64 → 56 ≤ n % 64
    → blocks (blocks st.words (filled (take (n % 64) st.block ++ 0x80 ∷ []))) (replicate 56 0 ++ wide (8 * n)) ≡ finished st n
unfolding finished
finish_two st n eb l =
    let h : List ℕ = st.words in
    let f : List ℕ = filled (take (n % 64) st.block ++ 0x80 ∷ []) in
    let d : List ℕ = replicate 56 0 ++ wide (8 * n) in
    let lf : length f ≡ 64 = length_filled (take (n % 64) st.block ++ 0x80 ∷ []) (omega (arith, marked st.block (n % 64) eb (omega arith))) in
    ap (λ (x : List ℕ). blocks x d) (blocks_one h f lf) ∙ sym (blocks_cons h f d lf) ∙ ap (blocks h) (padded_two st.block n eb l)

-- ---- a message of one block

grouped : (x r w : List ℕ) (y : ℕ) → ((x ++ y ∷ []) ++ r) ++ w ≡ x ++ (y ∷ r ++ w)
grouped x r w y = simp append_assoc

pub digest_one : (p : ℕ) (s : List ℕ) → length s < 55
    → blocks initial (take 56 (filled ((p ∷ s) ++ 0x80 ∷ [])) ++ wide (8 * (length s + 1))) ≡ hashed (p ∷ s)
unfolding hashed padding
digest_one p s l =
    let m : length ((p ∷ s) ++ 0x80 ∷ []) ≡ length s + 2 = length-append (p ∷ s) (0x80 ∷ []) ∙ omega arith in
    let k : 56 - length ((p ∷ s) ++ 0x80 ∷ []) ≡ (119 - suc (length s) % 64) % 64 = omega arith in
    let n : length s + 1 ≡ suc (length s) = omega arith in
    ap (blocks initial)
    (rw (filled_56 ((p ∷ s) ++ 0x80 ∷ []) (omega arith), k, n) (grouped (p ∷ s) (replicate ((119 - suc (length s) % 64) % 64) 0) (wide (8 * suc (length s))) 0x80))

pub digest_of_lem : (p : ℕ) (s : List ℕ) → finished (absorbed (begun (p ∷ [])) 1 s) (length s + 1) ≡ hashed (p ∷ s)
digest_of_lem p s = ap₂ finished (absorbed_begun (p ∷ []) s 1 refl) (add-one (length s)) ∙ finished_begun (p ∷ s)
