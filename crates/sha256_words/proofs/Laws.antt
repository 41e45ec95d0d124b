-- Laws of words as bytes: sizes, bounds, one word more.
use Rattle.std.proofs.Common.{ℕ, ◌+◌, ◌-◌, ◌*◌, ◌/◌, ◌%◌, ◌^◌, ◌<◌, ◌≤◌, length, get_or, take, drop, length-take-le, take-suc}
use mathlib.Core.{Path.◌≡◌, Path.refl, Path.sym, Path.ap, List.List, List.[], List.◌∷◌, List.◌++◌, List.append_assoc}
use native.Mathlib.{Omega.arith, Numerals.add-one}
use Rattle.std.specs.Int.{to_be_bytes, w32}
use Rattle.std.proofs.lemmas.List.FromFn.{fill_by_all}
use Rattle.std.proofs.lemmas.Grind.{common_steps}
use borrow.Rule.Slice.PartMut.{put_mid}
use Rattle.sha256_words.specs.Words.{initial, word_at, words, bytes_of}

pub length_initial : length initial ≡ 8
unfolding initial
length_initial = refl

pub length_bytes : (l : List ℕ) → length (bytes_of l) ≡ length l * 4
unfolding bytes_of
length_bytes [] = refl
length_bytes (x ∷ xs) = omega (arith, length_bytes xs)

pub bytes_append : (xs ys : List ℕ) → bytes_of (xs ++ ys) ≡ bytes_of xs ++ bytes_of ys
unfolding bytes_of
bytes_append [] ys = refl
bytes_append (x ∷ xs) ys = ap (λ (l : List ℕ). x / 2 ^ 24 % 256 ∷ x / 2 ^ 16 % 256 ∷ x / 2 ^ 8 % 256 ∷ x % 256 ∷ l) (bytes_append xs ys)

-- ---- the loops over the words of a block and of a hash value

pub words_of : (b r : List ℕ) → length r ≡ 16 → ((k : ℕ) → k < 16 → get_or r k 0 ≡ word_at b (4 * k)) → r ≡ words b
unfolding words
words_of b r e h = fill_by_all (λ k. word_at b (4 * k)) r 16 0 e h

pub bytes_more : (h r z y : List ℕ) (i : ℕ) → r ≡ bytes_of (take i h) ++ drop (4 * i) z → i < length h → 4 * length h ≤ length z → y ≡ to_be_bytes w32 (get_or h i 0)
    → put_mid (4 * i) (4 * i + 4 - 4 * i) r y ≡ bytes_of (take (i + 1) h) ++ drop (4 * (i + 1)) z
unfolding bytes_of
bytes_more h r z y i e l lz ey =
    let size : length (bytes_of (take i h)) ≡ 4 * i = omega (arith, length_bytes (take i h), length-take-le i h (omega arith)) in
    let front : take (4 * i) r ≡ bytes_of (take i h) = grind (arith, common_steps) in
    let back : drop (4 * i + 4 - 4 * i) (drop (4 * i) r) ≡ drop (4 * (i + 1)) z = grind (arith, common_steps) in
    let one : bytes_of (take (i + 1) h) ≡ bytes_of (take i h) ++ y = rw (add-one, take-suc h i 0 l, bytes_append, ey) in
    rw (front, back, one) (sym (append_assoc (bytes_of (take i h)) y (drop (4 * (i + 1)) z)))
