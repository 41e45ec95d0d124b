-- Laws of the lines that are printed.
use mathlib.Core.Path.{◌≡◌, refl, sym, ◌∙◌}
use mathlib.Core.List.{List, [], ◌∷◌, ◌++◌, append_assoc, append-nil}
use Prim.Native.Nat.{ℕ, zero, suc, ◌+◌, ◌*◌, ◌≤◌, ◌<◌}
use native.Mathlib.{Numerals.add-one, Omega.arith}
use lib.{ListN.length, ListN.get_or, ListN.set, ListN.take, ListN.length-append, Seq.take-suc}
use Rattle.buffers.specs.Private.{Wrote}
use Rattle.buffers.proofs.Writes.{wrote_none, wrote_as, wrote_byte, wrote_join}
use Rattle.number_text.specs.Numbers.{comma_numbers}
use Rattle.number_text.proofs.DecimalLaws.{numbers_most}
use Rattle.table_text.specs.Text.{line, day_lines}

-- DAY
abbrev DAY : List ℕ
DAY = 68 ∷ 65 ∷ 89 ∷ []

-- ---- a line

pub line_most : (word xs : List ℕ) → length (line word xs) ≤ length word + (11 * length xs + 1)
unfolding line
line_most word xs = let a = numbers_most xs in rw (length-append, length-append) (omega arith)

pub line_room : (at r t n : ℕ) (word xs l m k : List ℕ) → at + (length word + (11 * length xs + 1)) ≤ length l → n ≡ length l → Wrote at word l r m → Wrote r (comma_numbers xs) m t k → t < n
line_room at r t n word xs l m k h e w v = let f = numbers_most xs in omega (arith, w.count, v.count)

pub line_put : (at r t : ℕ) (word xs l m k : List ℕ) → at + (length word + (11 * length xs + 1)) ≤ length l → length m ≡ length l → length k ≡ length m → Wrote at word l r m → Wrote r
    (comma_numbers xs) m t k →
    Wrote at (line word xs) l (t + 1) (set k t 10)
unfolding line
line_put at r t word xs l m k h a b w v =
    let f = numbers_most xs in
    let p = length-append word (comma_numbers xs) in
    let q = length-append (word ++ comma_numbers xs) (10 ∷ []) in
    wrote_as (word ++ (comma_numbers xs ++ (10 ∷ []))) (sym (append_assoc word (comma_numbers xs) (10 ∷ [])))
    (wrote_byte at 10 ((word ++ comma_numbers xs) ++ (10 ∷ [])) (word ++ comma_numbers xs) l k t refl (omega arith)
    (wrote_join at (word ++ comma_numbers xs) word (comma_numbers xs) l m k r t refl (omega arith) w v) (b ∙ a))

-- ---- days

days_append : (xs ys : List ℕ) → day_lines (xs ++ ys) ≡ day_lines xs ++ day_lines ys
unfolding day_lines
days_append [] ys = refl
days_append (x ∷ xs) ys = rw (days_append xs ys, append_assoc)

one_day : (g : ℕ) → day_lines (g ∷ []) ≡ line DAY (g ∷ [])
unfolding day_lines
one_day g = append-nil (line DAY (g ∷ []))

days_snoc : (xs : List ℕ) (i : ℕ) → i < length xs → day_lines (take (i + 1) xs) ≡ day_lines (take i xs) ++ line DAY (get_or xs i 0 ∷ [])
days_snoc xs i h = rw (add-one i, take-suc xs i 0 h, days_append (take i xs) (get_or xs i 0 ∷ []), one_day)

days_front : (i : ℕ) (xs : List ℕ) → length (day_lines (take i xs)) ≤ length (day_lines xs)
unfolding day_lines
days_front zero xs = omega arith
days_front (suc i) [] = omega arith
days_front (suc i) (x ∷ xs) = omega (arith, days_front i xs, length-append (line DAY (x ∷ [])) (day_lines (take i xs)), length-append (line DAY (x ∷ [])) (day_lines xs))

pub days_none : (at : ℕ) (xs l : List ℕ) → Wrote at (day_lines (take 0 xs)) l at l
unfolding day_lines
days_none at xs l = wrote_none at (day_lines (take 0 xs)) l refl

pub days_room : (at i r n : ℕ) (xs l m : List ℕ) → at + (length (day_lines xs) + 15) ≤ length l → n ≡ length l → Wrote at (day_lines (take i xs)) l r m → r + 15 ≤ n
days_room at i r n xs l m b e w = let f = days_front i xs in omega (arith, w.count)

pub days_next : (at i r t : ℕ) (xs l m k : List ℕ) → i < length xs → at + (length (day_lines xs) + 15) ≤ length l → Wrote at (day_lines (take i xs)) l r m →
    Wrote r (line DAY (get_or xs i 0 ∷ [])) m t k → Wrote at (day_lines (take (i + 1) xs)) l t k
days_next at i r t xs l m k h b w v =
    let f = days_front (i + 1) xs in
    wrote_join at (day_lines (take (i + 1) xs)) (day_lines (take i xs)) (line DAY (get_or xs i 0 ∷ [])) l m k r t (days_snoc xs i h) (omega arith) w v

-- ---- the report

abbrev REF : List ℕ
REF = 82 ∷ 69 ∷ 70 ∷ []

module _ (numbers xs l : List ℕ) (six : length numbers ≡ 6) (h : 85 + length (day_lines xs) ≤ length l) where
  pub ref_room : (m : List ℕ) (r n : ℕ) → n ≡ length l → Wrote 0 (line REF numbers) l r m → r + (length (day_lines xs) + 15) ≤ n
  ref_room m r n e w = let f = line_most REF numbers in omega (arith, w.count)

  pub ref_put : (m k : List ℕ) (r t : ℕ) → Wrote 0 (line REF numbers) l r m → Wrote r (day_lines xs) m t k → Wrote 0 (line REF numbers ++ day_lines xs) l t k
  ref_put m k r t w v =
      let f = line_most REF numbers in
      wrote_join 0 (line REF numbers ++ day_lines xs) (line REF numbers) (day_lines xs) l m k r t refl (omega (arith, length-append (line REF numbers) (day_lines xs))) w v
