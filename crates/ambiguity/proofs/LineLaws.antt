-- The lines: their length, a line's three numbers, lines one after the other, each once.
use mathlib.Core.Path.{◌≡◌, refl, sym, ap, ◌∙◌}
use mathlib.Core.Bool.{Bool, true, ◌&&◌}
use mathlib.Core.List.{List, [], ◌∷◌, ◌++◌, map, flat_map, map-append}
use Prim.Native.Nat.{ℕ, zero, suc, ◌+◌, ◌*◌, ◌^◌, ◌≤◌, ◌<◌}
use native.Mathlib.{Numerals.add-one, Omega.arith}
use lib.{Dec.leb, ListN.length, ListN.set, ListN.length-append}
use Rattle.lists.specs.Lists.{every, up_from, joined}
use borrow.Author.Tests.{leb-true}
use Rattle.lists.proofs.Laws.{and_both, every_at, up_from_mem, up_from_snoc, flat_map_append, flat_map_one, joined_append, joined_one, joined_single}
use Rattle.layouts.specs.Layouts.{allowed_n}
use Rattle.buffers.specs.Private.{Wrote}
use Rattle.buffers.proofs.Writes.{wrote_none, wrote_as, wrote_join, wrote_front}
use Rattle.number_text.specs.Numbers.{decimal_in, decimal, comma_numbers}
use Rattle.number_text.proofs.DecimalLaws.{decimal_most}
use Rattle.table_text.specs.Text.{line}
use Rattle.table_text.proofs.LineLaws.{line_most, line_room, line_put}
use Rattle.ambiguity.specs.Ambiguity.{sets, listed, line_of, Asked, text_in, Printed}
use Rattle.ambiguity.specs.Private.{Countable, asked_of, ascending}

-- ---- a line

line_fits : (n k : ℕ) → length (line_of n k) ≤ 44
unfolding line_of decimal
line_fits n k = let a = line_most (decimal n) (k ∷ sets n k ∷ listed n k ∷ []) in let b = decimal_most 10 n in omega arith

pub digits_room : (at n a w : ℕ) (l m : List ℕ) → at + 44 ≤ length l → w ≡ length l → Wrote at (decimal_in 10 n) l a m → a + 33 ≤ w
digits_room at n a w l m h e v = let b = decimal_most 10 n in omega (arith, v.count)

module _ (at n x y z a b : ℕ) (l m k : List ℕ) (h : at + 44 ≤ length l) (v : Wrote at (decimal_in 10 n) l a m) (w : Wrote a (comma_numbers (x ∷ y ∷ z ∷ [])) m b k) where
  room : at + (length (decimal_in 10 n) + (11 * 3 + 1)) ≤ length l
  room = let d = decimal_most 10 n in omega arith

  pub feed_room : {s : ℕ} → s ≡ length l → b < s
  feed_room e = line_room at a b _ (decimal_in 10 n) (x ∷ y ∷ z ∷ []) l m k room e v w

  pub line_written : length m ≡ length l → length k ≡ length m → y ≡ sets n x → z ≡ listed n x → Wrote at (line_of n x) l (b + 1) (set k b 10)
  unfolding line_of decimal
  line_written e f p q =
      let r = line_put at a b (decimal_in 10 n) (x ∷ y ∷ z ∷ []) l m k room e f v w in
      wrote_as (line (decimal_in 10 n) (x ∷ sets n x ∷ listed n x ∷ [])) (rw (p, q)) r

-- ---- lines one after the other

tile_text : (n : ℕ) → text_in (asked_of n) ≡ line_of n 1 ++ (line_of n 2 ++ line_of n 3)
unfolding text_in
tile_text n =
    joined_one (line_of n 1) (line_of n 2 ∷ line_of n 3 ∷ []) ∙ ap (λ r. line_of n 1 ++ r) (joined_one (line_of n 2) (line_of n 3 ∷ []) ∙
    ap (λ r. line_of n 2 ++ r) (joined_single (line_of n 3)))

tile_fits : (n : ℕ) → length (text_in (asked_of n)) ≤ 132
tile_fits n =
    let a = line_fits n 1 in
    let b = line_fits n 2 in
    let c = line_fits n 3 in
    rw tile_text (simp length-append (omega arith))

pub countable_more : (n k : ℕ) → Countable n 1 → 1 ≤ k → k ≤ 3 → Countable n k
countable_more n k c a b = record { n_ok = c.n_ok; small = c.small; some = a; most = b }

module _ (at n a : ℕ) (l m : List ℕ) (h : at + 132 ≤ length l) (v : Wrote at (line_of n 1) l a m) where
  pub second_room : {w : ℕ} → w ≡ length l → a + 44 ≤ w
  second_room e = let f = line_fits n 1 in omega (arith, v.count)

  module _ (b : ℕ) (o : List ℕ) (u : Wrote a (line_of n 2) m b o) where
    pub third_room : {w : ℕ} → w ≡ length l → b + 44 ≤ w
    third_room e = let f = line_fits n 1 in let g = line_fits n 2 in omega (arith, v.count, u.count)

    pub tile_written : (r : ℕ) (p : List ℕ) → length m ≡ length l → Wrote b (line_of n 3) o r p → Wrote at (text_in (asked_of n)) l r p
    tile_written r p e w =
        let f = line_fits n 1 in
        let t = tile_fits n in
        let d = length-append (line_of n 2) (line_of n 3) in
        let x = line_fits n 2 in
        let y = line_fits n 3 in
        wrote_join at (text_in (asked_of n)) (line_of n 1) (line_of n 2 ++ line_of n 3) l m p a r (tile_text n) (omega arith) v
        (wrote_join a (line_of n 2 ++ line_of n 3) (line_of n 2) (line_of n 3) m o p b r refl (omega (arith, v.count)) u w)

text_append : (xs ys : List Asked) → text_in (xs ++ ys) ≡ text_in xs ++ text_in ys
unfolding text_in
text_append xs ys = ap joined (map-append (λ x. line_of x.n x.k) xs ys) ∙ joined_append (map (λ x. line_of x.n x.k) xs) (map (λ x. line_of x.n x.k) ys)

text_next : (i : ℕ) → text_in (ascending (i + 1)) ≡ text_in (ascending i) ++ text_in (asked_of (2 ^ i))
text_next i =
    let z : 0 + i ≡ i = omega arith in
    ap (λ j. text_in (ascending j)) (add-one i) ∙
    ap text_in (ap (flat_map (λ e. asked_of (2 ^ e))) (up_from_snoc 0 i) ∙ flat_map_append (λ e. asked_of (2 ^ e)) (up_from 0 i) ((0 + i) ∷ []) ∙
    ap (λ r. ascending i ++ r) (flat_map_one (λ e. asked_of (2 ^ e)) (0 + i) ∙ rw z)) ∙ text_append (ascending i) (asked_of (2 ^ i))

text_none : text_in (ascending 0) ≡ []
unfolding flat_map text_in joined
text_none = refl

text_fits : (i : ℕ) → length (text_in (ascending i)) ≤ 132 * i
text_fits zero = rw text_none (omega arith)
text_fits (suc i) =
    let h = text_fits i in
    let t = tile_fits (2 ^ i) in
    let e : length (text_in (ascending (suc i))) ≡ length (text_in (ascending i)) + length (text_in (asked_of (2 ^ i))) =
    ap (λ j. length (text_in (ascending j))) (sym (add-one i)) ∙ ap length (text_next i) ∙ length-append (text_in (ascending i)) (text_in (asked_of (2 ^ i))) in
    omega arith

-- ---- the tiles of 1, 2, 4 up to 64 days

abbrev is_countable : ℕ → Bool
is_countable i = allowed_n (2 ^ i) && leb (2 ^ i) 64

pub power_countable : (i : ℕ) {w : ℕ} → i < 7 → w ≡ 2 ^ i → Countable w 1
power_countable i l e =
    let all : every is_countable (up_from 0 7) ≡ true = refl in
    let b = and_both (allowed_n (2 ^ i)) (leb (2 ^ i) 64) (every_at is_countable {g = i} {xs = up_from 0 7} (up_from_mem 0 7 i (omega arith) (omega arith)) all) in
    rw e (record { n_ok = b.0; small = leb-true (2 ^ i) 64 b.1; some = omega arith; most = omega arith })

pub lines_none : (l : List ℕ) → Wrote 0 (text_in (ascending 0)) l 0 l
lines_none l = wrote_none 0 (text_in (ascending 0)) l text_none

module _ (i at : ℕ) (l m : List ℕ) (h : 1024 ≤ length l) (v : Wrote 0 (text_in (ascending i)) l at m) where
  pub tile_room : {w : ℕ} → i < 7 → w ≡ length l → at + 132 ≤ w
  tile_room b e = let f = text_fits i in omega (arith, v.count)

  pub lines_next : {w : ℕ} (r : ℕ) (p : List ℕ) → i < 7 → w ≡ 2 ^ i → Wrote at (text_in (asked_of w)) m r p → Wrote 0 (text_in (ascending (i + 1))) l r p
  lines_next r p b e u =
      let f = text_fits (i + 1) in
      wrote_join 0 (text_in (ascending (i + 1))) (text_in (ascending i)) (text_in (asked_of (2 ^ i))) l m p at r (text_next i) (omega arith) v (rw e at u)

-- each line once
pub printed_once : {r : ℕ} {l m : List ℕ} → Wrote 0 (text_in (ascending 7)) l r m → Printed l r m
unfolding flat_map
printed_once {r} w = let e : r ≡ length (text_in (ascending 7)) = omega (arith, w.count) in
    record { order = ascending 7; once = refl; size = e; text = wrote_front r w (sym e) }
