-- The first and the last day of a chain.
use mathlib.Core.Path.{◌≡◌, refl, sym, ap, ◌∙◌}
use mathlib.Core.Bool.{Bool, true, false}
use mathlib.Core.Logic.{inl, inr}
use mathlib.Core.List.{[]}
use Prim.Native.Nat.{ℕ, zero, suc, pred, ◌+◌, ◌-◌, ◌*◌, ◌/◌, ◌%◌, ◌^◌, ◌≤◌, ◌<◌}
use native.Mathlib.Nat.{div-add-mod', suc-mul, mul_comm, pow-succ'}
use native.Mathlib.{Decide.ℕ_discrete, Omega.arith}
use lib.{Arith.digits_div, Arith.digits_mod, Pow.pow_pos, Pow.pow-add}
use lib.Dec.{eqb}
use borrow.Author.Tests.{eqb-true, eq-eqb, ne_eqb}
use Rattle.lists.specs.Lists.{up_from, keep, first_of, last_of}
use Rattle.lists.proofs.Laws.{split}
use Rattle.layouts.specs.Layouts.{allowed_n, divides, lg, black, tile, tree, offset, covers, last_days}
use Rattle.layouts.proofs.{AllowedLaws.allowed_n_is, Coverage.divisor_le, Coverage.weight_is}
use Rattle.positions.specs.Positions.{chain_of}
use Rattle.positions.specs.Statements.{SpansTold}

-- ---- runs of numbers, whole and by a test

last_run : (z i k : ℕ) → last_of z (up_from i (suc k)) ≡ i + k
last_run z i zero = omega arith
last_run z i (suc k) = let r = last_run i (suc i) k in omega arith

none_kept : (p : ℕ → Bool) (i k : ℕ) → ((x : ℕ) → i ≤ x → x < i + k → p x ≡ false) → keep p (up_from i k) ≡ []
none_kept p i zero h = refl
none_kept p i (suc k) h = rw (h i (omega arith) (omega arith)) (none_kept p (suc i) k (λ x a b. h x (omega arith) (omega arith)))

first_kept : (p : ℕ → Bool) (i k : ℕ) → 1 ≤ k → p i ≡ true → first_of (keep p (up_from i k)) ≡ i
first_kept p i zero l e = absurd (omega arith)
first_kept p i (suc k) l e = rw e

-- the last that passes is g, and none behind it does
last_kept : (p : ℕ → Bool) (z i k g : ℕ) → p g ≡ true → i ≤ g → g < i + k → ((x : ℕ) → g < x → x < i + k → p x ≡ false) → last_of z (keep p (up_from i k)) ≡ g
last_kept p z i zero g e a b h = absurd (omega arith)
last_kept p z i (suc k) g e a b h = elim (ℕ_discrete i g) [
  | yes q ↦ let t : p i ≡ true = ap p q ∙ e in
      let r : keep p (up_from (suc i) k) ≡ [] = none_kept p (suc i) k (λ x m o. h x (omega arith) (omega arith)) in
      rw (t, r) q
  | no q ↦ elim (split (p i)) [
    | inl t ↦ rw t (last_kept p i (suc i) k g e (omega arith) (omega arith) (λ x m o. h x m (omega arith)))
    | inr t ↦ rw t (last_kept p z (suc i) k g e (omega arith) (omega arith) (λ x m o. h x m (omega arith)))
  ]
]

-- the k days that end at g
last_days_lem : (z k g : ℕ) → 1 ≤ k → k ≤ g → last_of z (last_days k g) ≡ g
last_days_lem z zero g a b = absurd (omega arith)
last_days_lem z (suc k) g a b = let r = last_run z (suc (g - suc k)) k in omega arith

first_days : (k g : ℕ) → 1 ≤ k → first_of (last_days k g) ≡ suc (g - k)
first_days zero g a = absurd (omega arith)
first_days (suc k) g a = refl

-- ---- offsets, and the bit of a tile chain

module _ (n g : ℕ) (some : 1 ≤ n) (whole : divides n g ≡ true) (enough : n ≤ g) where
  -- the day at offset o of the tile that ends at g
  offset_at : (o : ℕ) → o < n → offset n (suc (g - n) + o) ≡ o
  offset_at o l =
      let z = eqb-true (g % n) 0 whole in
      let w = div-add-mod' g n in
      let q : suc (pred (g / n)) * n ≡ pred (g / n) * n + n = suc-mul (pred (g / n)) n in
      let one : 1 ≤ g / n = elim (ℕ_discrete (g / n) 0) [ yes e ↦ (let m : g / n * n ≡ 0 = rw e (omega arith) in absurd (omega arith)) | no h ↦ omega arith ] in
      let p : suc (pred (g / n)) ≡ g / n = omega arith in
      let v : pred (g / n) * n + n ≡ g = sym q ∙ ap (λ (x : ℕ). x * n) p ∙ (let y : g / n * n ≡ g = omega arith in y) in
      let d : pred (suc (g - n) + o) ≡ pred (g / n) * n + o = omega arith in
      ap (λ (x : ℕ). x % n) d ∙ digits_mod (pred (g / n)) l

-- the bit of weight w of an offset in an even or an odd part of w days
even_part : (q w r o : ℕ) → r < w → o ≡ 2 * (q * w) + r → eqb (o / w % 2) 0 ≡ true
even_part q w r o l e =
    let v : o ≡ 2 * q * w + r = omega arith in
    let d : o / w ≡ 2 * q = ap (λ (x : ℕ). x / w) v ∙ digits_div (2 * q) l in
    eq-eqb (o / w % 2) 0 (omega arith)

odd_part : (q w r o : ℕ) → r < w → o ≡ 2 * (q * w) + w + r → eqb (o / w % 2) 0 ≡ false
odd_part q w r o l e =
    let v : o ≡ (2 * q + 1) * w + r = omega arith in
    let d : o / w ≡ 2 * q + 1 = ap (λ (x : ℕ). x / w) v ∙ digits_div (2 * q + 1) l in
    ne_eqb (o / w % 2) 0 (λ z. omega arith)

-- n is an even number of times the bit's weight w = n / 2^(i + 1)
pub record Weighed (n w : ℕ) : Type 0 where
  pub pairs : ℕ
  pub some : 1 ≤ w
  pub size_is : n ≡ 2 * (pairs * w) + 2 * w

weighed : (n i : ℕ) → allowed_n n ≡ true → suc i ≤ lg n → Weighed n (n / 2 ^ suc i)
weighed n i a l =
    let p = allowed_n_is n a in
    let k : lg n ≡ lg n - suc i + suc i = omega arith in
    let e : n ≡ 2 ^ (lg n - suc i) * 2 ^ suc i = p.power ∙ ap (λ (x : ℕ). 2 ^ x) k ∙ pow-add 2 (lg n - suc i) (suc i) in
    let w = weight_is n (lg n) (suc i) p.power l in
    let b : 2 ^ (lg n - suc i) * 2 ^ suc i ≡ 2 * (2 ^ (lg n - suc i) * 2 ^ i) = rw (pow-succ' 2 i) (omega arith) in
    let s : suc (pred (2 ^ i)) ≡ 2 ^ i = omega (arith, pow_pos i) in
    let c : 2 ^ i * 2 ^ (lg n - suc i) ≡ pred (2 ^ i) * 2 ^ (lg n - suc i) + 2 ^ (lg n - suc i) = ap (λ (x : ℕ). x * 2 ^ (lg n - suc i)) (sym s) ∙ suc-mul (pred (2 ^ i)) (2 ^ (lg n - suc i)) in
    let h : n ≡ 2 * (pred (2 ^ i) * 2 ^ (lg n - suc i)) + 2 * 2 ^ (lg n - suc i) = omega (arith, mul_comm (2 ^ (lg n - suc i)) (2 ^ i)) in
    record { pairs = pred (2 ^ i); some = rw w (pow_pos (lg n - suc i)); size_is = rw w h }

-- a day behind the last one that is covered: in the last w days of its tile
pub record Behind (b n w q x : ℕ) : Type 0 where
  pub day : x ≡ suc b + (x - suc b)
  pub inside : x - suc b < n
  pub part : x + w - suc (b + n) < w
  pub odd : x - suc b ≡ 2 * (q * w) + w + (x + w - suc (b + n))

behind : (b n w q x : ℕ) → n ≡ 2 * (q * w) + 2 * w → b + n < x + w → x < suc b + n → Behind b n w q x
behind b n w q x e l m = record { day = omega arith; inside = omega arith; part = omega arith; odd = omega arith }

-- ---- tile chains

module _ (n g : ℕ) (allowed : allowed_n n ≡ true) (whole : divides n g ≡ true) (some : 1 ≤ g) where
  enough : n ≤ g
  enough = divisor_le n g some whole

  -- a test of the days of a tile, by their offsets
  tested : (i o : ℕ) → o < n → covers n i (offset n (suc (g - n) + o)) ≡ covers n i o
  tested i o l = ap (covers n i) (offset_at n g (allowed_n_is n allowed).some whole enough o l)

  -- offset 0 is covered by all
  first_covered : (i : ℕ) → i ≤ lg n → covers n i 0 ≡ true
  first_covered zero l = refl
  first_covered (suc i) l = let w = weighed n i allowed l in even_part 0 (n / 2 ^ suc i) 0 0 w.some (omega arith)

  pub tile_first : (i : ℕ) → i ≤ lg n → (chain_of n (tile i g)).first ≡ suc (g - n)
  tile_first i l =
      let p = allowed_n_is n allowed in
      let z : suc (g - n) + 0 ≡ suc (g - n) = omega arith in
      let t : covers n i (offset n (suc (g - n))) ≡ true = rw z at (tested i 0 p.some ∙ first_covered i l) in
      first_kept (λ day. covers n i (offset n day)) (suc (g - n)) n p.some t

  pub tile_whole : (chain_of n (tile 0 g)).last ≡ g
  tile_whole =
      last_kept (λ day. covers n 0 (offset n day)) 0 (suc (g - n)) n g refl (omega (arith, enough, (allowed_n_is n allowed).some))
      (omega (arith, enough)) (λ x a b. absurd (omega (arith, enough)))

  pub tile_last : (i : ℕ) → suc i ≤ lg n → (chain_of n (tile (suc i) g)).last ≡ g - n / 2 ^ suc i
  tile_last i l = at (n / 2 ^ suc i) (weighed n i allowed l) refl
    where
      at : (w : ℕ) → Weighed n w → n / 2 ^ suc i ≡ w → (chain_of n (tile (suc i) g)).last ≡ g - n / 2 ^ suc i
      at w b e =
          let m = enough in
          let z = b.size_is in
          let o = b.some in
          let d : suc (g - n) + (n - 1 - w) ≡ g - w = omega arith in
          let covered : covers n (suc i) (offset n (g - w)) ≡ true =
          ap (λ (x : ℕ). covers n (suc i) (offset n x)) (sym d) ∙ tested (suc i) (n - 1 - w) (omega arith) ∙
          rw e (even_part b.pairs w (w - 1) (n - 1 - w) (omega arith) (omega arith)) in
          last_kept (λ day. covers n (suc i) (offset n day)) 0 (suc (g - n)) n (g - w) covered (omega arith) (omega arith) (λ x h k.
          let y = behind (g - n) n w b.pairs x z (omega arith) (omega arith) in
          ap (λ (v : ℕ). covers n (suc i) (offset n v)) y.day ∙ tested (suc i) (x - suc (g - n)) y.inside ∙
          rw e (odd_part b.pairs w (x + w - suc (g - n + n)) (x - suc (g - n)) y.part y.odd)) ∙
          ap (λ (v : ℕ). g - v) (sym e)

-- ---- as stated

pub black_days : (n g : ℕ) → 1 ≤ g → ((chain_of n (black g)).first ≡ 1) × ((chain_of n (black g)).last ≡ g)
black_days n g l =
    let z : suc (g - g) ≡ 1 = omega arith in
    (first_days g g l ∙ z, last_days_lem 0 g g l (omega arith))

pub days_of_tree : (n g l : ℕ) → 1 ≤ g → divides (2 ^ l) g ≡ true → ((chain_of n (tree l g)).first ≡ suc (g - 2 ^ l)) × ((chain_of n (tree l g)).last ≡ g)
days_of_tree n g l o e = (first_days (2 ^ l) g (pow_pos l), last_days_lem 0 (2 ^ l) g (pow_pos l) (divisor_le (2 ^ l) g o e))

pub spans_told : SpansTold
spans_told n g a o =
    record {
      black_days = black_days n g o;
      tile_first = λ i w l. tile_first n g a w o i l;
      tile_whole = λ w. tile_whole n g a w o;
      tile_last = λ i w l. tile_last n g a w o i l;
      days_of_tree = λ l e. days_of_tree n g l o e;
    }
