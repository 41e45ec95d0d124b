-- Where the walk is: chains that are due cover the days that are not decided, each the largest that fits there but the first.
use mathlib.Core.Path.{◌≡◌, refl, sym, ap, ap₂, ◌∙◌}
use mathlib.Core.Bool.{true, false}
use mathlib.Core.Logic.{inl, inr}
use mathlib.Core.List.{List, [], ◌∷◌, ◌++◌, flat_map}
use Prim.Native.Nat.{min, ℕ, zero, suc, ◌+◌, ◌-◌, ◌*◌, ◌/◌, ◌%◌, ◌^◌, ◌≤◌, ◌<◌}
use native.Mathlib.Nat.{mod-lt, mod-one, div-add-mod', div-mul-le_self, div-eq_of_lt, suc-mul, pow-succ'}
use native.Mathlib.{Decide.dec_lt, Omega.arith}
use lib.{Dec.eqb, Arith.digits_div, Arith.digits_mod, Pow.pow_pos, Pow.pow_mono, Count.count_trailing_zeros}
use borrow.Author.Tests.{eqb-true, eqb-false, eq-eqb}
use Rattle.lists.specs.Lists.{up_from}
use Rattle.lists.proofs.Laws.{split, true_or_false, up_from-append}
use Rattle.layouts.specs.Layouts.{divides, lg, Name, tree}
use Rattle.layouts.proofs.Counts.{parity, double_divides, odd_divides, lg_bounds}
use Rattle.layouts.proofs.Positions.{divides_half, divides_below}
use Rattle.acceptance.proofs.Runs.{div_whole, divides_multiple}
use Rattle.searching.specs.Searching.{maximal_below, maximal, days_under}
use Rattle.searching.specs.Private.{Fits, Largest, Laid, Due}

-- ---- levels that fit

-- the end of a chain that starts behind day g
pub end_whole : (g l : ℕ) → divides (2 ^ l) g ≡ true → divides (2 ^ l) (g + 2 ^ l) ≡ true
end_whole g l h =
    let b = div_whole (2 ^ l) g h in
    let s = suc-mul (g / 2 ^ l) (2 ^ l) in
    let e : g + 2 ^ l ≡ suc (g / 2 ^ l) * 2 ^ l = omega arith in
    rw e (divides_multiple (suc (g / 2 ^ l)) (2 ^ l) (pow_pos l))

fits_below : {d g : ℕ} (l m : ℕ) → l ≤ m → Fits d g m → Fits d g l
fits_below {d} {g} l m h f =
    let w : 2 ^ l ≤ 2 ^ m = pow_mono h in record { whole = divides_below l m g h f.whole; room = omega (arith, f.room) }

largest_most : {d g : ℕ} (l m : ℕ) → Largest d g l → Fits d g m → m ≤ l
largest_most l m a f = elim (dec_lt l m) [ yes h ↦ absurd (a.largest (fits_below (suc l) m h f)) | no h ↦ omega arith ]

pub largest_one : {d g : ℕ} (l m : ℕ) → Largest d g l → Largest d g m → l ≡ m
largest_one l m a b = let x = largest_most l m a b.fits in let y = largest_most m l b a.fits in omega arith

-- by the zeros at a number's end
trailing_whole : (k g : ℕ) → divides (2 ^ count_trailing_zeros k g) g ≡ true
unfolding count_trailing_zeros
trailing_whole zero g = eq-eqb (g % 1) 0 (mod-one g)
trailing_whole (suc k) g = elim (parity g) [
  | inl e ↦ let z : g % 2 ≡ 0 = omega arith in
      rw z (ap (divides (2 ^ suc (count_trailing_zeros k (g / 2)))) e ∙ double_divides (count_trailing_zeros k (g / 2)) (g / 2) ∙ trailing_whole k (g / 2))
  | inr e ↦ let z : g % 2 ≡ 1 = omega arith in rw z (eq-eqb (g % 1) 0 (mod-one g))
]

trailing_most : (k g : ℕ) → count_trailing_zeros k g < k → divides (2 ^ suc (count_trailing_zeros k g)) g ≡ false
unfolding count_trailing_zeros
trailing_most zero g h = absurd (omega arith)
trailing_most (suc k) g h = elim (parity g) [
  | inl e ↦ let z : g % 2 ≡ 0 = omega arith in
      let l : suc (count_trailing_zeros k (g / 2)) < suc k = rw z at h in
      rw z (ap (divides (2 ^ suc (suc (count_trailing_zeros k (g / 2))))) e ∙ double_divides (suc (count_trailing_zeros k (g / 2))) (g / 2) ∙ trailing_most k (g / 2) (omega arith))
  | inr e ↦ let z : g % 2 ≡ 1 = omega arith in rw z (ap (divides (2 ^ 1)) e ∙ odd_divides 0 (g / 2))
]

-- the largest chain behind day g
module _ (d g : ℕ) (h : g < d) (small : d ≤ 65536) where
  low : 2 ^ lg (d - g) ≤ d - g
  low = (lg_bounds (d - g) (omega arith)).0

  high : d - g < 2 ^ suc (lg (d - g))
  high = (lg_bounds (d - g) (omega arith)).1

  few : lg (d - g) < 32
  few = elim (dec_lt (lg (d - g)) 32) [
    | yes k ↦ k
    | no k ↦ let w : 2 ^ 32 ≤ 2 ^ lg (d - g) = pow_mono {i = 32} {j = lg (d - g)} (omega arith) in absurd (omega (arith, low))
  ]

  level_by_day : count_trailing_zeros 32 g < lg (d - g) → Largest d g (count_trailing_zeros 32 g)
  level_by_day k =
      let w : 2 ^ count_trailing_zeros 32 g ≤ 2 ^ lg (d - g) = pow_mono (omega arith) in
      record {
        fits = record { whole = trailing_whole 32 g; room = omega (arith, low) };
        largest = λ f. true_or_false f.whole (trailing_most 32 g (omega (arith, few)));
      }

  level_by_room : lg (d - g) ≤ count_trailing_zeros 32 g → Largest d g (lg (d - g))
  level_by_room k =
      record {
        fits = record { whole = divides_below (lg (d - g)) (count_trailing_zeros 32 g) g k (trailing_whole 32 g); room = omega (arith, low) };
        largest = λ f. absurd (omega (arith, high, f.room));
      }

  pub level_least : {l : ℕ} → l ≡ min (lg (d - g)) (count_trailing_zeros 32 g) → Largest d g l
  level_least {l} e = elim (dec_lt (count_trailing_zeros 32 g) (lg (d - g))) [
    | yes k ↦ let f : l ≡ count_trailing_zeros 32 g = omega arith in rw f (level_by_day k)
    | no k ↦ let f : l ≡ lg (d - g) = omega arith in rw f (level_by_room (omega arith))
  ]

  pub level_there : (l : ℕ) × Largest d g l
  level_there = (_, level_least refl)

-- ---- what is due

pub laid_due : (d g l : ℕ) (due : List Name) → g ≤ d → (g < d → Largest d g l) → Laid d g due → Due d g l due
laid_due d g l [] m f e = record { most = m; none = λ z. refl; first = λ h. absurd (omega arith) }
laid_due d g l (x ∷ due) m f e =
    let w = pow_pos e.0 in
    let k : g < d = omega (arith, e.2.fits.room) in
    let q : e.0 ≡ l = largest_one e.0 l e.2 (f k) in
    record { most = m; none = λ z. absurd (omega arith); first = λ h. (due, ap (λ y. y ∷ due) (rw q at e.1), (f k).fits, rw q at e.3) }

-- the right half of a chain is the largest behind the left
half_largest : (d g l : ℕ) → Fits d g (suc l) → Largest d (g + 2 ^ l) l
half_largest d g l f =
    let w = pow-succ' 2 l in
    let p = pow_pos l in
    let a = div_whole (2 ^ suc l) g f.whole in
    let r : (g + 2 ^ l) % 2 ^ suc l ≡ 2 ^ l = ap (λ x. (x + 2 ^ l) % 2 ^ suc l) (sym a) ∙ digits_mod (g / 2 ^ suc l) (omega arith) in
    record {
      fits = record { whole = end_whole g l (divides_half l g f.whole); room = omega (arith, f.room) };
      largest = λ k. absurd (omega (arith, eqb-true ((g + 2 ^ l) % 2 ^ suc l) 0 k.whole));
    }

pub fits_left : (d g l : ℕ) → Fits d g (suc l) → Fits d g l
fits_left d g l f = fits_below l (suc l) (omega arith) f

pub fits_right : (d g l : ℕ) → Fits d g (suc l) → Fits d (g + 2 ^ l) l
fits_right d g l f = (half_largest d g l f).fits

-- the halves of a chain that fails
pub halves_due : (d g l : ℕ) (rest : List Name) → Fits d g (suc l) → Laid d (g + 2 ^ suc l) rest →
    Due d g l (tree l (g + 2 ^ suc l - 2 ^ l) ∷ tree l (g + 2 ^ suc l) ∷ rest)
halves_due d g l rest f e =
    let w = pow-succ' 2 l in
    let p = pow_pos l in
    let a : g + 2 ^ suc l - 2 ^ l ≡ g + 2 ^ l = omega arith in
    let b : g + 2 ^ suc l ≡ g + 2 ^ l + 2 ^ l = omega arith in
    record {
      most = omega (arith, f.room);
      none = λ z. absurd (omega (arith, f.room));
      first = λ h. (
        tree l (g + 2 ^ suc l) ∷ rest,
        ap (λ x. tree l x ∷ tree l (g + 2 ^ suc l) ∷ rest) a,
        fits_left d g l f,
        (l, ap (tree l) b, half_largest d g l f, rw b at e),
      );
    }

-- ---- the maximal chains

-- a number by its bit l, the bits above it and those below
module _ (d l : ℕ) where
  bit_parts : d ≡ d / 2 ^ l / 2 * 2 ^ suc l + (d / 2 ^ l % 2 * 2 ^ l + d % 2 ^ l)
  bit_parts =
      let w = pow-succ' 2 l in
      let a = div-add-mod' d (2 ^ l) in
      let z : d / 2 ^ l ≡ d / 2 ^ l / 2 * 2 + d / 2 ^ l % 2 = omega arith in
      let b : d / 2 ^ l * 2 ^ l ≡ (d / 2 ^ l / 2 * 2 + d / 2 ^ l % 2) * 2 ^ l = ap (λ x. x * 2 ^ l) z in
      rw w (omega arith)

  bit_under : d / 2 ^ l % 2 * 2 ^ l + d % 2 ^ l < 2 ^ suc l
  bit_under = rw (pow-succ' 2 l) (go (d / 2 ^ l % 2) (omega arith))
    where
      go : (b : ℕ) → b < 2 → b * 2 ^ l + d % 2 ^ l < 2 * 2 ^ l
      go b h = let m = mod-lt d (pow_pos l) in elim (dec_lt b 1) [
        | yes k ↦ let z : b ≡ 0 = omega arith in rw z (omega arith)
        | no k ↦ let z : b ≡ 1 = omega arith in rw z (omega arith)
      ]

  bit_point : d / 2 ^ l ≡ d / 2 ^ suc l + d / 2 ^ suc l + d / 2 ^ l % 2
  bit_point =
      let f : d / 2 ^ suc l ≡ d / 2 ^ l / 2 = ap (λ x. x / 2 ^ suc l) bit_parts ∙ digits_div (d / 2 ^ l / 2) bit_under in
      omega arith

  pub bit_split : d % 2 ^ suc l ≡ d / 2 ^ l % 2 * 2 ^ l + d % 2 ^ l
  bit_split = ap (λ x. x % 2 ^ suc l) bit_parts ∙ digits_mod (d / 2 ^ l / 2) bit_under

-- where the days before the maximal chains of the levels below l end
abbrev pub before : ℕ → ℕ → ℕ
before d l = d / 2 ^ l * 2 ^ l

pub before_one : (d l : ℕ) → d / 2 ^ l % 2 ≡ 1 → before d l ≡ before d (suc l) + 2 ^ l
before_one d l o = let w = pow-succ' 2 l in let b = bit_point d l in rw (b, o, w) (omega arith)

before_none : (d l : ℕ) → d / 2 ^ l % 2 ≡ 0 → before d l ≡ before d (suc l)
before_none d l o = let w = pow-succ' 2 l in let b = bit_point d l in rw (b, o, w) (omega arith)

maximal_level : (d l : ℕ) → d / 2 ^ l % 2 ≡ 1 → Largest d (before d (suc l)) l
maximal_level d l o =
    let e = before_one d l o in
    let u : before d l ≤ d = div-mul-le_self d (2 ^ l) in
    let a = div-add-mod' d (2 ^ suc l) in
    let m = mod-lt d (pow_pos (suc l)) in
    record {
      fits = record { whole = divides_half l (before d (suc l)) (divides_multiple (d / 2 ^ suc l) (2 ^ suc l) (pow_pos (suc l))); room = omega arith };
      largest = λ f. absurd (omega (arith, f.room));
    }

pub maximal_below_lem : (d l : ℕ) → Laid d (before d l) (maximal_below d l)
maximal_below_lem d zero = omega arith
maximal_below_lem d (suc l) = elim (split (eqb (d / 2 ^ l % 2) 1)) [
  | inl t ↦ let o = eqb-true (d / 2 ^ l % 2) 1 t in
      let e = before_one d l o in
      rw t (l, ap (tree l) e, maximal_level d l o, rw e at (maximal_below_lem d l))
  | inr t ↦ let o = eqb-false (d / 2 ^ l % 2) 1 t in
      let z : d / 2 ^ l % 2 ≡ 0 = omega arith in
      rw (t, ← (before_none d l z)) (maximal_below_lem d l)
]

pub before_all : (d : ℕ) → 1 ≤ d → before d (suc (lg d)) ≡ 0
before_all d s = rw (div-eq_of_lt (lg_bounds d s).1) (omega arith)

pub maximal_laid : (d : ℕ) → 1 ≤ d → Laid d 0 (maximal d)
unfolding maximal
maximal_laid d s = rw (before_all d s) at (maximal_below_lem d (suc (lg d)))

-- ---- the days under what is due

-- those of a chain, then the rest
chain_days : (n d g l : ℕ) (rest : List Name) → Fits d g l → days_under n rest ≡ up_from (suc (g + 2 ^ l)) (d - (g + 2 ^ l)) →
    days_under n (tree l (g + 2 ^ l) ∷ rest) ≡ up_from (suc g) (d - g)
unfolding days_under flat_map
chain_days n d g l rest f e =
    let a : g + 2 ^ l - 2 ^ l ≡ g = omega arith in
    let b : d - g ≡ 2 ^ l + (d - (g + 2 ^ l)) = omega (arith, f.room) in
    let c : suc g + 2 ^ l ≡ suc (g + 2 ^ l) = omega arith in
    ap₂ (λ y r. y ++ r) (ap (λ y. up_from (suc y) (2 ^ l)) a) e ∙
    sym (ap (up_from (suc g)) b ∙ up_from-append (suc g) (2 ^ l) (d - (g + 2 ^ l)) ∙ ap (λ y. up_from (suc g) (2 ^ l) ++ up_from y (d - (g + 2 ^ l))) c)

pub laid_days : (n d g : ℕ) (due : List Name) → Laid d g due → days_under n due ≡ up_from (suc g) (d - g)
unfolding days_under flat_map
laid_days n d g [] e = let z : d - g ≡ 0 = omega arith in rw z
laid_days n d g (x ∷ due) e =
    ap (λ y. days_under n (y ∷ due)) e.1 ∙ chain_days n d g e.0 due e.2.fits (laid_days n d (g + 2 ^ e.0) due e.3)

pub due_days : (n d g l : ℕ) (due : List Name) → Due d g l due → days_under n due ≡ up_from (suc g) (d - g)
unfolding days_under flat_map
due_days n d g l due h = elim (dec_lt g d) [
  | yes k ↦ let r = h.first k in
      ap (days_under n) r.1 ∙ chain_days n d g l r.0 r.2 (laid_days n d (g + 2 ^ l) r.0 r.3)
  | no k ↦ let z : d - g ≡ 0 = omega arith in
      ap (days_under n) (h.none (omega (arith, h.most))) ∙ rw z
]
