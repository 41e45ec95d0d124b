-- How many chains a whole walk has: no more than the tree has, and, of a table with k changed days, no more than 02 says.
use mathlib.Core.Path.{◌≡◌, refl, ap, ◌∙◌}
use mathlib.Core.Bool.{Bool, true, false}
use mathlib.Core.Logic.{inl, inr}
use mathlib.Core.List.{List, [], ◌∷◌, flat_map}
use Prim.Native.Nat.{ℕ, zero, suc, ◌+◌, ◌-◌, ◌*◌, ◌/◌, ◌%◌, ◌^◌, ◌≤◌, ◌<◌}
use native.Mathlib.Nat.{mod-lt, mod-one, mod-eq_of_lt, mul-le-mul_right, pow-succ'}
use native.Mathlib.{Decide.dec_lt, Omega.arith}
use lib.{Dec.eqb, ListN.length, ListN.length-append, Pow.pow_pos, Pow.pow_mono, Count.ones, Count.ones_in, Count.ones_cat}
use borrow.Author.Tests.{eqb-true, eqb-false}
use Rattle.lists.proofs.Laws.{split}
use Rattle.layouts.specs.Layouts.{lg, Name}
use Rattle.layouts.proofs.Counts.{lg_bounds}
use Rattle.reading.specs.Private.{Given}
use Rattle.searching.specs.Searching.{maximal_below, maximal, passes_in, dealt_with, fully, walk}
use Rattle.searching.specs.Private.{Fits, Laid, changed_to}
use Rattle.searching.proofs.Frontier.{fits_left, fits_right, bit_split, maximal_laid}
use Rattle.searching.proofs.Tables.{changed_in, changed_split, own_some}

-- ---- the number of maximal chains

ones_0 : ones 0 ≡ 0
unfolding ones ones_in
ones_0 = refl

ones_1 : ones 1 ≡ 1
unfolding ones ones_in
ones_1 = refl

below_ones : (d l : ℕ) → length (maximal_below d l) ≡ ones (d % 2 ^ l)
below_ones d zero = rw (mod-one d, ones_0)
below_ones d (suc l) =
    let r = below_ones d l in
    let m = mod-lt d (pow_pos l) in
    elim (split (eqb (d / 2 ^ l % 2) 1)) [
      | inl t ↦ let o = eqb-true (d / 2 ^ l % 2) 1 t in rw (t, bit_split d l, o, ones_cat l 1 (d % 2 ^ l) m, ones_1) (omega arith)
      | inr t ↦ let o = eqb-false (d / 2 ^ l % 2) 1 t in
          let z : d / 2 ^ l % 2 ≡ 0 = omega arith in
          rw (t, bit_split d l, z, ones_cat l 0 (d % 2 ^ l) m, ones_0) (omega arith)
    ]

pub maximal_ones : (d : ℕ) → 1 ≤ d → length (maximal d) ≡ ones d
unfolding maximal
maximal_ones d s = below_ones d (suc (lg d)) ∙ ap ones (mod-eq_of_lt (lg_bounds d s).1)

-- ---- no more than the tree has

module _ (p : ℕ → ℕ → Bool) where
  dealt_one : (l g : ℕ) → p (suc l) g ≡ true → length (dealt_with p (suc l) g) ≡ 1
  dealt_one l g e = rw e

  dealt_both : (l g : ℕ) → p (suc l) g ≡ false → length (dealt_with p (suc l) g) ≡ suc (length (dealt_with p l (g - 2 ^ l)) + length (dealt_with p l g))
  dealt_both l g e = rw e (ap suc (length-append (dealt_with p l (g - 2 ^ l)) (dealt_with p l g)))

  dealt_few : (l g : ℕ) → length (dealt_with p l g) < 2 * 2 ^ l
  dealt_few zero g = omega arith
  dealt_few (suc l) g = let w = pow-succ' 2 l in let q = pow_pos l in elim (split (p (suc l) g)) [
    | inl e ↦ rw (dealt_one l g e) (omega arith)
    | inr e ↦ rw (dealt_both l g e) (let a = dealt_few l (g - 2 ^ l) in let b = dealt_few l g in omega arith)
  ]

  laid_few : (d g : ℕ) (due : List Name) → Laid d g due → length (flat_map (fully p) due) + length due ≤ 2 * (d - g)
  unfolding flat_map
  laid_few d g [] e = omega arith
  laid_few d g (x ∷ due) e =
      let l = e.0 in
      let a = laid_few d (g + 2 ^ l) due e.3 in
      let b = dealt_few l (g + 2 ^ l) in
      rw (e.1, length-append) (omega (arith, e.2.fits.room))

  pub walk_few : (d : ℕ) → 1 ≤ d → length (walk p d) + ones d ≤ 2 * d
  unfolding walk
  walk_few d s = omega (arith, laid_few d 0 (maximal d) (maximal_laid d s), maximal_ones d s)

-- ---- no more than 02 says

level_most : (d g l : ℕ) → Fits d g l → l ≤ lg d
level_most d g l f = elim (dec_lt (lg d) l) [
  | yes h ↦ let w = pow_pos l in
      let b : 2 ^ suc (lg d) ≤ 2 ^ l = pow_mono h in
      absurd (omega (arith, f.room, (lg_bounds d (omega (arith, f.room))).1))
  | no h ↦ omega arith
]

module _ (n d places : ℕ) (t : List ℕ) (G : Given 3 n d t places) where
  abbrev p : ℕ → ℕ → Bool
  p = passes_in n d t

  -- a chain of level l with a changed days: 1 + 2·l·a
  dealt_size : (l g : ℕ) → Fits d g l → length (dealt_with p l (g + 2 ^ l)) ≤ 1 + 2 * l * length (changed_in n d t g (2 ^ l))
  dealt_size zero g f = omega arith
  dealt_size (suc l) g f = elim (split (p (suc l) (g + 2 ^ suc l))) [
    | inl e ↦ rw (dealt_one p l (g + 2 ^ suc l) e) (omega arith)
    | inr e ↦
        let w = pow-succ' 2 l in
        let h : g + 2 ^ suc l - 2 ^ l ≡ g + 2 ^ l = omega arith in
        let r : g + 2 ^ suc l ≡ g + 2 ^ l + 2 ^ l = omega arith in
        let c : 2 ^ suc l ≡ 2 ^ l + 2 ^ l = omega arith in
        let x = dealt_size l g (fits_left d g l f) in
        let y = rw (← r) at (dealt_size l (g + 2 ^ l) (fits_right d g l f)) in
        let s : length (changed_in n d t g (2 ^ suc l)) ≡ length (changed_in n d t g (2 ^ l)) + length (changed_in n d t (g + 2 ^ l) (2 ^ l)) =
        ap (λ k. length (changed_in n d t g k)) c ∙ ap length (changed_split n d t g (2 ^ l) (2 ^ l)) ∙ length-append (changed_in n d t g (2 ^ l)) (changed_in n d t (g + 2 ^ l) (2 ^ l)) in
        let o = rw s at (own_some n d places t G g (suc l) f e) in
        rw (dealt_both p l (g + 2 ^ suc l) e, h, s) (omega arith)
  ]

  laid_size : (g : ℕ) (due : List Name) → Laid d g due → length (flat_map (fully p) due) ≤ length due + 2 * lg d * length (changed_in n d t g (d - g))
  unfolding flat_map
  laid_size g [] e = omega arith
  laid_size g (x ∷ due) e =
      let l = e.0 in
      let f = e.2.fits in
      let a = laid_size (g + 2 ^ l) due e.3 in
      let b = dealt_size l g f in
      let c : d - g ≡ 2 ^ l + (d - (g + 2 ^ l)) = omega (arith, f.room) in
      let u : 2 * l * length (changed_in n d t g (2 ^ l)) ≤ 2 * lg d * length (changed_in n d t g (2 ^ l)) =
      mul-le-mul_right (length (changed_in n d t g (2 ^ l))) (let m = level_most d g l f in omega arith) in
      let s : length (changed_in n d t g (d - g)) ≡ length (changed_in n d t g (2 ^ l)) + length (changed_in n d t (g + 2 ^ l) (d - (g + 2 ^ l))) =
      ap (λ k. length (changed_in n d t g k)) c ∙ ap length (changed_split n d t g (2 ^ l) (d - (g + 2 ^ l))) ∙
      length-append (changed_in n d t g (2 ^ l)) (changed_in n d t (g + 2 ^ l) (d - (g + 2 ^ l))) in
      rw (e.1, length-append, s) (omega arith)

  pub walk_size : length (walk p d) ≤ ones d + 2 * length (changed_to n d t d) * lg d
  unfolding walk
  walk_size =
      let z : d - 0 ≡ d = omega arith in
      let a = laid_size 0 (maximal d) (maximal_laid d G.table.some) in
      let b = rw z at a in
      omega (arith, maximal_ones d G.table.some)
