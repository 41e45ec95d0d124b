-- The maximal chains are chains of the book, cover each day once, and lie in no other chain of the tree; each chain that is
-- looked at is one of the tree and of the book.
use mathlib.Core.Path.{◌≡◌, refl, ap, subst, ◌∙◌}
use mathlib.Core.Bool.{Bool, true, false, cond}
use mathlib.Core.Logic.{◌⊎◌, inl, inr}
use mathlib.Core.List.Memᴰ
use mathlib.Core.List.{List, [], ◌∷◌, ◌++◌, flat_map}
use Prim.Native.Nat.{ℕ, zero, suc, ◌+◌, ◌-◌, ◌/◌, ◌%◌, ◌^◌, ◌≤◌, ◌<◌}
use native.Mathlib.Nat.{le-div_iff_mul-le, mul-le-mul_right, pow-succ'}
use native.Mathlib.{Decide.dec_lt, Omega.arith}
use lib.{Dec.eqb, ListN.take, ListN.drop, ListN.take-append-drop, Pow.pow_pos, Pow.pow-lt}
use borrow.Author.Tests.{eqb-true}
use Rattle.lists.specs.Lists.{◌among◌}
use Rattle.lists.proofs.Laws.{split}
use Rattle.layouts.specs.Layouts.{lg, Name, black, tile, tree, covered_days, names_through}
use Rattle.layouts.proofs.{Coverage.divisor_le, Positions.divides_below}
use Rattle.acceptance.proofs.{Runs.div_whole, Runs.last_days_mem, Runs.last_days_bounds, Lookup.Block, Lookup.tree_named, Lookup.each_3}
use Rattle.searching.specs.Searching.{maximal_below, maximal, dealt_with, fully, looks}
use Rattle.searching.specs.Private.{Fits, Laid}
use Rattle.searching.specs.Statements.{TreeInBook, MaximalTold}
use Rattle.searching.proofs.WalkLaws.{looks_first}
use Rattle.searching.proofs.Frontier.{end_whole, fits_left, fits_right, before, before_one, maximal_laid, laid_days}
use Rattle.searching.proofs.Bounds.{maximal_ones}

-- ---- in the book

in_half : (b : Bool) (s t : List Name) {x : Name} → x among cond b [] (s ++ t) → (x among s) ⊎ (x among t)
in_half true s t m = elim m [ ]
in_half false s t m = Memᴰ.append_cases s m

module _ (n d : ℕ) where
  fits_named : (g l : ℕ) → Fits d g l → {x : Name} → x ≡ tree l (g + 2 ^ l) → TreeInBook n d x
  fits_named g l f e =
      let w = pow_pos l in
      (l, g + 2 ^ l, e, rw e (tree_named n d (g + 2 ^ l) l (omega arith) f.room (end_whole g l f.whole)))

  laid_named : (g : ℕ) (due : List Name) → Laid d g due → (x : Name) → x among due → TreeInBook n d x
  laid_named g [] e x m = elim m [ ]
  laid_named g (y ∷ due) e x m = elim (Memᴰ.cases_cons m) [
    | inl q ↦ fits_named g e.0 e.2.fits (q ∙ e.1)
    | inr k ↦ laid_named (g + 2 ^ e.0) due e.3 x k
  ]

  -- and so is each chain that the walk has
  module _ (p : ℕ → ℕ → Bool) where
    dealt_named : (l g : ℕ) → Fits d g l → (x : Name) → x among dealt_with p l (g + 2 ^ l) → TreeInBook n d x
    dealt_named zero g f x m = fits_named g 0 f (Memᴰ.eq_of_singleton m)
    dealt_named (suc l) g f x m =
        let w = pow-succ' 2 l in
        let h : g + 2 ^ suc l - 2 ^ l ≡ g + 2 ^ l = omega arith in
        let r : g + 2 ^ suc l ≡ g + 2 ^ l + 2 ^ l = omega arith in
        elim (Memᴰ.cases_cons m) [
          | inl q ↦ fits_named g (suc l) f q
          | inr k ↦ elim (in_half (p (suc l) (g + 2 ^ suc l)) (dealt_with p l (g + 2 ^ suc l - 2 ^ l)) (dealt_with p l (g + 2 ^ suc l)) k) [
            | inl j ↦ dealt_named l g (fits_left d g l f) x (subst (λ (y : ℕ). x among dealt_with p l y) h j)
            | inr j ↦ dealt_named l (g + 2 ^ l) (fits_right d g l f) x (subst (λ (y : ℕ). x among dealt_with p l y) r j)
          ]
        ]

    laid_walk : (g : ℕ) (due : List Name) → Laid d g due → (x : Name) → x among flat_map (fully p) due → TreeInBook n d x
    unfolding flat_map
    laid_walk g [] e x m = elim m [ ]
    laid_walk g (y ∷ due) e x m =
        let i : x among (dealt_with p e.0 (g + 2 ^ e.0) ++ flat_map (fully p) due) = subst (λ (z : Name). x among (fully p z ++ flat_map (fully p) due)) e.1 m in
        elim (Memᴰ.append_cases (dealt_with p e.0 (g + 2 ^ e.0)) i) [
          | inl j ↦ dealt_named e.0 g e.2.fits x j
          | inr j ↦ laid_walk (g + 2 ^ e.0) due e.3 x j
        ]

    pub looked_named : (k : ℕ) → 1 ≤ d → (x : Name) → x among (looks p k (maximal d)).looked → TreeInBook n d x
    looked_named k s x m =
        let W = flat_map (fully p) (maximal d) in
        let i : x among take k W = subst (λ (r : List Name). x among r) (looks_first p k (maximal d)) m in
        laid_walk 0 (maximal d) (maximal_laid d s) x (subst (λ (r : List Name). x among r) (take-append-drop k W) (Memᴰ.append_left (drop k W) i))

-- ---- a maximal chain by its bit

level_of : Name → ℕ
level_of (black g) = 0
level_of (tile i g) = 0
level_of (tree l g) = l

end_of : Name → ℕ
end_of (black g) = 0
end_of (tile i g) = 0
end_of (tree l g) = g

tree_same : (l g m h : ℕ) → tree l g ≡ tree m h → (l ≡ m) × (g ≡ h)
unfolding level_of end_of
tree_same l g m h e = (ap level_of e, ap end_of e)

maximal_at : (d k l g : ℕ) → tree l g among maximal_below d k → (d / 2 ^ l % 2 ≡ 1) × (g ≡ before d l)
maximal_at d zero l g m = elim m [ ]
maximal_at d (suc k) l g m = elim (split (eqb (d / 2 ^ k % 2) 1)) [
  | inl t ↦ let i : tree l g among (tree k (before d k) ∷ maximal_below d k) = rw t at m in
      elim (Memᴰ.cases_cons i) [
        | inl e ↦ let q = tree_same l g k (before d k) e in rw (q.0, q.1) (eqb-true (d / 2 ^ k % 2) 1 t, refl)
        | inr j ↦ maximal_at d k l g j
      ]
  | inr t ↦ maximal_at d k l g (rw t at m)
]

-- ---- no other chain of the tree covers it

Whole : ℕ → Name → Type 0
Whole d (black g) = Unit {0}
Whole d (tile i g) = Unit {0}
Whole d (tree l g) = Block (2 ^ l) d g

tree_whole : (n d l g : ℕ) → tree l g among names_through 3 n d → Block (2 ^ l) d g
unfolding Whole
tree_whole n d l g m = each_3 (Whole d) n d (λ h b. tt) (λ h k b. b) (tree l g) m

-- a chain of a higher level ends before it
ends_before : (d l m h : ℕ) → l < m → Block (2 ^ m) d h → h ≤ before d (suc l)
ends_before d l m h k b =
    let w = div_whole (2 ^ suc l) h (divides_below (suc l) m h k b.whole) in
    let q : h / 2 ^ suc l ≤ d / 2 ^ suc l = (le-div_iff_mul-le (pow_pos (suc l))).1 (omega (arith, b.most)) in
    let r = mul-le-mul_right (2 ^ suc l) q in
    omega arith

no_other : (n d l g m h : ℕ) → d / 2 ^ l % 2 ≡ 1 → g ≡ before d l → Block (2 ^ m) d h →
    ((x : ℕ) → x among covered_days n (tree l g) → x among covered_days n (tree m h)) → tree m h ≡ tree l g
no_other n d l g m h o e b c =
    let p = before_one d l o in
    let w = pow_pos l in
    let v = pow_pos m in
    let r : 2 ^ l ≤ g = omega arith in
    let s : 2 ^ m ≤ h = divisor_le (2 ^ m) h b.some b.whole in
    let last = last_days_bounds (2 ^ m) h g s (c g (last_days_mem (2 ^ l) g g r (omega arith) (omega arith))) in
    let first = last_days_bounds (2 ^ m) h (suc (g - 2 ^ l)) s (c (suc (g - 2 ^ l)) (last_days_mem (2 ^ l) g (suc (g - 2 ^ l)) r (omega arith) (omega arith))) in
    elim (dec_lt l m) [
      | yes k ↦ absurd (omega (arith, ends_before d l m h k b, last.1))
      | no k ↦ elim (dec_lt m l) [
        | yes j ↦ let z : 2 ^ m < 2 ^ l = pow-lt j in absurd (omega (arith, first.0, last.1))
        | no j ↦ let q : m ≡ l = omega arith in
            let u : 2 ^ m ≡ 2 ^ l = ap (λ x. 2 ^ x) q in
            let z : h ≡ g = omega (arith, first.0, last.1) in
            rw (q, z)
      ]
    ]

pub maximal_told : MaximalTold
unfolding maximal
maximal_told n d s =
    record {
      in_book = laid_named n d 0 (maximal d) (maximal_laid d s);
      days_once = let z : d - 0 ≡ d = omega arith in laid_days n d 0 (maximal d) (maximal_laid d s) ∙ rw z;
      in_no_other = λ l g m h i j c. let r = maximal_at d (suc (lg d)) l g i in no_other n d l g m h r.0 r.1 (tree_whole n d m h j) c;
      counted = maximal_ones d s;
    }
