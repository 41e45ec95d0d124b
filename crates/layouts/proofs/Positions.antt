-- Where values stand in the book: the position of a name indexes the chains.
use mathlib.Core.{Path.◌≡◌, Path.refl, Path.sym, Path.ap, Path.◌∙◌, Logic.inl, Logic.inr, Bool.Bool}
use mathlib.Core.{Bool.true, Bool.false, Bool.cond, List.List, List.[], List.◌∷◌, List.◌++◌, List.map}
use Prim.Native.Nat.{ℕ, zero, suc, ◌+◌, ◌-◌, ◌*◌, ◌/◌, ◌%◌, ◌^◌, ◌≤◌, ◌<◌}
use native.Mathlib.{Nat.pow-succ', Nat.div-add-mod', Nat.zero-add, Decide.dec_le, Omega.arith}
use lib.{Arith.digits_mod, Pow.pow_pos, Seq.get_or-append-add}
use lib.ListN.{length, get_or, length-append, length-map, get_or-append, get_or-map}
use borrow.Author.Tests.{eqb-true, eq-eqb}
use Rattle.lists.specs.Lists.{◌among◌, up_from, keep}
use Rattle.lists.proofs.Laws.{split, true_or_false, up_from_mem, up_from_bounds, mem_keep, length-up_from}
use Rattle.layouts.specs.Layouts.{divides, lg, Name, black, tile, tree, covered_days, levels, stores_black_of_tree, names_of_day, names_through, chains}
use Rattle.layouts.specs.Private.{position}
use Rattle.layouts.proofs.{Coverage.divisor_le, Coverage.names_through_suc, Coverage.names_through_add, Counts.below_pow}

-- ---- the numbers that pass a test are the first ones, where each number below one that passes does

-- and none from one on that does not
keep_none : (p : ℕ → Bool) → ((l : ℕ) → p (suc l) ≡ true → p l ≡ true) → (i k : ℕ) → p i ≡ false → keep p (up_from i k) ≡ []
keep_none p down i zero e = refl
keep_none p down i (suc k) e = rw e (elim (split (p (suc i))) [ inl h ↦ absurd (true_or_false (down i h) e) | inr h ↦ keep_none p down (suc i) k h ])

keep_first : (p : ℕ → Bool) → ((l : ℕ) → p (suc l) ≡ true → p l ≡ true) → (i k : ℕ) → keep p (up_from i k) ≡ up_from i (length (keep p (up_from i k)))
keep_first p down i zero = refl
keep_first p down i (suc k) = elim (split (p i)) [
  | inl e ↦ rw e (ap (λ r. i ∷ r) (keep_first p down (suc i) k))
  | inr e ↦ rw (keep_none p down i (suc k) e)
]

-- a number that 2^(l + 1) divides, 2^l divides
pub divides_half : (l g : ℕ) → divides (2 ^ suc l) g ≡ true → divides (2 ^ l) g ≡ true
divides_half l g e =
    let z = eqb-true (g % 2 ^ suc l) 0 e in
    let d = div-add-mod' g (2 ^ suc l) in
    let m : g / 2 ^ suc l * 2 ^ suc l ≡ g / 2 ^ suc l * 2 * 2 ^ l = rw (pow-succ' 2 l) (omega arith) in
    let w : g ≡ g / 2 ^ suc l * 2 * 2 ^ l + 0 = omega arith in
    eq-eqb (g % 2 ^ l) 0 (ap (λ x. x % 2 ^ l) w ∙ digits_mod (g / 2 ^ suc l * 2) (pow_pos l))

-- and so with any lower power
pub divides_below : (l m g : ℕ) → l ≤ m → divides (2 ^ m) g ≡ true → divides (2 ^ l) g ≡ true
divides_below l zero g h e = let z : l ≡ 0 = omega arith in rw z e
divides_below l (suc m) g h e = elim (dec_le l m) [
  | yes k ↦ divides_below l m g k (divides_half m g e)
  | no k ↦ let z : l ≡ suc m = omega arith in rw z e
]

-- the levels at a day are 0, 1 and so on
pub levels_run : (g : ℕ) → levels g ≡ up_from 0 (length (levels g))
levels_run g = keep_first (λ l. divides (2 ^ l) g) (λ l e. divides_half l g e) 0 g

-- ---- the names at a day, by their place

pub get_d_up_from : (i k j d : ℕ) → j < k → get_or (up_from i k) j d ≡ i + j
get_d_up_from i zero j d l = absurd (omega arith)
get_d_up_from i (suc k) zero d l = omega arith
get_d_up_from i (suc k) (suc j) d l = let r = get_d_up_from (suc i) k j d (omega arith) in omega arith

-- the place of a name among the values of its day goes over to the book
pub in_day : (s n g d i : ℕ) (z : Name) → g < d → i < length (names_of_day s n (suc g)) → get_or (names_through s n d) (length (names_through s n g) + i) z ≡ get_or (names_of_day s n (suc g)) i z
in_day s n g d i z l h =
    let r = names_through_add s n (suc g) (d - suc g) in
    let q : d ≡ suc g + (d - suc g) = omega arith in
    let b : length (names_through s n g) + i < length (names_through s n (suc g)) = rw (names_through_suc s n g, length-append) (omega arith) in
    ap (λ x. get_or x (length (names_through s n g) + i) z) (ap (names_through s n) q ∙ r.1) ∙ get_or-append (names_through s n (suc g)) r.0 z (length (names_through s n g) + i) b ∙
    rw (names_through_suc s n g) (get_or-append-add (names_through s n g) (names_of_day s n (suc g)) i z)

pub get_d_map_in : {A : Type 0} (f : ℕ → A) (l : List ℕ) (i d : ℕ) (z : A) → i < length l → get_or (map f l) i z ≡ f (get_or l i d)
get_d_map_in f [] i d z h = absurd (omega arith)
get_d_map_in f (x ∷ xs) zero d z h = refl
get_d_map_in f (x ∷ xs) (suc i) d z h = get_d_map_in f xs i d z (omega arith)

pub to_chains : (s n d p : ℕ) (z x : Name) → covered_days n z ≡ [] → get_or (names_through s n d) p z ≡ x → get_or (chains s n d) p [] ≡ covered_days n x
unfolding chains
to_chains s n d p z x e h =
    ap (λ (r : List ℕ). get_or (map (covered_days n) (names_through s n d)) p r) (sym e) ∙ get_or-map (covered_days n) (names_through s n d) p z ∙ ap (covered_days n) h

-- ---- tile and tree

-- the tree's level l ends at g exactly if 2^l divides g
pub level_in : (l g : ℕ) → 1 ≤ g → divides (2 ^ l) g ≡ true → l < length (levels g)
level_in l g p e =
    let b : 2 ^ l ≤ g = divisor_le (2 ^ l) g p e in
    let w = below_pow l in
    let m : l among levels g = mem_keep (λ x. divides (2 ^ x) g) (up_from 0 g) l (up_from_mem 0 g l (omega arith) (omega arith)) e in
    let k = up_from_bounds 0 (length (levels g)) l (rw (levels_run g) at m) in
    omega arith

tile_place : (n g i : ℕ) (z : Name) → i ≤ lg n → get_or (map (λ (j : ℕ). tile j g) (up_from 0 (suc (lg n))) ++ (black g ∷ [])) i z ≡ tile i g
tile_place n g i z l =
    let c : length (map (λ (j : ℕ). tile j g) (up_from 0 (suc (lg n)))) ≡ suc (lg n) = length-map (up_from 0 (suc (lg n))) (λ (j : ℕ). tile j g) ∙ length-up_from 0 (suc (lg n)) in
    get_or-append (map (λ (j : ℕ). tile j g) (up_from 0 (suc (lg n)))) (black g ∷ []) z i (omega arith) ∙
    get_d_map_in (λ (j : ℕ). tile j g) (up_from 0 (suc (lg n))) i 0 z (rw (length-up_from 0 (suc (lg n))) (omega arith)) ∙
    ap (λ (j : ℕ). tile j g) (get_d_up_from 0 (suc (lg n)) i 0 (omega arith) ∙ zero-add i)

tree_place : (n g l : ℕ) (z : Name) → l < length (levels g) → get_or (names_of_day 3 n g) l z ≡ tree l g
tree_place n g l z h =
    get_or-append (map (λ (j : ℕ). tree j g) (levels g)) (cond (stores_black_of_tree n g) (black g ∷ []) []) z l (rw length-map h) ∙
    get_d_map_in (λ (j : ℕ). tree j g) (levels g) l 0 z h ∙
    ap (λ (j : ℕ). tree j g) (ap (λ (r : List ℕ). get_or r l 0) (levels_run g) ∙ get_d_up_from 0 (length (levels g)) l 0 h ∙ zero-add l)

-- c(i) of the tile that ends at g
pub tile_position : (n g i d : ℕ) → 1 ≤ g → g ≤ d → divides n g ≡ true → i ≤ lg n → get_or (chains 2 n d) (position 2 n (tile i g)) [] ≡ covered_days n (tile i g)
tile_position n zero i d p l e h = absurd (omega arith)
tile_position n (suc g) i d p l e h =
    to_chains 2 n d (length (names_through 2 n g) + i) (black 0) (tile i (suc g)) refl
    (in_day 2 n g d i (black 0) (omega arith) (rw e (rw (length-append, length-map, length-up_from) (omega arith))) ∙ rw e (tile_place n (suc g) i (black 0) h))

-- the tree's level l that ends at g
pub tree_position : (n g l d : ℕ) → 1 ≤ g → g ≤ d → divides (2 ^ l) g ≡ true → get_or (chains 3 n d) (position 3 n (tree l g)) [] ≡ covered_days n (tree l g)
tree_position n zero l d p le e = absurd (omega arith)
tree_position n (suc g) l d p le e =
    let h = level_in l (suc g) (omega arith) e in
    to_chains 3 n d (length (names_through 3 n g) + l) (black 0) (tree l (suc g)) refl
    (in_day 3 n g d l (black 0) (omega arith) (rw (length-append, length-map) (omega arith)) ∙ tree_place n (suc g) l (black 0) h)
