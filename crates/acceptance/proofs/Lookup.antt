-- A table by names: a set gives a table exactly if each value, looked up by its name, is what the set says of its chain.
use mathlib.Core.{Path.◌≡◌, Path.refl, Path.sym, Path.ap, Path.◌∙◌, Logic.◌⊎◌, Logic.inl, Logic.inr}
use mathlib.Core.Bool.{Bool, true, false, not, ◌&&◌, cond}
use mathlib.Core.List.Memᴰ
use mathlib.Core.List.{List, [], ◌∷◌, ◌++◌, map, flat_map, map-append, map-map, append-nil}
use Prim.Native.Nat.{ℕ, zero, suc, pred, ◌+◌, ◌^◌, ◌≤◌, ◌<◌}
use native.Mathlib.{Nat.zero-add, Nat.add-zero, Omega.arith}
use lib.{Dec.eqb, ListN.length, ListN.get_or, ListN.length-append, ListN.length-map}
use Rattle.lists.specs.Lists.{◌among◌, up_from}
use Rattle.evidence.specs.Evidence.{Within, meets, set_outcome, table_of, Gives}
use Rattle.lists.proofs.Laws.{split, true_or_false, up_from_mem, up_from_bounds, mem_keep, map_same, length-up_from, up_from-append}
use Rattle.layouts.specs.Layouts.{divides, lg, Name, black, tile, tree, last_days, covered_days, levels, stored_once, names_of_day, names_through, chains}
use Rattle.layouts.specs.Private.{position}
use Rattle.layouts.proofs.Coverage.{divisor_le, of_day_1, of_day_2, of_day_3, names_through_suc, names_through_at, names_through_in}
use Rattle.layouts.proofs.{Counts.below_pow, Positions.levels_run}
use Rattle.acceptance.specs.Private.{Bits, passes}
use Rattle.acceptance.proofs.BlackLaws.{black_position}

-- ---- the positions of the names in book order are 0, 1 and so on

map_add : (b i k : ℕ) → map (λ x. b + x) (up_from i k) ≡ up_from (b + i) k
map_add b i zero = refl
map_add b i (suc k) = let e : b + suc i ≡ suc (b + i) = omega arith in rw (map_add b (suc i) k, e)

-- a day's values: k that are counted from the day's first place on, and then perhaps black
run_then : (s n g k : ℕ) (f : ℕ → Name) (b : Bool) → ((i : ℕ) → position s n (f i) ≡ length (names_through s n g) + i) →
    names_of_day s n (suc g) ≡ map f (up_from 0 k) ++ cond b (black (suc g) ∷ []) [] →
    map (position s n) (names_of_day s n (suc g)) ≡ up_from (length (names_through s n g)) (length (names_of_day s n (suc g)))
run_then s n g k f b h e =
    ap (map (position s n)) e ∙ map-append (position s n) (map f (up_from 0 k)) (cond b (black (suc g) ∷ []) []) ∙
    ap (λ r. r ++ map (position s n) (cond b (black (suc g) ∷ []) [])) front ∙ back b e
  where
    a : ℕ
    a = length (names_through s n g)

    front : map (position s n) (map f (up_from 0 k)) ≡ up_from a k
    front = map-map (position s n) f (up_from 0 k) ∙ map_same (λ i. position s n (f i)) (λ i. a + i) (up_from 0 k) (λ i m. h i) ∙ map_add a 0 k ∙ rw add-zero

    total : length (names_through s n (suc g)) ≡ a + length (names_of_day s n (suc g))
    total = ap length (names_through_suc s n g) ∙ length-append (names_through s n g) (names_of_day s n (suc g))

    back : (c : Bool) → names_of_day s n (suc g) ≡ map f (up_from 0 k) ++ cond c (black (suc g) ∷ []) [] →
        up_from a k ++ map (position s n) (cond c (black (suc g) ∷ []) []) ≡ up_from a (length (names_of_day s n (suc g)))
    back true q =
        let l : length (names_of_day s n (suc g)) ≡ k + 1 = ap length q ∙ rw (length-append, length-map, length-up_from) in
        let p : pred (length (names_through s n (suc g))) ≡ a + k = omega (arith, total) in
        sym (ap (up_from a) l ∙ up_from-append a k 1 ∙ ap (λ x. up_from a k ++ (x ∷ [])) (sym p))
    back false q =
        let l : length (names_of_day s n (suc g)) ≡ k + 0 = ap length q ∙ rw (length-append, length-map, length-up_from) in
        append-nil (up_from a k) ∙ ap (up_from a) (sym (l ∙ add-zero k))

day_positions : (s n g : ℕ) → map (position s n) (names_of_day s n (suc g)) ≡ up_from (length (names_through s n g)) (length (names_of_day s n (suc g)))
day_positions zero n g = refl
day_positions (suc zero) n g = run_then 1 n g 0 (λ i. tile i (suc g)) (divides n (suc g)) (λ i. refl) refl
day_positions (suc (suc zero)) n g = elim (split (divides n (suc g))) [ inl e ↦ run_then 2 n g (suc (lg n)) (λ i. tile i (suc g)) true (λ i. refl) (rw e) | inr e ↦ rw e ]
day_positions (suc (suc (suc zero))) n g =
    run_then 3 n g (length (levels (suc g))) (λ l. tree l (suc g)) (divides n (suc g) && not (stored_once (suc g))) (λ i. refl)
    (ap (λ (r : List ℕ). map (λ (l : ℕ). tree l (suc g)) r ++ cond (divides n (suc g) && not (stored_once (suc g))) (black (suc g) ∷ []) []) (levels_run (suc g)))
day_positions (suc (suc (suc (suc s)))) n g = refl

positions : (s n d : ℕ) → map (position s n) (names_through s n d) ≡ up_from 0 (length (names_through s n d))
unfolding names_through flat_map
positions s n zero = refl
positions s n (suc d) =
    ap (map (position s n)) (names_through_suc s n d) ∙ map-append (position s n) (names_through s n d) (names_of_day s n (suc d)) ∙
    ap (λ (r : List ℕ). r ++ map (position s n) (names_of_day s n (suc d))) (positions s n d) ∙
    ap (λ (r : List ℕ). up_from 0 (length (names_through s n d)) ++ r)
    (day_positions s n d ∙ ap (λ (x : ℕ). up_from x (length (names_of_day s n (suc d)))) (sym (zero-add (length (names_through s n d))))) ∙
    sym (up_from-append 0 (length (names_through s n d)) (length (names_of_day s n (suc d)))) ∙
    ap (up_from 0) (sym (ap length (names_through_suc s n d) ∙ length-append (names_through s n d) (names_of_day s n (suc d))))

pub position_bound : (s n d : ℕ) (x : Name) → x among names_through s n d → position s n x < length (chains s n d)
unfolding chains
position_bound s n d x m =
    let k : position s n x among up_from 0 (length (names_through s n d)) = rw (positions s n d) at (Memᴰ.map (position s n) m) in
    let b = up_from_bounds 0 (length (names_through s n d)) (position s n x) k in
    rw length-map (omega arith)

-- ---- a list, looked up

list_shift : (i k : ℕ) (x : ℕ) (xs : List ℕ) → map (λ p. get_or (x ∷ xs) p 0) (up_from (suc i) k) ≡ map (λ p. get_or xs p 0) (up_from i k)
list_shift i zero x xs = refl
list_shift i (suc k) x xs = ap (λ r. get_or xs i 0 ∷ r) (list_shift (suc i) k x xs)

list_at : (t : List ℕ) → map (λ p. get_or t p 0) (up_from 0 (length t)) ≡ t
list_at [] = refl
list_at (x ∷ xs) = ap (λ r. x ∷ r) (list_shift 0 (length xs) x xs ∙ list_at xs)

table_at : (s n d : ℕ) (t : List ℕ) → length t ≡ length (names_through s n d) → t ≡ map (λ (x : Name). get_or t (position s n x) 0) (names_through s n d)
table_at s n d t e =
    sym (list_at t) ∙ ap (λ (k : ℕ). map (λ (p : ℕ). get_or t p 0) (up_from 0 k)) e ∙ ap (map (λ (p : ℕ). get_or t p 0)) (sym (positions s n d)) ∙
    map-map (λ (p : ℕ). get_or t p 0) (position s n) (names_through s n d)

map_agree : {A : Type 0} (f g : A → ℕ) {x : A} {xs : List A} → x among xs → map f xs ≡ map g xs → f x ≡ g x
map_agree f g (Memᴰ.head {x = y} {xs = ys} e) h = let q : f y ≡ g y = cc in ap f e ∙ q ∙ ap g (sym e)
map_agree f g (Memᴰ.tail {x = y} {xs = ys} m) h = let q : map f ys ≡ map g ys = cc in map_agree f g m q

-- ---- gives, by names

passes_of : (s n : ℕ) (t S : List ℕ) (x : Name) (c : List ℕ) → get_or t (position s n x) 0 ≡ set_outcome S c → passes s n t x ≡ not (meets S c)
unfolding passes
passes_of s n t S x c e = rw e (elim (meets S c) as (λ b. eqb (cond b 0 1) 1 ≡ not b) [ true ↦ refl | false ↦ refl ])

of_passes : (s n : ℕ) (t S : List ℕ) (x : Name) (c : List ℕ) → Bits t → passes s n t x ≡ not (meets S c) → get_or t (position s n x) 0 ≡ set_outcome S c
unfolding passes
of_passes s n t S x c b e = go (b (position s n x)) (meets S c) e
  where
    go : (get_or t (position s n x) 0 ≡ 0) ⊎ (get_or t (position s n x) 0 ≡ 1) → (m : Bool) → eqb (get_or t (position s n x) 0) 1 ≡ not m → get_or t (position s n x) 0 ≡ cond m 0 1
    go (inl z) true q = z
    go (inr z) false q = z
    go (inl z) false q = absurd (true_or_false q (rw z))
    go (inr z) true q = absurd (true_or_false (rw z) q)

-- of a table that S gives, each value passes exactly if S does not meet its chain
pub gives_passes : (s n d : ℕ) (S t : List ℕ) → Gives (chains s n d) d S t → (x : Name) → x among names_through s n d → passes s n t x ≡ not (meets S (covered_days n x))
unfolding chains table_of
gives_passes s n d S t h x m =
    let e : map (set_outcome S) (map (covered_days n) (names_through s n d)) ≡ t = h.gives in
    let f : map (λ (y : Name). set_outcome S (covered_days n y)) (names_through s n d) ≡ t = sym (map-map (set_outcome S) (covered_days n) (names_through s n d)) ∙ e in
    let l : length t ≡ length (names_through s n d) = ap length (sym f) ∙ length-map (names_through s n d) (λ (y : Name). set_outcome S (covered_days n y)) in
    passes_of s n t S x (covered_days n x)
    (map_agree (λ (y : Name). get_or t (position s n y) 0) (λ (y : Name). set_outcome S (covered_days n y)) m (sym (table_at s n d t l) ∙ sym f))

-- and so it is of black, also where it is stored once
pub gives_black : (s n d : ℕ) (S t : List ℕ) → Gives (chains s n d) d S t → 1 ≤ s → s ≤ 3 → (g : ℕ) → 1 ≤ g → g ≤ d → divides n g ≡ true → passes s n t (black g) ≡ not (meets S (last_days g g))
unfolding table_of
gives_black s n d S t h a b g p l e =
    let r = black_position s n g d a b p l e in
    passes_of s n t S (black g) (last_days g g)
    (ap (λ y. get_or y (position s n (black g)) 0) (sym h.gives) ∙ at (chains s n d) (position s n (black g)) r.0 ∙ ap (set_outcome S) r.1)
  where
    at : (cs : List (List ℕ)) (i : ℕ) → i < length cs → get_or (map (set_outcome S) cs) i 0 ≡ set_outcome S (get_or cs i [])
    at [] i k = absurd (omega arith)
    at (c ∷ cs) zero k = refl
    at (c ∷ cs) (suc i) k = at cs i (omega arith)

-- a table of bits is given if each value is as the set says
pub passes_gives : (s n d : ℕ) (S t : List ℕ) → Bits t → length t ≡ length (chains s n d) → Within d S →
    ((x : Name) → x among names_through s n d → passes s n t x ≡ not (meets S (covered_days n x))) → Gives (chains s n d) d S t
unfolding chains table_of
passes_gives s n d S t b e w f =
    record {
      within = w;
      gives = map-map (set_outcome S) (covered_days n) (names_through s n d) ∙
          sym (table_at s n d t (e ∙ length-map (names_through s n d) (covered_days n)) ∙
          map_same (λ (x : Name). get_or t (position s n x) 0) (λ (x : Name). set_outcome S (covered_days n x)) (names_through s n d) (λ x m. of_passes s n t S x (covered_days n x) b (f x m)));
    }

-- ---- which names there are

pub black_named : (s n d g : ℕ) → 1 ≤ g → g ≤ d → divides n g ≡ true → black g among names_of_day s n g → black g among names_through s n d
black_named s n d g p l e m = names_through_in s n d (up_from_mem 1 d g p (omega arith)) (black g) m

pub tile_named : (n d g i : ℕ) → 1 ≤ g → g ≤ d → divides n g ≡ true → i ≤ lg n → tile i g among names_through 2 n d
tile_named n d g i p l e h =
    names_through_in 2 n d (up_from_mem 1 d g p (omega arith)) (tile i g)
    (rw e (Memᴰ.append_left (black g ∷ []) (Memᴰ.map (λ (j : ℕ). tile j g) (up_from_mem 0 (suc (lg n)) i (omega arith) (omega arith)))))

pub tree_named : (n d g l : ℕ) → 1 ≤ g → g ≤ d → divides (2 ^ l) g ≡ true → tree l g among names_through 3 n d
tree_named n d g l p h e =
    let b : 2 ^ l ≤ g = divisor_le (2 ^ l) g p e in
    let w = below_pow l in
    names_through_in 3 n d (up_from_mem 1 d g p (omega arith)) (tree l g)
    (Memᴰ.append_left (cond (divides n g && not (stored_once g)) (black g ∷ []) [])
    (Memᴰ.map (λ (j : ℕ). tree j g) (mem_keep (λ x. divides (2 ^ x) g) (up_from 0 g) l (up_from_mem 0 g l (omega arith) (omega arith)) e)))

-- what holds of each name holds of all
pub record Block (n d g : ℕ) : Type 0 where
  pub some : 1 ≤ g
  pub most : g ≤ d
  pub whole : divides n g ≡ true

pub each_1 : (P : Name → Type 0) (n d : ℕ) → ((g : ℕ) → Block n d g → P (black g)) → (x : Name) → x among names_through 1 n d → P x
each_1 P n d f x m =
    let r = names_through_at 1 n d x m in
    let b = up_from_bounds 1 d r.0 r.1 in
    of_day_1 P n r.0 (λ w. f r.0 (record { some = b.0; most = omega arith; whole = w })) x r.2

pub each_2 : (P : Name → Type 0) (n d : ℕ) → ((g : ℕ) → Block n d g → P (black g)) → ((g i : ℕ) → Block n d g → i ≤ lg n → P (tile i g)) → (x : Name) → x among names_through 2 n d → P x
each_2 P n d f h x m =
    let r = names_through_at 2 n d x m in
    let b = up_from_bounds 1 d r.0 r.1 in
    of_day_2 P n r.0 (λ w. f r.0 (record { some = b.0; most = omega arith; whole = w }))
    (λ i w. h r.0 i (record { some = b.0; most = omega arith; whole = w })) x r.2

pub each_3 : (P : Name → Type 0) (n d : ℕ) → ((g : ℕ) → Block n d g → P (black g)) → ((g l : ℕ) → Block (2 ^ l) d g → P (tree l g)) → (x : Name) → x among names_through 3 n d → P x
each_3 P n d f h x m =
    let r = names_through_at 3 n d x m in
    let b = up_from_bounds 1 d r.0 r.1 in
    of_day_3 P n r.0 (λ w. f r.0 (record { some = b.0; most = omega arith; whole = w }))
    (λ l w. h r.0 l (record { some = b.0; most = omega arith; whole = w })) x r.2
