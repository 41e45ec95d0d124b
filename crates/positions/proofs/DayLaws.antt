-- The values of a day, by their place; and that the numbers of a value lead back to its day and its place.
use mathlib.Core.Path.{◌≡◌, refl, ap, ◌∙◌}
use mathlib.Core.Bool.{Bool, true, false, cond}
use mathlib.Core.Logic.{◌⊎◌, inl, inr}
use mathlib.Core.List.{List, [], ◌∷◌, ◌++◌, map}
use Prim.Native.Nat.{ℕ, suc, pred, ◌+◌, ◌-◌, ◌^◌, ◌≤◌, ◌<◌}
use native.Mathlib.{Nat.zero-add, Decide.dec_lt, Omega.arith}
use lib.ListN.{length, get_or, length-append, length-map, get_or-append}
use lib.Seq.{get_or-append-add}
use borrow.Author.Tests.{le-leb}
use Rattle.lists.specs.Lists.{◌among◌, up_from}
use Rattle.lists.proofs.Laws.{split, up_from_mem, keep_mem, length-up_from}
use Rattle.layouts.specs.Layouts.{allowed_scheme, allowed_n, divides, lg, Name, black, tile, tree, levels, stores_black_of_tree, names_of_day}
use Rattle.layouts.proofs.AllowedLaws.{allowed_scheme_is}
use Rattle.layouts.proofs.Coverage.{by_scheme, divisor_le}
use Rattle.layouts.proofs.Positions.{levels_run, get_d_up_from, get_d_map_in}
use Rattle.positions.specs.Positions.{kind_number, chain_of}
use Rattle.positions.specs.Private.{black_place, closing_day, place_in_day}
use Rattle.positions.proofs.Spans.{black_days, tile_first, days_of_tree}

-- ---- a run of values, then perhaps black

module _ (k i g : ℕ) (f : ℕ → Name) where
  run : List Name
  run = map f (up_from 0 k)

  length_run : length run ≡ k
  unfolding run
  length_run = rw (length-map, length-up_from)

  run_end : (b : Bool) (names : List Name) → names ≡ run ++ cond b (black g ∷ []) [] → i < length names → k ≤ i →
      (i ≡ k) × (b ≡ true) × (get_or names i (black 0) ≡ black g)
  run_end true names e l m =
      let n : length names ≡ k + 1 = ap length e ∙ length-append run (black g ∷ []) ∙ ap (λ (x : ℕ). x + 1) length_run in
      let q : i ≡ length run + 0 = omega (arith, length_run) in
      let z : get_or (run ++ (black g ∷ [])) (length run + 0) (black 0) ≡ black g = get_or-append-add run (black g ∷ []) 0 (black 0) in
      (omega arith, refl, ap (λ (r : List Name). get_or r i (black 0)) e ∙ ap (λ (x : ℕ). get_or (run ++ (black g ∷ [])) x (black 0)) q ∙ z)
  run_end false names e l m =
      let n : length names ≡ k + 0 = ap length e ∙ length-append run [] ∙ ap (λ (x : ℕ). x + 0) length_run in
      absurd (omega arith)

  run_at : (b : Bool) (names : List Name) → names ≡ run ++ cond b (black g ∷ []) [] → i < length names →
      ((i < k) × (get_or names i (black 0) ≡ f i)) ⊎ ((i ≡ k) × (b ≡ true) × (get_or names i (black 0) ≡ black g))
  unfolding run
  run_at b names e l = elim (dec_lt i k) [
    | yes h ↦ inl (
      h,
      ap (λ (r : List Name). get_or r i (black 0)) e ∙ get_or-append run (cond b (black g ∷ []) []) (black 0) i (omega (arith, length_run)) ∙
          get_d_map_in f (up_from 0 k) i 0 (black 0) (rw (length-up_from 0 k) h) ∙ ap f (get_d_up_from 0 k i 0 h ∙ zero-add i),
    )
    | no h ↦ inr (run_end b names e l (omega arith))
  ]

-- ---- scheme by scheme

-- of value i of day g: it is black; c(i); the tree's level i
pub record IsBlack (s n g i : ℕ) : Type 0 where
  pub place : i ≡ black_place s n g
  pub name : get_or (names_of_day s n g) i (black 0) ≡ black g

pub record IsTile (n g i : ℕ) : Type 0 where
  pub inside : i ≤ lg n
  pub whole : divides n g ≡ true
  pub name : get_or (names_of_day 2 n g) i (black 0) ≡ tile i g

pub record IsLevel (n g i : ℕ) : Type 0 where
  pub inside : i < length (levels g)
  pub whole : divides (2 ^ i) g ≡ true
  pub name : get_or (names_of_day 3 n g) i (black 0) ≡ tree i g

pub value_1 : (n g i : ℕ) → i < length (names_of_day 1 n g) → IsBlack 1 n g i
unfolding run
value_1 n g i l = elim (run_at 0 i g (λ j. tile j g) (divides n g) (names_of_day 1 n g) refl l) [
  | inl h ↦ absurd (omega (arith, h.0))
  | inr h ↦ record { place = h.0; name = h.2 }
]

pub value_2 : (n g i : ℕ) → i < length (names_of_day 2 n g) → IsTile n g i ⊎ IsBlack 2 n g i
unfolding run
value_2 n g i l = elim (split (divides n g)) [
  | inl e ↦ elim (run_at (suc (lg n)) i g (λ j. tile j g) true (names_of_day 2 n g) (rw e) l) [
    | inl h ↦ inl (record { inside = omega (arith, h.0); whole = e; name = h.1 })
    | inr h ↦ inr (record { place = h.0; name = h.2 })
  ]
  | inr e ↦ (let z : length (names_of_day 2 n g) ≡ 0 = rw e in absurd (omega arith))
]

-- the levels below the number of levels are those that end at g
level_whole : (g l : ℕ) → l < length (levels g) → divides (2 ^ l) g ≡ true
level_whole g l h =
    let m : l among levels g = rw (← (levels_run g)) at (up_from_mem 0 (length (levels g)) l (omega arith) (omega arith)) in
    (keep_mem (λ x. divides (2 ^ x) g) (up_from 0 g) l m).1

tree_run : (n g i : ℕ) → i < length (names_of_day 3 n g) → ((i < length (levels g)) × (get_or (names_of_day 3 n g) i (black 0) ≡ tree i g)) ⊎
    ((i ≡ length (levels g)) × (stores_black_of_tree n g ≡ true) × (get_or (names_of_day 3 n g) i (black 0) ≡ black g))
unfolding run
tree_run n g i l =
    run_at (length (levels g)) i g (λ j. tree j g) (stores_black_of_tree n g) (names_of_day 3 n g)
    (ap (λ (r : List ℕ). map (λ (j : ℕ). tree j g) r ++ cond (stores_black_of_tree n g) (black g ∷ []) []) (levels_run g)) l

pub value_3 : (n g i : ℕ) → i < length (names_of_day 3 n g) → IsLevel n g i ⊎ IsBlack 3 n g i
value_3 n g i l = elim (tree_run n g i l) [
  | inl h ↦ inl (record { inside = h.0; whole = level_whole g i h.0; name = h.1 })
  | inr h ↦ inr (record { place = h.0; name = h.2 })
]

-- a value behind the levels is black, stored
pub black_stored : (n g : ℕ) → length (levels g) < length (names_of_day 3 n g) → stores_black_of_tree n g ≡ true
black_stored n g l = elim (tree_run n g (length (levels g)) l) [ inl h ↦ absurd (omega (arith, h.0)) | inr h ↦ h.1 ]

pub levels_few : (g : ℕ) → 1 ≤ g → g ≤ 65536 → length (levels g) ≤ 17
levels_few g o m = elim (dec_lt 17 (length (levels g))) [
  | yes h ↦ let b : 2 ^ 17 ≤ g = divisor_le (2 ^ 17) g o (level_whole g 17 h) in absurd (omega arith)
  | no h ↦ omega arith
]

-- ---- back from its numbers

-- the numbers of a chain lead to day g and place i
pub record Leads (s n d g i : ℕ) (x : Name) : Type 0 where
  pub day : closing_day n d (kind_number (chain_of n x).kind) (chain_of n x).first (chain_of n x).last ≡ g
  pub place : place_in_day s n g (kind_number (chain_of n x).kind) (chain_of n x).index ≡ i

module _ (s n d g : ℕ) (allowed : allowed_n n ≡ true) (some : 1 ≤ g) (most : g ≤ d) where
  black_leads : Leads s n d g (black_place s n g) (black g)
  black_leads = let e = (black_days n g some).1 in record { day = rw (e, le-leb g d most); place = refl }

  tile_leads : (i : ℕ) → divides n g ≡ true → i ≤ lg n → Leads s n d g i (tile i g)
  tile_leads i w l =
      let b = divisor_le n g some w in
      let p : pred (suc (g - n) + n) ≡ g = omega arith in
      record { day = rw (tile_first n g allowed w some i l, p, le-leb g d most); place = refl }

  tree_leads : (l : ℕ) → divides (2 ^ l) g ≡ true → Leads s n d g l (tree l g)
  tree_leads l w = let e = (days_of_tree n g l some w).1 in record { day = rw (e, le-leb g d most); place = refl }

pub leads : (s n d g i : ℕ) → allowed_scheme s ≡ true → allowed_n n ≡ true → 1 ≤ g → g ≤ d → i < length (names_of_day s n g) →
    Leads s n d g i (get_or (names_of_day s n g) i (black 0))
leads s n d g i a e o m =
    let r = allowed_scheme_is s a in
    by_scheme (λ s. i < length (names_of_day s n g) → Leads s n d g i (get_or (names_of_day s n g) i (black 0)))
    (λ l. let v = value_1 n g i l in rw (v.name, v.place) (black_leads 1 n d g e o m))
    (λ l. elim (value_2 n g i l) [
      | inl v ↦ rw v.name (tile_leads 2 n d g e o m i v.whole v.inside)
      | inr v ↦ rw (v.name, v.place) (black_leads 2 n d g e o m)
    ])
    (λ l. elim (value_3 n g i l) [
      | inl v ↦ rw v.name (tree_leads 3 n d g e o m i v.whole)
      | inr v ↦ rw (v.name, v.place) (black_leads 3 n d g e o m)
    ])
    s r.0 r.1
