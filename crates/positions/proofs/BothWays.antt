-- Each call undoes the other, and 18 exactly where there is nothing to give.
use mathlib.Core.Path.{◌≡◌, refl, sym, ap, ◌∙◌}
use mathlib.Core.Bool.{true, not, ◌&&◌, cond}
use mathlib.Core.Logic.{inl, inr}
use mathlib.Core.List.Memᴰ
use mathlib.Core.List.{List, [], ◌∷◌, map}
use Prim.Native.Nat.{ℕ, suc, ◌-◌, ◌%◌, ◌^◌, ◌≤◌, ◌<◌}
use native.Mathlib.{Nat.mod_self, Decide.dec_lt, Omega.arith}
use lib.Pow.{pow_pos}
use lib.ListN.{length, get_or, get_or-map}
use lib.Dec.{leb}
use borrow.Author.Tests.{eq-eqb, leb-true, not-true}
use Rattle.lists.specs.Lists.{◌among◌, up_from, first_of, last_of}
use Rattle.lists.proofs.Laws.{split, true_or_false, and_both, up_from_mem, mem_keep}
use Rattle.layouts.specs.Layouts.{allowed_scheme, allowed_n, layout_tested, layout_refusal, value_count, chains, lg, Name, black, tile, tree, covered_days, divides, levels, stored_once, names_of_day, names_through}
use Rattle.std.specs.Prelude.{Result, Ok, Err}
use Rattle.refusals.specs.declared.Refusal.{Refusal}
use Rattle.refusals.specs.declared.Refusal.TheVariants as cause
use Rattle.refusals.proofs.TestLaws.{not_both, number_passed}
use Rattle.layouts.proofs.AllowedLaws.{layout_asks, values_counted}
use Rattle.layouts.proofs.Counts.{below_pow, power_of, lg_unique}
use Rattle.layouts.proofs.Coverage.{names_through_in}
use Rattle.positions.specs.declared.Kind.{Kind}
use Rattle.positions.specs.declared.Kind.TheVariants.{Black, Tile, Tree}
use Rattle.positions.specs.declared.Chain.{Chain}
use Rattle.positions.specs.Positions.{kind_number, chain_of, book_chains, numbers_of, book_numbers, first_place, located, placed}
use Rattle.positions.specs.Private.{day_within, closing_day}
use Rattle.positions.specs.Statements.{BothWays, TreeOnly}
use Rattle.positions.proofs.Spans.{days_of_tree}
use Rattle.positions.proofs.DayLaws.{black_stored}
use Rattle.positions.proofs.BookLaws.{numbers_length, first_at, first_in, in_first, found, only_place}
use Rattle.positions.proofs.StepLaws.{four}
use Rattle.positions.proofs.CallLaws.{located_beyond, located_at, placed_absent, placed_at}

-- ---- answers apart

chain_in : Result Chain Refusal → Chain → Chain
chain_in (Ok c) d = c
chain_in (Err r) d = d

place_in : Result ℕ Refusal → ℕ
place_in (Ok p) = suc p
place_in (Err r) = 0

-- ---- four numbers are a chain's alone

kind_same : (a b : Kind) → kind_number a ≡ kind_number b → a ≡ b
kind_same Black Black e = refl
kind_same Tile Tile e = refl
kind_same Tree Tree e = refl
kind_same Black Tile e = absurd (omega arith)
kind_same Black Tree e = absurd (omega arith)
kind_same Tile Black e = absurd (omega arith)
kind_same Tile Tree e = absurd (omega arith)
kind_same Tree Black e = absurd (omega arith)
kind_same Tree Tile e = absurd (omega arith)

chain_same : (a b : Chain) → numbers_of a ≡ numbers_of b → a ≡ b
chain_same a b e =
    let k = kind_same a.kind b.kind (ap (λ (x : List ℕ). get_or x 0 0) e) in
    let i : a.index ≡ b.index = ap (λ (x : List ℕ). get_or x 1 0) e in
    let f : a.first ≡ b.first = ap (λ (x : List ℕ). get_or x 2 0) e in
    let l : a.last ≡ b.last = ap (λ (x : List ℕ). get_or x 3 0) e in
    let q : four a.kind a.index a.first a.last ≡ four b.kind b.index b.first b.last = rw (k, i, f, l) in
    q

-- ---- as stated

module _ (s n f d : ℕ) (ok : layout_refusal s n f d ≡ 0) where
  told : layout_tested s n f d ≡ Ok tt
  told = number_passed (layout_tested s n f d) ok

  asks : (allowed_scheme s ≡ true) × (allowed_n n ≡ true) × (d ≤ 65536)
  asks = layout_asks s n f d told

  counted : value_count s n d ≡ length (chains s n d)
  counted = values_counted s n f d ok

  there : (p : ℕ) → p < value_count s n d → located s n f d p ≡ Ok (get_or (book_chains s n d) p (chain_of n (black 0)))
  there p l = sym (located_at s n f d told p (omega (arith, counted)))

  beyond : (p : ℕ) → value_count s n d ≤ p → located s n f d p ≡ Err cause.NotInBook
  beyond p l = sym (located_beyond s n f d told p refl (omega (arith, counted)))

  below_count : (p : ℕ) → located s n f d p ≡ Err cause.NotInBook → value_count s n d ≤ p
  below_count p e = elim (dec_lt p (value_count s n d)) [
    | yes l ↦ absurd (not_both (there p l) e)
    | no h ↦ omega arith
  ]

  numbers_at_lem : (p : ℕ) → get_or (book_numbers s n d) p (numbers_of (chain_of n (black 0))) ≡ numbers_of (get_or (book_chains s n d) p (chain_of n (black 0)))
  unfolding book_numbers
  numbers_at_lem p = get_or-map numbers_of (book_chains s n d) p (chain_of n (black 0))

  -- the chain that is given
  is_there_lem : (p : ℕ) (c : Chain) → located s n f d p ≡ Ok c → (p < value_count s n d) × (get_or (book_chains s n d) p (chain_of n (black 0)) ≡ c)
  unfolding chain_in
  is_there_lem p c e = elim (dec_lt p (value_count s n d)) [
    | yes l ↦ (l, ap (λ (a : Result Chain Refusal). chain_in a c) (sym (there p l) ∙ e))
    | no h ↦ absurd (not_both e (beyond p (omega arith)))
  ]

  its_days : (p : ℕ) (c : Chain) → located s n f d p ≡ Ok c →
      (c.first ≡ first_of (get_or (chains s n d) p [])) × (c.last ≡ last_of 0 (get_or (chains s n d) p []))
  unfolding book_chains chains
  its_days p c e =
      let x = get_or (names_through s n d) p (black 0) in
      let k : c ≡ chain_of n x = sym (is_there_lem p c e).1 ∙ get_or-map (chain_of n) (names_through s n d) p (black 0) in
      let q : get_or (map (covered_days n) (names_through s n d)) p [] ≡ covered_days n x = get_or-map (covered_days n) (names_through s n d) p (black 0) in
      rw (k, q) (by_days x)
    where
      by_days : (y : Name) → ((chain_of n y).first ≡ first_of (covered_days n y)) × ((chain_of n y).last ≡ last_of 0 (covered_days n y))
      by_days (black g) = (refl, refl)
      by_days (tile i g) = (refl, refl)
      by_days (tree l g) = (refl, refl)

  forth : (p : ℕ) (c : Chain) → located s n f d p ≡ Ok c → placed s n f d (numbers_of c) ≡ Ok p
  forth p c e =
      let k = is_there_lem p c e in
      let h : p < length (book_numbers s n d) = omega (arith, k.0, counted, numbers_length s n d) in
      let q = only_place s n d (kind_number c.kind) c.index c.first c.last asks.0 asks.1 p h (numbers_at_lem p ∙ ap numbers_of k.1) in
      sym (placed_at s n f d told (numbers_of c) (omega arith) (sym q))

  -- where four numbers have a place
  has_place : (numbers : List ℕ) (p : ℕ) → placed s n f d numbers ≡ Ok p →
      (first_place numbers (book_numbers s n d) < length (book_numbers s n d)) × (p ≡ first_place numbers (book_numbers s n d))
  unfolding place_in
  has_place numbers p e = elim (dec_lt (first_place numbers (book_numbers s n d)) (length (book_numbers s n d))) [
    | yes l ↦ let z : suc p ≡ suc (first_place numbers (book_numbers s n d)) = ap place_in (sym e ∙ sym (placed_at s n f d told numbers l refl)) in (l, omega arith)
    | no h ↦ let z : suc p ≡ 0 = ap place_in (sym e ∙ sym (placed_absent s n f d told numbers (omega arith))) in absurd (omega arith)
  ]

  back : (p : ℕ) (c : Chain) → placed s n f d (numbers_of c) ≡ Ok p → located s n f d p ≡ Ok c
  back p c e =
      let r = has_place (numbers_of c) p e in
      let l : p < value_count s n d = omega (arith, r.0, r.1, counted, numbers_length s n d) in
      let q = first_at (numbers_of c) (book_numbers s n d) (numbers_of (chain_of n (black 0))) r.0 in
      let k = sym (numbers_at_lem p) ∙ ap (λ (x : ℕ). get_or (book_numbers s n d) x (numbers_of (chain_of n (black 0)))) r.1 ∙ q in
      there p l ∙ ap (λ (x : Chain). Ok x) (chain_same (get_or (book_chains s n d) p (chain_of n (black 0))) c k)

  absent : (numbers : List ℕ) → (numbers among book_numbers s n d → ⊥) → placed s n f d numbers ≡ Err cause.NotInBook
  absent numbers h = elim (dec_lt (first_place numbers (book_numbers s n d)) (length (book_numbers s n d))) [
    | yes l ↦ absurd (h (first_in numbers (book_numbers s n d) l))
    | no m ↦ sym (placed_absent s n f d told numbers (omega arith))
  ]

  not_there : (numbers : List ℕ) → placed s n f d numbers ≡ Err cause.NotInBook → numbers among book_numbers s n d → ⊥
  unfolding place_in
  not_there numbers e m =
      let z : suc (first_place numbers (book_numbers s n d)) ≡ 0 = ap place_in (placed_at s n f d told numbers (in_first m) refl ∙ e) in
      omega arith

pub both_ways : BothWays
both_ways s n f d ok =
    record {
      chain_at_place = there s n f d ok;
      days_of_value = its_days s n f d ok;
      no_place = λ p. (below_count s n f d ok p, beyond s n f d ok p);
      there_and_back = forth s n f d ok;
      back_and_there = back s n f d ok;
      no_chain = λ numbers. (not_there s n f d ok numbers, absent s n f d ok numbers);
    }

-- black that is stored once is no value
not_black : (n d g h : ℕ) → stored_once g ≡ true → 1 ≤ h → h ≡ day_within d g → length (levels h) < length (names_of_day 3 n h) → ⊥
not_black n d g h once o e l = elim (split (leb g d)) [
  | inl t ↦ let q : h ≡ g = e ∙ rw t in
      let b = and_both (divides n g) (not (stored_once g)) (rw q at (black_stored n h l)) in
      true_or_false once (not-true (stored_once g) b.1)
  | inr t ↦ let z : h ≡ 0 = e ∙ rw t in absurd (omega arith)
]

once_not_black : (n d g : ℕ) → layout_refusal 3 n 1 d ≡ 0 → stored_once g ≡ true → placed 3 n 1 d (1 ∷ 0 ∷ 1 ∷ g ∷ []) ≡ Err cause.NotInBook
once_not_black n d g ok once = elim (dec_lt (first_place numbers (book_numbers 3 n d)) (length (book_numbers 3 n d))) [
  | yes l ↦
      let a = layout_asks 3 n 1 d (number_passed _ ok) in
      let r = found 3 n d 1 0 1 g a.0 a.1 l in
      absurd (not_black n d g (closing_day n d 1 1 g) once r.some refl (leb-true _ _ (and_both _ _ r.named).0))
  | no m ↦ sym (placed_absent 3 n 1 d (number_passed _ ok) numbers (omega arith))
]
  where
    numbers : List ℕ
    numbers = 1 ∷ 0 ∷ 1 ∷ g ∷ []

-- the level over days 1 to g = 2^l
level_there : (n d g l : ℕ) → 2 ^ l ≡ g → g ≤ d → 3 ∷ l ∷ 1 ∷ g ∷ [] among book_numbers 3 n d
unfolding book_numbers book_chains
level_there n d g l e m =
    let o : 1 ≤ g = rw e at (pow_pos l) in
    let b = below_pow l in
    let w : divides (2 ^ l) g ≡ true = rw e (eq-eqb (g % g) 0 (mod_self g)) in
    let t = days_of_tree n g l o w in
    let one : suc (g - 2 ^ l) ≡ 1 = omega arith in
    let i : tree l g among names_through 3 n d =
    names_through_in 3 n d (up_from_mem 1 d g o (omega arith)) (tree l g) (Memᴰ.append_left (cond (divides n g && not (stored_once g)) (black g ∷ []) [])
    (Memᴰ.map (λ (j : ℕ). tree j g) (mem_keep (λ x. divides (2 ^ x) g) (up_from 0 g) l (up_from_mem 0 g l (omega arith) (omega arith)) w))) in
    let q : numbers_of (chain_of n (tree l g)) ≡ 3 ∷ l ∷ 1 ∷ g ∷ [] = rw (t.0, t.1, one) in
    Memᴰ.cast (sym q) (Memᴰ.map numbers_of (Memᴰ.map (chain_of n) i))

pub tree_only : TreeOnly
tree_only n d g ok once =
    let r = power_of g once in
    let k = lg_unique g r.0 (omega (arith, r.1)) (omega (arith, r.1, pow_pos r.0)) in
    let e : 2 ^ lg g ≡ g = ap (λ (x : ℕ). 2 ^ x) k ∙ r.1 in
    record {
      not_black = once_not_black n d g ok once;
      but_tree = λ m. (_, sym (placed_at 3 n 1 d (number_passed _ ok) (3 ∷ lg g ∷ 1 ∷ g ∷ []) (in_first (level_there n d g (lg g) e m)) refl));
    }
