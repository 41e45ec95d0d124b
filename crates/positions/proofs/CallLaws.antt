-- What the two calls give: refused by the layout; 18; a chain, a position.
use mathlib.Core.Path.{◌≡◌, refl, sym, ap, ◌∙◌}
use mathlib.Core.Bool.{Bool, true, false, not, cond}
use mathlib.Core.Logic.{inl, inr}
use mathlib.Core.List.{List, [], ◌∷◌, ◌++◌}
use Prim.Native.Nat.{ℕ, suc, pred, ◌+◌, ◌-◌, ◌^◌, ◌≤◌, ◌<◌}
use native.Mathlib.Omega.{arith}
use lib.Dec.{eqb, leb}
use lib.ListN.{length, get_or}
use borrow.Author.Tests.{leb-true, le-leb, lt-leb}
use Rattle.lists.proofs.Laws.{split, true_or_false}
use Rattle.std.specs.Prelude.{Result, Ok, Err}
use Rattle.refusals.specs.Refusals.{◌or_refuse◌, tested}
use Rattle.refusals.specs.declared.Refusal.{Refusal}
use Rattle.refusals.specs.declared.Refusal.TheVariants as cause
use Rattle.refusals.proofs.TestLaws.{passed, failed, passed_number, refused_before, passed_before}
use Rattle.layouts.specs.Layouts.{allowed_scheme, allowed_n, layout_tests, layout_tested, value_count, chains, black, names_of_day}
use Rattle.std.proofs.Common.{pow_pos}
use Rattle.layouts.proofs.AllowedLaws.{layout_asks, allowed_n_is, values_counted, chains_few}
use Rattle.layouts.proofs.Coverage.{divisor_le}
use Rattle.positions.proofs.StepLaws.{tiles_by, levels_by, tile_last_0, tile_last_by, weight_fits, tree_of, black_1, black_2, black_3, is_tile, is_level}
use Rattle.positions.proofs.BookLaws.{closes_by}
use Rattle.positions.specs.declared.Chain.{Chain}
use Rattle.positions.proofs.BookLaws.{numbers_length, Closes, chain_there, below, Found, found, is_found}
use Rattle.positions.specs.Private.{day_within, closing_day, place_in_day, is_named}
use Rattle.positions.specs.Positions.{chain_of, book_chains, book_numbers, first_place, located, placed}

-- a last test after those of the layout
after_layout : (s n f d : ℕ) (b : Bool) → layout_tested s n f d ≡ Ok tt →
    tested (layout_tests s n f d ++ (b or_refuse cause.NotInBook ∷ [])) ≡ cond b (Ok tt) (Err cause.NotInBook)
unfolding layout_tested
after_layout s n f d b e = passed_before (layout_tests s n f d) (b or_refuse cause.NotInBook ∷ []) e

-- what the layout refuses
pub located_refused : (s n f d p : ℕ) {r : Refusal} → layout_tested s n f d ≡ Err r → Err r ≡ located s n f d p
unfolding layout_tested located
located_refused s n f d p e = rw (refused_before (layout_tests s n f d) (leb (suc p) (value_count s n d) or_refuse cause.NotInBook ∷ []) e) refl

pub placed_refused : (s n f d : ℕ) (numbers : List ℕ) {r : Refusal} → layout_tested s n f d ≡ Err r → Err r ≡ placed s n f d numbers
unfolding layout_tested placed
placed_refused s n f d numbers e =
    rw (refused_before (layout_tests s n f d)
    (leb (suc (first_place numbers (book_numbers s n d))) (length (book_numbers s n d)) or_refuse cause.NotInBook ∷ []) e) refl

module _ (s n f d : ℕ) (told : layout_tested s n f d ≡ Ok tt) where
  counted : value_count s n d ≡ length (chains s n d)
  counted = values_counted s n f d (passed_number (layout_tested s n f d) told)

  -- ---- chain_at

  module _ (p : ℕ) where
    pub located_beyond : {v : ℕ} → v ≡ length (chains s n d) → v ≤ p → Err cause.NotInBook ≡ located s n f d p
    unfolding located
    located_beyond q l =
        let b = lt-leb (suc p) (value_count s n d) (omega (arith, counted)) in
        rw (after_layout s n f d (leb (suc p) (value_count s n d)) told, b) refl

    pub located_at : p < length (chains s n d) → Ok (get_or (book_chains s n d) p (chain_of n (black 0))) ≡ located s n f d p
    unfolding located
    located_at l =
        let b = le-leb (suc p) (value_count s n d) (omega (arith, counted)) in
        rw (after_layout s n f d (leb (suc p) (value_count s n d)) told, b) refl

    -- value i of day g
    pub located_there : {g i : ℕ} {c : Chain} → Closes s n d p g i → c ≡ chain_of n (get_or (names_of_day s n g) i (black 0)) → Ok c ≡ located s n f d p
    located_there {g} {i} {c} k e =
        ap (λ (y : Chain). Ok y) (e ∙ sym (chain_there s n d p g i k)) ∙ located_at (omega (arith, below s n d p g i k, numbers_length s n d))

  -- ---- position_of

  module _ (numbers : List ℕ) where
    abbrev there : Bool
    there = leb (suc (first_place numbers (book_numbers s n d))) (length (book_numbers s n d))

    pub placed_absent : length (book_numbers s n d) ≤ first_place numbers (book_numbers s n d) → Err cause.NotInBook ≡ placed s n f d numbers
    unfolding placed
    placed_absent l =
        let b = lt-leb (suc (first_place numbers (book_numbers s n d))) (length (book_numbers s n d)) (omega arith) in
        rw (after_layout s n f d there told, b) refl

    pub placed_at : {p : ℕ} → first_place numbers (book_numbers s n d) < length (book_numbers s n d) → p ≡ first_place numbers (book_numbers s n d) →
        Ok p ≡ placed s n f d numbers
    unfolding placed
    placed_at l q = let b = le-leb (suc (first_place numbers (book_numbers s n d))) (length (book_numbers s n d)) l in
        rw (after_layout s n f d there told, b, q) refl

-- ---- four numbers in an array, by the day and the place that they lead to

four_read : (l : List ℕ) → length l ≡ 4 → get_or l 0 0 ∷ get_or l 1 0 ∷ get_or l 2 0 ∷ get_or l 3 0 ∷ [] ≡ l
four_read (a ∷ b ∷ c ∷ d ∷ []) e = refl
four_read [] e = absurd (omega arith)
four_read (a ∷ []) e = absurd (omega arith)
four_read (a ∷ b ∷ []) e = absurd (omega arith)
four_read (a ∷ b ∷ c ∷ []) e = absurd (omega arith)
four_read (a ∷ b ∷ c ∷ d ∷ x ∷ l) e = absurd (omega arith)

module _ (s n f d : ℕ) (l : List ℕ) (four : length l ≡ 4) {g : ℕ} (told : layout_tested s n f d ≡ Ok tt)
    (day : g ≡ closing_day n d (get_or l 0 0) (get_or l 2 0) (get_or l 3 0)) where
  abbrev numbers : List ℕ
  numbers = get_or l 0 0 ∷ get_or l 1 0 ∷ get_or l 2 0 ∷ get_or l 3 0 ∷ []

  is_l : {r : Result ℕ Refusal} → r ≡ placed s n f d numbers → r ≡ placed s n f d l
  is_l e = e ∙ ap (placed s n f d) (four_read l four)

  asks : (allowed_scheme s ≡ true) × (allowed_n n ≡ true) × (d ≤ 65536)
  asks = layout_asks s n f d told

  day_most : g ≤ d
  day_most = rw day (most (cond (eqb (get_or l 0 0) 2) (pred (get_or l 2 0 + n)) (get_or l 3 0)))
    where
      most : (h : ℕ) → day_within d h ≤ d
      most h = elim (split (leb h d)) [ inl e ↦ rw e (leb-true h d e) | inr e ↦ rw e (omega arith) ]

  -- what the functions on a day ask
  pub day_asks : 1 ≤ g → (allowed_scheme s ≡ true) × (allowed_n n ≡ true) × (1 ≤ g) × (g ≤ 65536)
  day_asks some = (asks.0, asks.1, some, omega (arith, asks.2, day_most))

  absent : (first_place numbers (book_numbers s n d) < length (book_numbers s n d) → ⊥) → Err cause.NotInBook ≡ placed s n f d l
  absent h = is_l (placed_absent s n f d told numbers (omega arith))

  found_there : first_place numbers (book_numbers s n d) < length (book_numbers s n d) →
      Found s n d (get_or l 0 0) (get_or l 1 0) (get_or l 2 0) (get_or l 3 0) asks.0 asks.1 (first_place numbers (book_numbers s n d))
      (closing_day n d (get_or l 0 0) (get_or l 2 0) (get_or l 3 0)) (place_in_day s n (closing_day n d (get_or l 0 0) (get_or l 2 0) (get_or l 3 0)) (get_or l 0 0) (get_or l 1 0))
  found_there h = found s n d (get_or l 0 0) (get_or l 1 0) (get_or l 2 0) (get_or l 3 0) asks.0 asks.1 h

  pub no_day : g ≡ 0 → Err cause.NotInBook ≡ placed s n f d l
  no_day z = absent (λ h. let r = found_there h in omega (arith, r.some, day))

  module _ {i : ℕ} (place : i ≡ place_in_day s n g (get_or l 0 0) (get_or l 1 0)) {r : Bool} (told_named : r ≡ is_named s n g i l) where
    named : r ≡ is_named s n g i numbers
    named = told_named ∙ ap (is_named s n g i) (sym (four_read l four))

    pub not_named : not r ≡ true → Err cause.NotInBook ≡ placed s n f d l
    not_named t = absent (λ h.
        let f = found_there h in
        true_or_false (rw (place, day) f.named) (failed named t))

    module _ {v : ℕ} (some : 1 ≤ g) (yes-named : not r ≡ false) (before : v ≡ length (chains s n (g - 1))) where
      there_is : first_place numbers (book_numbers s n d) < length (book_numbers s n d)
      there_is = is_found s n d (get_or l 0 0) (get_or l 1 0) (get_or l 2 0) (get_or l 3 0) asks.0 asks.1 g i some day_most (passed named yes-named)

      sum_is : v + i ≡ first_place numbers (book_numbers s n d)
      sum_is =
          let r = found_there there_is in
          let q : g - 1 ≡ pred g = omega arith in
          rw (before, q, place, day) r.place_is

      pub sum_fits : v + i < 2 ^ 32
      sum_fits = omega (arith, sum_is, there_is, numbers_length s n d, chains_few s n d asks.0 asks.1 asks.2)

      pub placed_there : Ok (v + i) ≡ placed s n f d l
      placed_there = is_l (placed_at s n f d told numbers there_is sum_is)

-- ---- what functions of the code are proved by

pub ruleset place_laws = (tiles_by, levels_by, allowed_n_is)

pub ruleset tile_last_laws = (tile_last_0, tile_last_by, weight_fits)

pub ruleset tree_laws = (tree_of, divisor_le, pow_pos)

pub ruleset day_laws = (black_1, black_2, black_3, is_tile, is_level)

pub ruleset located_laws = (layout_asks, closes_by, located_refused, located_beyond)
