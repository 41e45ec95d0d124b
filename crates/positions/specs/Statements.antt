-- What is proved of 02's positions (proofs/BothWays, proofs/Spans), for every layout and number of days that 01 allows.
use Rattle.std.specs.Prelude.{◌≡◌, true, ◌↔◌, List, [], ◌∷◌, ℕ, suc, ◌-◌, ◌/◌, ◌^◌, ◌≤◌, ◌<◌, get_or, Ok, Err}
use Rattle.lists.specs.Lists.{◌among◌, first_of, last_of}
use Rattle.layouts.specs.Layouts.{allowed_n, divides, lg, black, tile, tree, stored_once, chains, value_count}
use Rattle.layouts.specs.Layouts.{layout_refusal}
use Rattle.positions.specs.declared.Chain.{Chain}
use Rattle.refusals.specs.declared.Refusal.TheVariants as cause
use Rattle.positions.specs.Positions.{chain_of, book_chains, book_numbers, numbers_of, located, placed}

-- chain_at gives the chain of that place, whose days are those that the value there covers; each call undoes the other;
-- 18 exactly where there is no such place, or no chain with these four (SPEC 18.6)
pub record BothWaysOf (scheme n f d : ℕ) : Type 0 where
  pub chain_at_place : (p : ℕ) → p < value_count scheme n d →
      located scheme n f d p ≡ Ok (get_or (book_chains scheme n d) p (chain_of n (black 0)))
  pub days_of_value : (p : ℕ) (c : Chain) → located scheme n f d p ≡ Ok c →
      (c.first ≡ first_of (get_or (chains scheme n d) p [])) × (c.last ≡ last_of 0 (get_or (chains scheme n d) p []))
  pub no_place : (p : ℕ) → (located scheme n f d p ≡ Err cause.NotInBook) ↔ (value_count scheme n d ≤ p)
  pub there_and_back : (p : ℕ) (c : Chain) → located scheme n f d p ≡ Ok c →
      placed scheme n f d (numbers_of c) ≡ Ok p
  pub back_and_there : (p : ℕ) (c : Chain) → placed scheme n f d (numbers_of c) ≡ Ok p →
      located scheme n f d p ≡ Ok c
  pub no_chain : (numbers : List ℕ) →
      (placed scheme n f d numbers ≡ Err cause.NotInBook) ↔ (numbers among book_numbers scheme n d → ⊥)

abbrev pub BothWays : Type 0
BothWays = (scheme n f d : ℕ) → layout_refusal scheme n f d ≡ 0 → BothWaysOf scheme n f d

-- the first and the last day of each chain (SPEC 18.7); c(i), from i = 1 on, ends n / 2^i days before its tile does
pub record Spans (n g : ℕ) : Type 0 where
  pub black_days : ((chain_of n (black g)).first ≡ 1) × ((chain_of n (black g)).last ≡ g)
  pub tile_first : (i : ℕ) → divides n g ≡ true → i ≤ lg n → (chain_of n (tile i g)).first ≡ suc (g - n)
  pub tile_whole : divides n g ≡ true → (chain_of n (tile 0 g)).last ≡ g
  pub tile_last : (i : ℕ) → divides n g ≡ true → suc i ≤ lg n → (chain_of n (tile (suc i) g)).last ≡ g - n / 2 ^ suc i
  pub days_of_tree : (l : ℕ) → divides (2 ^ l) g ≡ true →
      ((chain_of n (tree l g)).first ≡ suc (g - 2 ^ l)) × ((chain_of n (tree l g)).last ≡ g)

abbrev pub SpansTold : Type 0
SpansTold = (n g : ℕ) → allowed_n n ≡ true → 1 ≤ g → Spans n g

-- under scheme 3 black over the days 1 to g, a power of two, is stored once: as black it is no chain of the book, as
-- the tree's level lg g it is (SPEC 18.8)
pub record StoredOnce (n d g : ℕ) : Type 0 where
  pub not_black : placed 3 n 1 d (1 ∷ 0 ∷ 1 ∷ g ∷ []) ≡ Err cause.NotInBook
  pub but_tree : g ≤ d → (p : ℕ) × (placed 3 n 1 d (3 ∷ lg g ∷ 1 ∷ g ∷ []) ≡ Ok p)

abbrev pub TreeOnly : Type 0
TreeOnly = (n d g : ℕ) → layout_refusal 3 n 1 d ≡ 0 → stored_once g ≡ true → StoredOnce n d g
