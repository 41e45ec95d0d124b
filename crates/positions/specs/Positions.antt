-- 02's way from a position of the book to its chain, and back (C-12, SPEC 18). Definitions only.
use Rattle.std.specs.Prelude.{cond, List, [], ◌∷◌, ◌++◌, map, ℕ, suc, leb, length, get_or, Result}
use Rattle.lists.specs.Lists.{same, first_of, last_of}
use Rattle.refusals.specs.Refusals.{Test, ◌or_refuse◌, tested, answered}
use Rattle.refusals.specs.declared.Refusal.{Refusal}
use Rattle.refusals.specs.declared.Refusal.TheVariants as cause
use Rattle.layouts.specs.Layouts.{Name, black, tile, tree, covered_days, names_through, value_count, layout_tests}
use Rattle.positions.specs.declared.Kind.{Kind}
use Rattle.positions.specs.declared.Kind.TheVariants.{Black, Tile, Tree}
use Rattle.positions.specs.declared.Chain.{Chain}

-- 02's number of each kind (SPEC 18.2)
abbrev pub kind_number : Kind → ℕ
kind_number Black = 1
kind_number Tile = 2
kind_number Tree = 3

-- a chain by kind, index or level, and the first and last of the days that it covers
abbrev pub chain_over : Kind → ℕ → List ℕ → Chain
chain_over kind index days = record { kind = kind; index = index; first = first_of days; last = last_of 0 days }

-- 02's four of a value's name (SPEC 18.1); black has index 0
abbrev pub chain_of : ℕ → Name → Chain
chain_of n (black g) = chain_over Black 0 (covered_days n (black g))
chain_of n (tile i g) = chain_over Tile i (covered_days n (tile i g))
chain_of n (tree l g) = chain_over Tree l (covered_days n (tree l g))

-- the chains of a book, in 01's book order (SPEC 4.10); a value stored once (SPEC 4.9) is there as the tree's alone
unfoldable pub book_chains : ℕ → ℕ → ℕ → List Chain
book_chains scheme n d = map (chain_of n) (names_through scheme n d)

-- the four as numbers
abbrev pub numbers_of : Chain → List ℕ
numbers_of chain = kind_number chain.kind ∷ chain.index ∷ chain.first ∷ chain.last ∷ []

unfoldable pub book_numbers : ℕ → ℕ → ℕ → List (List ℕ)
book_numbers scheme n d = map numbers_of (book_chains scheme n d)

-- the place of the first element that is equal, from 0; where none is, the length
abbrev pub first_place : List ℕ → List (List ℕ) → ℕ
first_place numbers [] = 0
first_place numbers (x ∷ xs) = cond (same x numbers) 0 (suc (first_place numbers xs))

-- ---- from a position to its chain

-- 02's test 18 (SPEC 10.18), after 1 2 3 7: the position is below 01's number of values (SPEC 4.12)
abbrev pub position_tests : ℕ → ℕ → ℕ → ℕ → List Test
position_tests scheme n d position = leb (suc position) (value_count scheme n d) or_refuse cause.NotInBook ∷ []

-- what chain_at gives
unfoldable pub located : ℕ → ℕ → ℕ → ℕ → ℕ → Result Chain Refusal
located scheme n f d position =
    answered (tested (layout_tests scheme n f d ++ position_tests scheme n d position))
    (get_or (book_chains scheme n d) position (chain_of n (black 0)))

-- ---- from a chain to its position

-- 02's test 18, after 1 2 3 7: a chain of the book has these four
abbrev pub chain_tests : ℕ → ℕ → ℕ → List ℕ → List Test
chain_tests scheme n d numbers =
    leb (suc (first_place numbers (book_numbers scheme n d))) (length (book_numbers scheme n d))
    or_refuse cause.NotInBook ∷ []

-- what position_of gives
unfoldable pub placed : ℕ → ℕ → ℕ → ℕ → List ℕ → Result ℕ Refusal
placed scheme n f d numbers =
    answered (tested (layout_tests scheme n f d ++ chain_tests scheme n d numbers))
    (first_place numbers (book_numbers scheme n d))
