-- What the walks list, and what is written of it. Definitions only; private contracts cite them, and the laws
-- `tile_days_lem`, `days_of_tree` and `listing_is_listed` lead them back to 01's listing.
use Rattle.std.specs.Prelude.{◌≡◌, ℕ, zero, suc, ◌+◌, ◌-◌, ◌*◌, ◌/◌, ◌%◌, ◌^◌, ◌<◌, ◌≤◌, Bool, true, false, cond, List, [], ◌∷◌, ◌++◌, ◌==◌}
use Rattle.refusals.specs.Refusals.{book_limit}
use Rattle.lists.specs.Lists.{up_from, every}
use Rattle.layouts.specs.Layouts.{black, tree}
use Rattle.acceptance.specs.Private.{passes}

-- black of interval k passes
unfoldable pub black_passes : ℕ → List ℕ → ℕ → Bool
black_passes n t k = passes 1 n t (black (k * n))

-- black passes in the first r intervals, and not in the next, if there is one (scheme 1)
pub record FirstFailed (n d : ℕ) (t : List ℕ) (r : ℕ) : Type 0 where
  pub few : r ≤ d / n
  pub pass : every (black_passes n t) (up_from 1 r) ≡ true
  pub fails : r < d / n → black_passes n t (r + 1) ≡ false

-- l bits of a tile from a day on, and a number m of l bits
pub record Tile (l day m : ℕ) : Type 0 where
  pub level : l ≤ 8
  pub number : m < 2 ^ l
  pub fits : day + 2 ^ l ≤ suc book_limit

-- bit j of m is 1
abbrev pub bit_of : ℕ → ℕ → Bool
bit_of m j = m / 2 ^ j % 2 == 1

-- w days later, as a number of 32 bits
abbrev pub later : ℕ → ℕ → ℕ
later w day = (day + w) % 2 ^ 32

-- the walk of a failed tile from a day on, l bits left: where p l passes only the upper half is gone into
unfoldable pub tile_days : (ℕ → Bool) → ℕ → ℕ → List ℕ
tile_days p zero day = day ∷ []
tile_days p (suc l) day = cond (p l) [] (tile_days p l day) ++ tile_days p l (day + 2 ^ l)

-- the walk of the tree's chain of level l that ends at g (SPEC 8.8): none if it passes; its day; its left half, then
-- its right
unfoldable pub tree_days : ℕ → List ℕ → ℕ → ℕ → List ℕ
tree_days n t zero g = cond (passes 3 n t (tree 0 g)) [] (g ∷ [])
tree_days n t (suc l) g = cond (passes 3 n t (tree (suc l) g)) [] (tree_days n t l (g - 2 ^ l) ++ tree_days n t l g)

-- of the maximal chains that make up the days 1 to d, the one of level l, if there is one
unfoldable pub top_days : ℕ → ℕ → List ℕ → ℕ → List ℕ
top_days n d t l = cond (d / 2 ^ l % 2 == 0) [] (tree_days n t l (d / 2 ^ l * 2 ^ l))
