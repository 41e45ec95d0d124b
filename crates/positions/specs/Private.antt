-- What private contracts cite: places among the values of one day, and where a chain that is named would stand.
-- Definitions only.
use Rattle.std.specs.Prelude.{Bool, ◌&&◌, cond, List, ℕ, zero, suc, pred, ◌+◌, eqb, leb, length, get_or}
use Rattle.lists.specs.Lists.{same}
use Rattle.layouts.specs.Layouts.{lg, black, levels, names_of_day}
use Rattle.positions.specs.Positions.{chain_of, numbers_of}

-- black's place among the values of day g, or, where it is none of them, the place behind them
abbrev pub black_place : ℕ → ℕ → ℕ → ℕ
black_place zero n g = 0
black_place (suc zero) n g = 0
black_place (suc (suc zero)) n g = suc (lg n)
black_place (suc (suc (suc scheme))) n g = length (levels g)

abbrev pub day_within : ℕ → ℕ → ℕ  -- a day, or 0 where it is past d
day_within d g = cond (leb g d) g 0

-- the day at which a chain with these numbers would close, 0 where it is past d: for a tile chain the tile's end, else
-- the last day
abbrev pub closing_day : ℕ → ℕ → ℕ → ℕ → ℕ → ℕ
closing_day n d kind first last = day_within d (cond (eqb kind 2) (pred (first + n)) last)

-- its place among the values of that day
abbrev pub place_in_day : ℕ → ℕ → ℕ → ℕ → ℕ → ℕ
place_in_day scheme n g kind index = cond (eqb kind 1) (black_place scheme n g) index

-- whether value i of day g has these numbers
abbrev pub is_named : ℕ → ℕ → ℕ → ℕ → List ℕ → Bool
is_named scheme n g i numbers =
    leb (suc i) (length (names_of_day scheme n g)) &&
    same (numbers_of (chain_of n (get_or (names_of_day scheme n g) i (black 0)))) numbers
