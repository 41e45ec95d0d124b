-- What private contracts cite: the place of a value in the book. Definitions only.
use Rattle.std.specs.Prelude.{ℕ, pred, ◌+◌, length}
use Rattle.layouts.specs.Layouts.{Name, black, tile, tree, names_through}

-- a value's place in the book (SPEC 4.11), from 0: after the values of the days before, by index or level; black last
abbrev pub position : ℕ → ℕ → Name → ℕ
position scheme n (black g) = pred (length (names_through scheme n g))
position scheme n (tile i g) = length (names_through scheme n (pred g)) + i
position scheme n (tree l g) = length (names_through scheme n (pred g)) + l
