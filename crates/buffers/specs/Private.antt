-- What was written to a lent buffer. Definitions only; private contracts cite them.
use Rattle.std.specs.Prelude.{◌≡◌, List, ◌++◌, ℕ, ◌+◌, length, take, drop}

-- the list F was written from a place on, up to r; the rest stays
pub record Wrote (at : ℕ) (F before : List ℕ) (r : ℕ) (after : List ℕ) : Type 0 where
  pub count : r ≡ at + length F
  pub list : after ≡ take at before ++ (F ++ drop r before)
