-- The form of the code: a lane written, four rounds at a time. Definitions only.
use Rattle.std.specs.Prelude.{ℕ, ◌<◌, ◌≡◌, List, [], ◌∷◌, length, drop, set}
use Rattle.sha256.specs.Sha256.{schedule, rounds, summed}
use Rattle.sha256.specs.Private.{rounds_on}
use Rattle.lanes.specs.Lanes.{lane}

-- the words of v put into lane j of rows
unfoldable pub puts : List (List ℕ) → ℕ → List ℕ → List (List ℕ)
puts [] j v = []
puts (row ∷ rows) j [] = row ∷ rows
puts (row ∷ rows) j (x ∷ v) = set row j x ∷ puts rows j v

-- each row has a word of every lane
abbrev pub Wide : List (List ℕ) → Type 0
Wide [] = Unit {0}
Wide (row ∷ rows) = (length row ≡ 16) × Wide rows

-- l is n rows, whose lanes are f 0 to f 15
pub record Lanes (n : ℕ) (f : ℕ → List ℕ) (l : List (List ℕ)) : Type 0 where
  pub size : length l ≡ n
  pub each : (j : ℕ) → j < 16 → lane l j ≡ f j

-- n rounds from round t on, from v, with the schedule in lane j of w and the constants k; and four in lane j of s
unfoldable pub on_lane : List (List ℕ) → List ℕ → ℕ → ℕ → List ℕ → ℕ → List ℕ
on_lane w k t n v j = rounds_on v (drop t (lane w j)) k t n

unfoldable pub four_on : List (List ℕ) → List ℕ → ℕ → List (List ℕ) → ℕ → List ℕ
four_on w k t s j = on_lane w k t 4 (lane s j) j

unfoldable pub sum_of : List (List ℕ) → List (List ℕ) → ℕ → List ℕ
sum_of h s j = summed (lane h j) (lane s j)

unfoldable pub schedule_of : List (List ℕ) → ℕ → List ℕ
schedule_of m j = schedule (lane m j) 64

abbrev pub always : List ℕ → ℕ → List ℕ  -- the same in every lane
always l j = l

-- lane j of s after the block whose schedule is lane j of w
unfoldable pub worked_by : List (List ℕ) → List (List ℕ) → ℕ → List ℕ
worked_by s w j = summed (lane s j) (rounds (lane s j) (lane w j) 64)
