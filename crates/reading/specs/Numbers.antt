-- The numbers that reading gives beside the listed days (SPEC 8.6, 8.7, 19.2). Definitions only.
use Rattle.std.specs.Prelude.{Bool, false, ◌&&◌, ◌||◌, List, [], ◌∷◌, ℕ, pred, ◌-◌, ◌*◌, max, eqb}
use Rattle.lists.specs.Lists.{last_of, keep}
use Rattle.evidence.specs.Evidence.{days}
use Rattle.layouts.specs.Layouts.{divides, Name, black_at, names_through}

-- 02's low (SPEC 19.2), for P and the first listed day
abbrev pub low_of : ℕ → ℕ → ℕ
low_of passed first = max passed (pred first)

-- the validation that 01's low (SPEC 8.6) supposes: 01's low is the one with this day as P (SPEC 19.4)
abbrev pub validation_before : ℕ → ℕ → ℕ → ℕ
validation_before n f d = d - f * n

-- 01's black value of day g (SPEC 8.7) passes
abbrev pub black_passes : ℕ → List Name → List ℕ → Bool
black_passes g [] table = false
black_passes g (x ∷ xs) [] = false
black_passes g (x ∷ xs) (o ∷ table) = (black_at g x && eqb o 1) || black_passes g xs table

-- 01's last good (SPEC 8.7): the last day whose black value passes, else 0
unfoldable pub last_good_day : ℕ → ℕ → ℕ → List ℕ → ℕ
last_good_day scheme n d table =
    last_of 0 (keep (λ g. divides n g && black_passes g (names_through scheme n d) table) (days d))
