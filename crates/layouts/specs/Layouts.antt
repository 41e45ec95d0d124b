-- 01's three layouts (SPEC 4): what is allowed; the chains in book order, their number and places; refusals 1 2 3 7.
-- Definitions only.
use Rattle.std.specs.Prelude.{Bool, true, false, not, ◌&&◌, ◌||◌, cond, ℕ, zero, suc, pred, ◌+◌, ◌-◌, ◌*◌, ◌/◌, ◌%◌}
use Rattle.std.specs.Prelude.{◌^◌, eqb, leb}
use Rattle.std.specs.Prelude.{Result}
use mathlib.Core.List.{List, [], ◌∷◌, ◌++◌, map, flat_map}
use Rattle.std.specs.Int.Count.{ones}
use Rattle.lists.specs.Lists.{has, up_from, keep}
use Rattle.evidence.specs.Evidence.{days}
use Rattle.refusals.specs.Refusals.{book_limit, Test, ◌or_refuse◌, tested, number_of}
use Rattle.refusals.specs.declared.Refusal.{Refusal}
use Rattle.refusals.specs.declared.Refusal.TheVariants as cause

abbrev pub divides : ℕ → ℕ → Bool  -- n divides g
divides n g = eqb (g % n) 0

-- 01's schemes (SPEC 4.1): 1 to 3
abbrev pub allowed_scheme : ℕ → Bool
allowed_scheme scheme = leb 1 scheme && leb scheme 3

-- 01's N (SPEC 4.2): the days in a notarisation interval, a power of two from 1 to 256
abbrev pub allowed_n : ℕ → Bool
allowed_n n = has n (1 ∷ 2 ∷ 4 ∷ 8 ∷ 16 ∷ 32 ∷ 64 ∷ 128 ∷ 256 ∷ [])

-- 01's F (SPEC 4.3): intervals per validation, 1 to 64, and 1 under scheme 3
abbrev pub allowed_f : ℕ → ℕ → Bool
allowed_f scheme f = (leb 1 f && leb f 64) && (not (eqb scheme 3) || eqb f 1)

-- 01's D (SPEC 4.4): the days sealed, 1 to 65,536, a multiple of f · n
abbrev pub allowed_d : ℕ → ℕ → ℕ → Bool
allowed_d n f d = (leb 1 d && leb d book_limit) && divides (f * n) d

-- ---- chains

-- 01's lg (SPEC 2.11): the base-2 logarithm, rounded down
abbrev pub lg_in : ℕ → ℕ → ℕ
lg_in zero x = 0
lg_in (suc fuel) x = cond (leb x 1) 0 (suc (lg_in fuel (x / 2)))

unfoldable pub lg : ℕ → ℕ
lg x = lg_in x x

-- a value's chain, by name (SPEC 4.11): black at day g, tile chain c(i) of the tile that ends at g, the tree's level l
-- that ends at g
pub data Name : Type 0 where
  black : ℕ → Name
  tile tree : ℕ → ℕ → Name

abbrev pub last_days : ℕ → ℕ → List ℕ  -- the k days that end at g
last_days k g = up_from (suc (g - k)) k

-- 01's offset of a day in its tile (SPEC 4.7)
abbrev pub offset : ℕ → ℕ → ℕ
offset n day = pred day % n

-- whether 01's c(i) covers an offset (SPEC 4.7): c(0) all, c(i) from i = 1 those whose bit of weight n / 2^i is 0
abbrev pub covers : ℕ → ℕ → ℕ → Bool
covers n zero o = true
covers n (suc i) o = eqb (o / (n / 2 ^ suc i) % 2) 0

abbrev pub covered_days : ℕ → Name → List ℕ  -- the days that a named chain covers (SPEC 4.6 to 4.8)
covered_days n (black g) = last_days g g
covered_days n (tile i g) = keep (λ day. covers n i (offset n day)) (last_days n g)
covered_days n (tree l g) = last_days (2 ^ l) g

-- the levels of 01's tree chains that end at g (SPEC 4.8): l from 0 up while 2^l divides g
abbrev pub levels : ℕ → List ℕ
levels g = keep (λ l. divides (2 ^ l) g) (up_from 0 g)

-- 01's "stored once" (SPEC 4.9): the last of these chains covers what black covers, days 1 to g
abbrev pub stored_once : ℕ → Bool
stored_once g = has g (map (λ l. 2 ^ l) (levels g))

abbrev pub stores_black_of_tree : ℕ → ℕ → Bool  -- whether black is a value of its own at g under scheme 3
stores_black_of_tree n g = divides n g && not (stored_once g)

-- 01's three schemes (SPEC 4.6 to 4.8): the chains that close at day g, in order
abbrev pub names_of_day : ℕ → ℕ → ℕ → List Name
names_of_day zero n g = []
names_of_day (suc zero) n g = cond (divides n g) (black g ∷ []) []
names_of_day (suc (suc zero)) n g =
    cond (divides n g) (map (λ i. tile i g) (up_from 0 (suc (lg n))) ++ (black g ∷ [])) []
names_of_day (suc (suc (suc zero))) n g =
    map (λ l. tree l g) (levels g) ++ cond (stores_black_of_tree n g) (black g ∷ []) []
names_of_day (suc (suc (suc (suc s)))) n g = []

-- 01's book order (SPEC 4.10): the names of the values over d days
unfoldable pub names_through : ℕ → ℕ → ℕ → List Name
names_through scheme n d = flat_map (names_of_day scheme n) (days d)

-- the days covered by each chain that closes at day g (SPEC 4.5), and by each over d days
unfoldable pub chains_of_day : ℕ → ℕ → ℕ → List (List ℕ)
chains_of_day scheme n g = map (covered_days n) (names_of_day scheme n g)

unfoldable pub chains : ℕ → ℕ → ℕ → List (List ℕ)
chains scheme n d = map (covered_days n) (names_through scheme n d)

-- 01's black value of day g (SPEC 8.7): black, or the tree's chain over the same days, stored once
abbrev pub black_at : ℕ → Name → Bool
black_at g (black h) = eqb h g
black_at g (tile i h) = false
black_at g (tree l h) = eqb h g && eqb (2 ^ l) g

-- 01's number of values for d days (SPEC 4.12); the law `values_length`: the number of these chains
abbrev pub value_count : ℕ → ℕ → ℕ → ℕ
value_count zero n d = 0
value_count (suc zero) n d = d / n
value_count (suc (suc zero)) n d = d / n * (2 + lg n)
value_count (suc (suc (suc zero))) n d = 2 * d - ones d + d / n - (1 + lg (d / n))
value_count (suc (suc (suc (suc s)))) n d = 0

-- ---- refusals

-- 01's tests 1 2 3 (SPEC 10.1, 10.2, 10.3)
abbrev pub setup_tests : ℕ → ℕ → ℕ → List Test
setup_tests scheme n f =
    allowed_scheme scheme or_refuse cause.BadScheme ∷
    allowed_n n or_refuse cause.BadN ∷
    allowed_f scheme f or_refuse cause.BadF ∷
    []

-- 01's tests 1 2 3 7 (SPEC 10.7)
abbrev pub layout_tests : ℕ → ℕ → ℕ → ℕ → List Test
layout_tests scheme n f d = setup_tests scheme n f ++ (allowed_d n f d or_refuse cause.BadD ∷ [])

-- what they say, and its number
unfoldable pub setup_tested : ℕ → ℕ → ℕ → Result Unit Refusal
setup_tested scheme n f = tested (setup_tests scheme n f)

unfoldable pub layout_tested : ℕ → ℕ → ℕ → ℕ → Result Unit Refusal
layout_tested scheme n f d = tested (layout_tests scheme n f d)

abbrev pub setup_refusal : ℕ → ℕ → ℕ → ℕ
setup_refusal scheme n f = number_of (setup_tested scheme n f)

abbrev pub layout_refusal : ℕ → ℕ → ℕ → ℕ → ℕ
layout_refusal scheme n f d = number_of (layout_tested scheme n f d)
