-- 02's sizing of a season (C-11, SPEC 17): values, bytes of the book and SHA-256 blocks, by the days' lengths alone.
-- Definitions only.
use Rattle.std.specs.Prelude.{Bool, List, [], ◌∷◌, ◌++◌, ℕ, zero, suc, ◌+◌, ◌*◌, ◌/◌, leb, length, get_or, take, Result}
use Rattle.lists.specs.Lists.{every}
use Rattle.refusals.specs.Refusals.{day_limit, Test, ◌or_refuse◌, tested, number_of, answered}
use Rattle.refusals.specs.declared.Refusal.{Refusal}
use Rattle.refusals.specs.declared.Refusal.TheVariants as cause
use Rattle.layouts.specs.Layouts.{layout_tests, chains}
use Rattle.chains.specs.Step.{links_of}
use Rattle.sizing.specs.declared.Sizes.{Sizes}

-- 02's blocks of a day of b bytes (SPEC 17.1), without its links
abbrev pub day_blocks : ℕ → ℕ
day_blocks b = (b + 9) / 64 + 1

-- 02's blocks of the days 1 to d, by their lengths (SPEC 17.4): a link takes 2; the length of day i + 1 is at place i
abbrev pub blocks_through : ℕ → ℕ → List ℕ → ℕ → ℕ
blocks_through scheme n lengths zero = 0
blocks_through scheme n lengths (suc i) =
    blocks_through scheme n lengths i + (day_blocks (get_or lengths i 0) + 2 * links_of scheme n (suc i))

-- a length that is not over the day's limit
abbrev pub short_day : ℕ → Bool
short_day b = leb b day_limit

-- 02's tests 16 17 (SPEC 10.16, 10.17), after 1 2 3 7
abbrev pub lengths_tests : ℕ → List ℕ → List Test
lengths_tests d lengths =
    leb d (length lengths) or_refuse cause.FewLengths ∷ every short_day (take d lengths) or_refuse cause.LongLength ∷ []

unfoldable pub lengths_tested : ℕ → List ℕ → Result Unit Refusal
lengths_tested d lengths = tested (lengths_tests d lengths)

unfoldable pub sizing_tested : ℕ → ℕ → ℕ → ℕ → List ℕ → Result Unit Refusal
sizing_tested scheme n f d lengths = tested (layout_tests scheme n f d ++ lengths_tests d lengths)

abbrev pub sizing_refusal : ℕ → ℕ → ℕ → ℕ → List ℕ → ℕ
sizing_refusal scheme n f d lengths = number_of (sizing_tested scheme n f d lengths)

-- the sizes: 01's number of values (SPEC 4.12), 32 bytes a value, the blocks
abbrev pub sizes_of : ℕ → ℕ → ℕ → List ℕ → Sizes
sizes_of scheme n d lengths =
    record {
      values = length (chains scheme n d);
      bytes = 32 * length (chains scheme n d);
      blocks = blocks_through scheme n lengths d;
    }

-- what forecast gives
unfoldable pub forecasted : ℕ → ℕ → ℕ → ℕ → List ℕ → Result Sizes Refusal
forecasted scheme n f d lengths = answered (sizing_tested scheme n f d lengths) (sizes_of scheme n d lengths)
