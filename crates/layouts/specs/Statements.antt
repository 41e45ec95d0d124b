-- What is proved of the layouts (proofs/AllowedLaws).
use mathlib.Core.{Path.◌≡◌, Bool.true}
use Rattle.std.specs.Prelude.{List, ◌++◌, ℕ, ◌-◌, ◌/◌, ◌%◌, ◌^◌, ◌≤◌, ◌<◌}
use lib.{Dec.eqb, ListN.length}
use Rattle.layouts.specs.Layouts.{allowed_n, lg, covers, layout_refusal, chains, value_count}

-- 01's number of values (SPEC 4.12) is the number of the layout's chains, wherever 01 allows the number of days
abbrev pub ValuesCounted : Type 0
ValuesCounted =
    (scheme n f d : ℕ) → layout_refusal scheme n f d ≡ 0 → value_count scheme n d ≡ length (chains scheme n d)

-- the values of fewer days are the front of a book (SPEC 4.10)
abbrev pub BookFront : Type 0
BookFront =
    (scheme n d e : ℕ) → d ≤ e → (later : List (List ℕ)) × (chains scheme n e ≡ chains scheme n d ++ later)

-- 01's cover (SPEC 4.7) by one rule, from c(0) to c(lg n): o shifted by lg n - i is even
abbrev pub CoverByArithmetic : Type 0
CoverByArithmetic =
    (n i o : ℕ) → allowed_n n ≡ true → i ≤ lg n → o < n → covers n i o ≡ eqb (o / 2 ^ (lg n - i) % 2) 0
