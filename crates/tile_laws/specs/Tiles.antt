-- What is proved of a tile, for every N, F and D that 01 allows, every set of days and every tile (SPEC 21.5).
-- Definitions and statements; proofs/TileLaws.antt proves each.
use Rattle.std.specs.Prelude.{◌≡◌, Bool, true, cond, List, map, ℕ, zero, suc, ◌/◌, ◌%◌, ◌^◌, ◌≤◌, eqb, length}
use Rattle.lists.specs.Lists.{has, every, keep, up_from}
use Rattle.evidence.specs.Evidence.{set_outcome, table_of, Within, listing}
use Rattle.layouts.specs.Layouts.{divides, lg, tile, last_days, offset, covered_days, chains, layout_refusal}

-- of some days, those in the tile that ends at g; and 01's offsets of these (SPEC 4.7)
abbrev pub in_tile : ℕ → ℕ → List ℕ → List ℕ
in_tile n g days = keep (λ x. has x (last_days n g)) days

abbrev pub offsets_in : ℕ → ℕ → List ℕ → List ℕ
offsets_in n g days = map (offset n) (in_tile n g days)

-- bit of weight w is 1 in an offset
abbrev pub bit_is1 : ℕ → ℕ → Bool
bit_is1 w o = eqb (o / w % 2) 1

-- c(i) passes, by the offsets of a set's days in the tile: c(0) if there are none; c(i) from i = 1 if the bit of weight
-- n / 2^i is 1 in each
abbrev pub passes_by_bits : ℕ → ℕ → List ℕ → Bool
passes_by_bits n zero offsets = eqb (length offsets) 0
passes_by_bits n (suc i) offsets = every (bit_is1 (n / 2 ^ suc i)) offsets

-- which tile chains pass for a set of days
abbrev pub ChainsByBits : Type 0
ChainsByBits =
    (n i g : ℕ) (S : List ℕ) →
    set_outcome S (covered_days n (tile i g)) ≡ cond (passes_by_bits n i (offsets_in n g S)) 1 0

-- the chains from c(1) on that fail
abbrev pub failing : ℕ → ℕ → List ℕ → List ℕ
failing n g S = keep (λ i. eqb (set_outcome S (covered_days n (tile i g))) 0) (up_from 1 (lg n))

-- a tile whose c(0) fails lists 2^z days, z of its chains from c(1) on failing
abbrev pub FailedTileLists : Type 0
FailedTileLists =
    (n f d g : ℕ) (S : List ℕ) → layout_refusal 2 n f d ≡ 0 → Within d S →
    1 ≤ g → g ≤ d → divides n g ≡ true → set_outcome S (covered_days n (tile 0 g)) ≡ 0 →
    length (in_tile n g (listing (chains 2 n d) d (table_of (chains 2 n d) S))) ≡ 2 ^ length (failing n g S)
