-- The record as bytes, as the C interface keeps it (SPEC 15.4): each number in 4 bytes, little-endian, no padding.
-- Definitions only.
use Rattle.std.specs.Prelude.{◌≡◌, List, [], ◌∷◌, ◌++◌, ℕ, zero, suc, ◌+◌, ◌*◌, ◌/◌, ◌%◌, ◌^◌, ◌<◌, length, get_or, take, drop}
use Rattle.chains.specs.declared.Value.{Value}
use Rattle.service.specs.declared.Record.{Record}

-- where the parts begin after 01's five numbers: the open day's hash, black, the running hashes, the open day's block,
-- the start of a chain, the season
abbrev pub hash_at : ℕ
hash_at = 20

abbrev pub black_at : ℕ
black_at = 52

abbrev pub running_at : ℕ
running_at = 84

abbrev pub block_at : ℕ
block_at = 628

abbrev pub start_at : ℕ
start_at = 692

abbrev pub season_at : ℕ
season_at = 724

-- the record's size in bytes
abbrev pub record_size : ℕ
record_size = 728

-- numbers as bytes, end to end
unfoldable pub numbers_bytes : List ℕ → List ℕ
numbers_bytes [] = []
numbers_bytes (x ∷ xs) = x % 256 ∷ x / 2 ^ 8 % 256 ∷ x / 2 ^ 16 % 256 ∷ x / 2 ^ 24 % 256 ∷ numbers_bytes xs

unfoldable pub slots_bytes : List Value → List ℕ
slots_bytes [] = []
slots_bytes (v ∷ vs) = numbers_bytes v.words ++ slots_bytes vs

-- the record's parts, end to end
unfoldable pub bytes_of_record : Record → List ℕ
bytes_of_record r =
    numbers_bytes (r.scheme ∷ r.n ∷ r.f ∷ r.days ∷ r.bytes ∷ [])
    ++ (numbers_bytes r.hash ++ (numbers_bytes r.black.words ++ (slots_bytes r.running ++ (r.block
    ++ (numbers_bytes r.start.words ++ numbers_bytes (r.season ∷ []))))))

-- the number at place i
unfoldable pub number_at : List ℕ → ℕ → ℕ
number_at b i = get_or b i 0 + get_or b (i + 1) 0 * 2 ^ 8 + get_or b (i + 2) 0 * 2 ^ 16 + get_or b (i + 3) 0 * 2 ^ 24

-- k numbers from place i on
unfoldable pub numbers_at : ℕ → List ℕ → ℕ → List ℕ
numbers_at zero b i = []
numbers_at (suc k) b i = number_at b i ∷ numbers_at k b (i + 4)

unfoldable pub value_at : List ℕ → ℕ → Value
value_at b i = record { words = numbers_at 8 b i }

-- k values from place i on
unfoldable pub slots_at : ℕ → List ℕ → ℕ → List Value
slots_at zero b i = []
slots_at (suc k) b i = value_at b i ∷ slots_at k b (i + 32)

-- the record that record_size bytes say, whatever they are; the laws `bytes_round_trip` and `record_round_trip`: the two
-- undo each other
unfoldable pub record_of : List ℕ → Record
record_of b =
    record {
      scheme = number_at b 0;
      n = number_at b 4;
      f = number_at b 8;
      days = number_at b 12;
      bytes = number_at b 16;
      hash = numbers_at 8 b hash_at;
      block = take 64 (drop block_at b);
      black = value_at b black_at;
      running = slots_at 17 b running_at;
      start = value_at b start_at;
      season = number_at b season_at;
    }

-- a record of the sizes and numbers that its type has: 32-bit numbers, 8 to a hash and to the start, 17 running hashes,
-- 64 bytes of block
abbrev pub Words : List ℕ → Type 0
Words l = (length l ≡ 8) × ((i : ℕ) → get_or l i 0 < 2 ^ 32)

abbrev pub Slots : List Value → Type 0
Slots [] = Unit {0}
Slots (v ∷ vs) = Words v.words × Slots vs

pub record Fits (r : Record) : Type 0 where
  pub counts : (r.scheme < 2 ^ 32) × (r.n < 2 ^ 32) × (r.f < 2 ^ 32) × (r.days < 2 ^ 32) × (r.bytes < 2 ^ 32)
  pub hash_fits : Words r.hash
  pub black_fits : Words r.black.words
  pub running_many : length r.running ≡ 17
  pub running_fit : Slots r.running
  pub block_many : length r.block ≡ 64
  pub start_fits : Words r.start.words
  pub season_fits : r.season < 2 ^ 32
