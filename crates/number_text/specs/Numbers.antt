-- Numbers as text: digits, fields that a mark ends, decimals. Definitions only.
use Rattle.std.specs.Prelude.{◌≡◌, Bool, true, false, not, ◌&&◌, ◌||◌, cond, List, [], ◌∷◌, ◌++◌}
use Rattle.std.specs.Prelude.{ℕ, zero, suc, ◌+◌, ◌-◌, ◌*◌, ◌/◌, ◌%◌, eqb, leb, ltb, length, take, drop, get_or}

abbrev pub comma : ℕ
comma = 44

abbrev pub line_feed : ℕ
line_feed = 10

-- ---- reading

-- a byte from '0' to '9', and the number that it stands for
abbrev pub is_digit : ℕ → Bool
is_digit b = leb 48 b && leb b 57

abbrev pub digit_of : ℕ → ℕ
digit_of b = b - 48

-- the digits before the first byte that is none, and what follows them
abbrev pub digits : List ℕ → List ℕ
digits [] = []
digits (b ∷ s) = cond (is_digit b) (b ∷ digits s) []

unfoldable pub after_digits : List ℕ → List ℕ
after_digits s = drop (length (digits s)) s

-- 1 to 5 digits, no leading zeros, zero as 0 (SPEC 12.1)
unfoldable pub is_number : List ℕ → Bool
is_number ds = (leb 1 (length ds) && leb (length ds) 5) && (eqb (length ds) 1 || not (eqb (get_or ds 0 0) 48))

-- the number that digits write, here going on from v
abbrev pub number_from : ℕ → List ℕ → ℕ
number_from v [] = v
number_from v (b ∷ ds) = number_from (10 * v + digit_of b) ds

-- digits only, as a number is written
pub record Number (ds : List ℕ) : Type 0 where
  pub only_digits : digits ds ≡ ds
  pub shaped : is_number ds ≡ true

-- the first byte is the mark
abbrev pub starts_with : ℕ → List ℕ → Bool
starts_with mark [] = false
starts_with mark (b ∷ s) = eqb b mark

-- a field: a number, and then its mark
unfoldable pub is_field : ℕ → List ℕ → Bool
is_field mark s = is_number (digits s) && starts_with mark (after_digits s)

-- the number of a field; one of more than five digits is no field
unfoldable pub value_in : List ℕ → ℕ
value_in s = number_from 0 (take 5 (digits s))

-- what follows its mark
unfoldable pub after_field : List ℕ → List ℕ
after_field s = drop 1 (after_digits s)

-- ---- writing

-- x in decimal, no leading zeros (SPEC 12.4), for x of at most k digits
abbrev pub decimal_in : ℕ → ℕ → List ℕ
decimal_in zero x = []
decimal_in (suc k) x = cond (ltb x 10) ((48 + x) ∷ []) (decimal_in k (x / 10) ++ ((48 + x % 10) ∷ []))

-- ten digits hold every number of 32 bits
unfoldable pub decimal : ℕ → List ℕ
decimal x = decimal_in 10 x

-- each number after a comma
abbrev pub comma_numbers : List ℕ → List ℕ
comma_numbers [] = []
comma_numbers (x ∷ xs) = (comma ∷ decimal x) ++ comma_numbers xs
