-- What is written in decimal reads back. Statements only; proofs/ReadBack.antt proves each.
use Rattle.std.specs.Prelude.{◌≡◌, ℕ, ◌<◌, ◌^◌}
use Rattle.number_text.specs.Numbers.{digits, number_from, decimal, Number}

-- a number of at most ten digits is written by digits only, and they write that number
abbrev pub ReadsBack : Type 0
ReadsBack = (x : ℕ) → x < 10 ^ 10 → (digits (decimal x) ≡ decimal x) × (number_from 0 (decimal x) ≡ x)

-- one of at most five digits is a number as a field has it: no leading zeros
abbrev pub DecimalIsNumber : Type 0
DecimalIsNumber = (x : ℕ) → x < 10 ^ 5 → Number (decimal x)
