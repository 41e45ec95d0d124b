-- What private contracts cite: sums over sets by sums over pairs and triples; the lines as the program orders them.
-- Definitions only; the laws `figures_told` and `printed_once` lead them back to the request's.
use Rattle.std.specs.Prelude.{◌≡◌, true, ℕ, zero, suc, ◌+◌, ◌-◌, ◌*◌, ◌/◌, ◌^◌, ◌≤◌}
use mathlib.Core.List.{List, [], ◌∷◌, flat_map}
use Rattle.lists.specs.Lists.{up_from}
use Rattle.layouts.specs.Layouts.{allowed_n}
use Rattle.ambiguity.specs.Ambiguity.{Asked}

-- an N and a k that are counted
pub record Countable (n k : ℕ) : Type 0 where
  pub n_ok : allowed_n n ≡ true
  pub small : n ≤ 64
  pub some : 1 ≤ k
  pub most : k ≤ 3

-- sums over single numbers, pairs and triples of something that goes by the members alone, in terms of the sums over
-- the sets of two and of three: among the pairs stand each set of two twice and each single once; among the triples
-- each set of three six times, each of two six times, each single once
pub record Tuples (one two three : ℕ) : Type 0 where
  pub pairs : ℕ
  pub triples : ℕ
  pub two_is : two ≡ one + 2 * pairs
  pub three_is : three ≡ one + 6 * pairs + 6 * triples
  pub small : three ≤ 16777216

-- so over the sets of k
unfoldable pub of_tuples : ℕ → ℕ → ℕ → ℕ → ℕ
of_tuples zero one two three = 0
of_tuples (suc zero) one two three = one
of_tuples (suc (suc zero)) one two three = (two - one) / 2
of_tuples (suc (suc (suc k))) one two three = (three + 2 * one - 3 * two) / 6

-- the order that the program takes (DECISIONS): N ascending, then k ascending
abbrev pub asked_of : ℕ → List Asked
asked_of n = record { n = n; k = 1 } ∷ record { n = n; k = 2 } ∷ record { n = n; k = 3 } ∷ []

abbrev pub ascending : ℕ → List Asked  -- for the first i powers of two
ascending i = flat_map (λ e. asked_of (2 ^ e)) (up_from 0 i)
