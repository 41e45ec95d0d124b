-- Ends at 01's limits, computed: what the definitions say of them.
use mathlib.Core.{Path.◌≡◌, Path.refl, List.[], List.◌∷◌}
use Rattle.ledger.specs.Ledger.{days_of, ends_tested, ends_refusal}

-- an end equal to the ledger's length is allowed, and so is an empty day; one more is 10
pub at_the_length : (ends_refusal 2 (5 ∷ 5 ∷ []) 5 ≡ 0) × (ends_refusal 2 (5 ∷ 6 ∷ []) 5 ≡ 10)
unfolding ends_tested
at_the_length = (refl, refl)

-- a day of exactly the limit is allowed; one more is 10
pub at_the_limit : (ends_refusal 1 (16777216 ∷ []) 20000000 ≡ 0) × (ends_refusal 1 (16777217 ∷ []) 20000000 ≡ 10)
unfolding ends_tested
at_the_limit = (refl, refl)

-- an end below the one before is 10; past the first d ends none is looked at; fewer are 9
pub first_ends : (ends_refusal 2 (3 ∷ 2 ∷ []) 3 ≡ 10) × (ends_refusal 1 (3 ∷ 2 ∷ []) 3 ≡ 0) × (ends_refusal 3 (3 ∷ 2 ∷ []) 3 ≡ 9)
unfolding ends_tested
first_ends = (refl, refl, refl)

-- three days, the second empty
pub three_days : days_of (7 ∷ 8 ∷ 9 ∷ 4 ∷ []) (1 ∷ 1 ∷ 3 ∷ []) 3 ≡ (7 ∷ []) ∷ [] ∷ (8 ∷ 9 ∷ []) ∷ []
unfolding days_of
three_days = refl
