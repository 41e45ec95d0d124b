-- What private contracts cite: what holds of ends that pass tests 9 and 10. Definitions only.
use Rattle.std.specs.Prelude.{ℕ, ◌-◌, ◌≤◌, ◌<◌, List, length}
use Rattle.refusals.specs.Refusals.{day_limit}
use Rattle.ledger.specs.Ledger.{start_of, end_of}

-- what no refusal says; the laws `refusal_none` and `none_refusal`: it is this exactly
pub record EndsHold (d : ℕ) (ends : List ℕ) (size : ℕ) : Type 0 where
  pub enough : d ≤ length ends
  pub ascend : (i : ℕ) → i < d → start_of ends i ≤ end_of ends i
  pub within : (i : ℕ) → i < d → end_of ends i ≤ size
  pub limited : (i : ℕ) → i < d → end_of ends i - start_of ends i ≤ day_limit
