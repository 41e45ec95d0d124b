-- 02's forecast met (C-11, SPEC 17.5): over every list of calls, the blocks of a season's calls that seal its days 1 to
-- d are those forecast from the lengths of these days.
use Rattle.std.specs.Prelude.{◌≡◌, true, List, map, ℕ, ◌*◌, ◌≤◌, length, take, Ok}
use Rattle.refusals.specs.Refusals.{number_of}
use Rattle.layouts.specs.Layouts.{allowed_d, chains}
use Rattle.service.specs.Contract.{opened}
use Rattle.journal.specs.Run.{Call, called_all, blocks_to, made_in}
use Rattle.sizing.specs.Sizing.{blocks_through, forecasted}
use Rattle.daybook.specs.Claim.{sealed}

module _ (scheme n f : ℕ) (cs : List Call) (t : ℕ) where
  -- the lengths of the diary's entries of season t, and the blocks of its calls up to its d-th accepted close
  abbrev pub lengths : List ℕ
  lengths = map length (sealed scheme n cs t)

  abbrev pub blocks_taken : ℕ → ℕ
  blocks_taken d = blocks_to (made_in t (called_all (opened scheme n f).state cs)) d

  pub record ForecastMet (d : ℕ) : Type 0 where
    pub met : blocks_taken d ≡ blocks_through scheme n lengths d
    -- where 01 allows d, the call, lent any lengths that begin with these, is not refused and gives this number, beside
    -- that of the layout's values and 32 bytes for each
    pub told : allowed_d n f d ≡ true → (lent : List ℕ) → take d lent ≡ take d lengths →
        forecasted scheme n f d lent ≡ Ok (record {
          values = length (chains scheme n d);
          bytes = 32 * length (chains scheme n d);
          blocks = blocks_taken d;
        })

abbrev pub ForecastsMet : Type 0
ForecastsMet =
    (scheme n f : ℕ) → number_of (opened scheme n f).answer ≡ 0 → (cs : List Call) (t d : ℕ) →
    d ≤ length (sealed scheme n cs t) → ForecastMet scheme n f cs t d
