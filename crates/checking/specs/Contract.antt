-- 01's checking (SPEC 7): its tests, what it answers, and the work and outcome buffers after it. Definitions only.
use Rattle.std.specs.Prelude.{◌&&◌, ℕ, ◌*◌, leb, length, Result}
use mathlib.Core.List.{List, [], ◌∷◌, ◌++◌, flat_map}
use Rattle.evidence.specs.Evidence.{days, day_of, digest, check_outcomes}
use Rattle.refusals.specs.declared.Refusal.{Refusal}
use Rattle.refusals.specs.declared.Refusal.TheVariants as cause
use Rattle.refusals.specs.Refusals.{Test, ◌or_refuse◌, tested, number_of, front_written}
use Rattle.layouts.specs.Layouts.{chains}
use Rattle.ledger.specs.Ledger.{days_of, ledger_tests}
use Rattle.sha256.specs.Sha256.{sha256}
use Rattle.chains.specs.Book.{start}

-- 01's tests 11 8 (SPEC 10.11, 10.8); bookSize, workSize and places are the lengths of book, work and outcomes
abbrev pub room_tests : ℕ → ℕ → ℕ → ℕ → ℕ → ℕ → List Test
room_tests scheme n d bookSize workSize places =
    leb (32 * length (chains scheme n d)) bookSize or_refuse cause.ShortBook ∷
    (leb (32 * d) workSize && leb (length (chains scheme n d)) places) or_refuse cause.ShortBuffer ∷
    []

-- 01's tests 1 2 3 7 9 10 11 8 (SPEC 11.4); size is the ledger's length
abbrev pub check_tests : ℕ → ℕ → ℕ → ℕ → List ℕ → ℕ → ℕ → ℕ → ℕ → List Test
check_tests scheme n f d ends size bookSize workSize places =
    ledger_tests scheme n f d ends size ++ room_tests scheme n d bookSize workSize places

unfoldable pub check_tested : ℕ → ℕ → ℕ → ℕ → List ℕ → ℕ → ℕ → ℕ → ℕ → Result Unit Refusal
check_tested scheme n f d ends size bookSize workSize places =
    tested (check_tests scheme n f d ends size bookSize workSize places)

abbrev pub check_refusal : ℕ → ℕ → ℕ → ℕ → List ℕ → ℕ → ℕ → ℕ → ℕ → ℕ
check_refusal scheme n f d ends size bookSize workSize places =
    number_of (check_tested scheme n f d ends size bookSize workSize places)

-- the digests of the ledger's days, end to end (SPEC 7.4)
unfoldable pub digests_of : List ℕ → List ℕ → ℕ → List ℕ
digests_of ledger ends d = flat_map (λ g. digest sha256 (day_of (days_of ledger ends d) g)) (days d)

-- an outcome for each value in book order (SPEC 7.5): 1 exactly if the book has the value that rehashing the ledger's
-- days gives
unfoldable pub outcomes_of : ℕ → ℕ → ℕ → List ℕ → List ℕ → List ℕ → List ℕ
outcomes_of scheme n d ledger ends book =
    check_outcomes sha256 (start scheme n) (days_of ledger ends d) (chains scheme n d) book

-- all that a call leaves: its answer, the work buffer and the outcome buffer
pub record Checked : Type 0 where
  pub answer : Result Unit Refusal
  pub work : List ℕ
  pub outcomes : List ℕ

-- digests and outcomes stand before what stood in the buffers (SPEC 7.6); a refusal changes nothing
unfoldable pub checked : ℕ → ℕ → ℕ → ℕ → List ℕ → List ℕ → List ℕ → List ℕ → List ℕ → Checked
checked scheme n f d ledger ends book work outcomes =
    let answer = check_tested scheme n f d ends (length ledger) (length book) (length work) (length outcomes) in
    let refusal = number_of answer in
    record {
      answer = answer;
      work = front_written refusal (digests_of ledger ends d) work;
      outcomes = front_written refusal (outcomes_of scheme n d ledger ends book) outcomes;
    }
