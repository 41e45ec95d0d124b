-- What holds of every call of read. Statements only; proofs/Statements.antt proves each.
use Rattle.std.specs.Prelude.{◌≡◌, ◌↔◌, ◌⊎◌, true, false, List, ℕ, ◌≤◌, length, take, drop}
use Rattle.lists.specs.Lists.{◌among◌, Ascends}
use Rattle.evidence.specs.Evidence.{Gives}
use Rattle.layouts.specs.Layouts.{divides, layout_refusal, chains}
use Rattle.reading.specs.Numbers.{validation_before}
use Rattle.reading.specs.declared.Numbers.{Numbers}
use Rattle.reading.specs.declared.Reading.{Reading}
use Rattle.reading.specs.declared.Reading.TheVariants.{Clean, Changed, Refused}
use Rattle.reading.specs.Contract.{Report, report_of, table_in, bits, allowed_passed, Readout, readout}

-- ---- acceptance: demand 2's last sentence (SPEC 9.2)

-- tests 1 2 3 7 19 8 12 find no cause
pub record Supplied (scheme n f d passed : ℕ) (outcomes list : List ℕ) : Type 0 where
  pub layout : layout_refusal scheme n f d ≡ 0
  pub passed_ok : allowed_passed n d passed ≡ true
  pub places : d ≤ length list
  pub enough : length (chains scheme n d) ≤ length outcomes

-- some set gives the table (SPEC 8.4)
abbrev pub SomeSet : ℕ → ℕ → ℕ → List ℕ → Type 0
SomeSet scheme n d outcomes = (S : List ℕ) × Gives (chains scheme n d) d S (table_in scheme n d outcomes)

-- a table is read exactly if some set gives it; one that is not of 0 and 1 no set gives
abbrev pub ReadIfGiven : Type 0
ReadIfGiven =
    (scheme n f d passed : ℕ) (outcomes list : List ℕ) → Supplied scheme n f d passed outcomes list →
    ((readout scheme n f d passed outcomes list).report.refusal ≡ 0) ↔ SomeSet scheme n d outcomes

-- 14 is said exactly if the outcomes needed are 0 and 1 and no set gives them
abbrev pub SaysNoSet : Type 0
SaysNoSet =
    (scheme n f d passed : ℕ) (outcomes list : List ℕ) → Supplied scheme n f d passed outcomes list →
    ((readout scheme n f d passed outcomes list).report.refusal ≡ 14) ↔
    ((bits (table_in scheme n d outcomes) ≡ true) × (SomeSet scheme n d outcomes → ⊥))

-- ---- 02's P (SPEC 19)

-- 19 is said exactly if tests 1 2 3 7 find no cause, and P is not below D or N does not divide it (SPEC 10.19)
abbrev pub SaysNotPassed : Type 0
SaysNotPassed =
    (scheme n f d passed : ℕ) (outcomes list : List ℕ) →
    ((readout scheme n f d passed outcomes list).report.refusal ≡ 19) ↔
    ((layout_refusal scheme n f d ≡ 0) × ((d ≤ passed) ⊎ (divides n passed ≡ false)))

-- D − F·N, 01's P, is always let pass (SPEC 19.4)
abbrev pub ValidationAllowed : Type 0
ValidationAllowed =
    (scheme n f d : ℕ) → layout_refusal scheme n f d ≡ 0 → allowed_passed n d (validation_before n f d) ≡ true

-- two calls that differ in P alone, both let pass: all but low is the same (SPEC 19.2)
pub record SameButLow (a b : Readout) : Type 0 where
  pub refusal : a.report.refusal ≡ b.report.refusal
  pub clean : a.report.clean ≡ b.report.clean
  pub listed : a.report.listed ≡ b.report.listed
  pub first : a.report.first ≡ b.report.first
  pub high : a.report.high ≡ b.report.high
  pub last_good : a.report.last_good ≡ b.report.last_good
  pub list : a.list ≡ b.list

abbrev pub MovesLowAlone : Type 0
MovesLowAlone =
    (scheme n f d p q : ℕ) (outcomes list : List ℕ) → allowed_passed n d p ≡ true → allowed_passed n d q ≡ true →
    SameButLow (readout scheme n f d p outcomes list) (readout scheme n f d q outcomes list)

-- ---- the days listed

-- the first places hold, ascending, the days of the sets that give the table (SPEC 8.5); the rest of the list stays
pub record ListsDays (scheme n d : ℕ) (outcomes list : List ℕ) (r : Readout) : Type 0 where
  pub counted : length (take r.report.listed r.list) ≡ r.report.listed
  pub ascending : Ascends 1 (take r.report.listed r.list)
  pub days : (g : ℕ) → (g among take r.report.listed r.list) ↔
      ((S : List ℕ) × Gives (chains scheme n d) d S (table_in scheme n d outcomes) × (g among S))
  pub rest : drop r.report.listed r.list ≡ drop r.report.listed list

abbrev pub ListsDaysOfSets : Type 0
ListsDaysOfSets =
    (scheme n f d passed : ℕ) (outcomes list : List ℕ) →
    (readout scheme n f d passed outcomes list).report.refusal ≡ 0 →
    ListsDays scheme n d outcomes list (readout scheme n f d passed outcomes list)

-- outcomes past the values are not read (SPEC 8.1)
abbrev pub OutcomesRead : Type 0
OutcomesRead =
    (scheme n f d passed : ℕ) (outcomes list : List ℕ) →
    readout scheme n f d passed outcomes list ≡ readout scheme n f d passed (table_in scheme n d outcomes) list

-- ---- the answer: what the contract says of it leaves no choice

-- which case it is (SPEC 8.10), by what the call says
pub record CaseOf (a : Reading) (r : Report) : Type 0 where
  pub clean : (a ≡ Clean) ↔ ((r.refusal ≡ 0) × (r.listed ≡ 0))
  pub changed : ((m : Numbers) × (a ≡ Changed m)) ↔ ((r.refusal ≡ 0) × (1 ≤ r.listed))
  pub refused : (number : ℕ) → (a ≡ Refused number) ↔ ((r.refusal ≡ number) × (1 ≤ number))

abbrev pub CaseTold : Type 0
CaseTold =
    (scheme n f d passed : ℕ) (outcomes list : List ℕ) (a : Reading) →
    report_of d a ≡ (readout scheme n f d passed outcomes list).report →
    CaseOf a (readout scheme n f d passed outcomes list).report

abbrev pub OneAnswer : Type 0
OneAnswer =
    (scheme n f d passed : ℕ) (outcomes list : List ℕ) (a b : Reading) →
    report_of d a ≡ (readout scheme n f d passed outcomes list).report →
    report_of d b ≡ (readout scheme n f d passed outcomes list).report →
    a ≡ b
