-- What holds of every call of check. Statements only; proofs/Statements.antt proves each.
use Rattle.std.specs.Prelude.{◌≡◌, ◌↔◌, List, [], ℕ, ◌*◌, ◌<◌, length, get_or, take, drop, Ok}
use Rattle.evidence.specs.Evidence.{value}
use Rattle.layouts.specs.Layouts.{chains}
use Rattle.ledger.specs.Ledger.{start_of, days_of}
use Rattle.sha256.specs.Sha256.{sha256}
use Rattle.chains.specs.Book.{start}
use Rattle.checking.specs.Contract.{checked}

-- ---- the outcomes: demand 2, "a check passes a value exactly when rehashing gives it again" (SPEC 7.5)

-- the book's i-th 32 bytes are the value that rehashing the ledger's days gives
abbrev pub StandsInBook : ℕ → ℕ → ℕ → List ℕ → List ℕ → List ℕ → ℕ → Type 0
StandsInBook scheme n d ledger ends book i =
    take 32 (drop (32 * i) book) ≡
    value sha256 (start scheme n) (days_of ledger ends d) (get_or (chains scheme n d) i [])

-- 1 exactly if it does, 0 exactly if it does not
abbrev pub PassesIfStored : Type 0
PassesIfStored =
    (scheme n f d : ℕ) (ledger ends book work outcomes : List ℕ) →
    (checked scheme n f d ledger ends book work outcomes).answer ≡ Ok tt →
    (i : ℕ) → i < length (chains scheme n d) →
    ((get_or (checked scheme n f d ledger ends book work outcomes).outcomes i 0 ≡ 1) ↔
    StandsInBook scheme n d ledger ends book i) ×
    ((get_or (checked scheme n f d ledger ends book work outcomes).outcomes i 0 ≡ 0) ↔
    (StandsInBook scheme n d ledger ends book i → ⊥))

-- ---- what is read

-- only the first d ends, the ledger up to end d and the needed front of the book (SPEC 7.3)
abbrev pub ReadsOnly : Type 0
ReadsOnly =
    (scheme n f d : ℕ) (ledger ends book work outcomes : List ℕ) →
    checked scheme n f d ledger ends book work outcomes ≡
    checked scheme n f d (take (start_of ends d) ledger) (take d ends)
    (take (32 * length (chains scheme n d)) book) work outcomes
