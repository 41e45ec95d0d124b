-- What sealing a whole ledger in one call answers and writes (SPEC 15.2). Definitions only.
use Rattle.std.specs.Prelude.{List, [], ◌∷◌, ◌++◌, ℕ, ◌*◌, leb, length, Result}
use Rattle.refusals.specs.declared.Refusal.{Refusal}
use Rattle.refusals.specs.declared.Refusal.TheVariants as cause
use Rattle.refusals.specs.Refusals.{Test, ◌or_refuse◌, tested, number_of, front_written}
use Rattle.layouts.specs.Layouts.{chains}
use Rattle.ledger.specs.Ledger.{days_of, ledger_tests}
use Rattle.chains.specs.Book.{book_of}

-- tests 1 2 3 7 9 10 8 (SPEC 11.7); size is the ledger's length, room the book's
abbrev pub seal_tests : ℕ → ℕ → ℕ → ℕ → List ℕ → ℕ → ℕ → List Test
seal_tests scheme n f d ends size room =
    ledger_tests scheme n f d ends size ++ (leb (32 * length (chains scheme n d)) room or_refuse cause.ShortBuffer ∷ [])

unfoldable pub seal_tested : ℕ → ℕ → ℕ → ℕ → List ℕ → ℕ → ℕ → Result Unit Refusal
seal_tested scheme n f d ends size room = tested (seal_tests scheme n f d ends size room)

abbrev pub seal_refusal : ℕ → ℕ → ℕ → ℕ → List ℕ → ℕ → ℕ → ℕ
seal_refusal scheme n f d ends size room = number_of (seal_tested scheme n f d ends size room)

-- what seal answers, and the book as it leaves it: at its front 01's book (SPEC 4.13) over the ledger's days
pub record SealedBook : Type 0 where
  pub answer : Result Unit Refusal
  pub book : List ℕ

unfoldable pub sealed_book : ℕ → ℕ → ℕ → ℕ → List ℕ → List ℕ → List ℕ → SealedBook
sealed_book scheme n f d ledger ends book =
    let answer = seal_tested scheme n f d ends (length ledger) (length book) in
    let refusal = number_of answer in
    record { answer = answer; book = front_written refusal (book_of scheme n (days_of ledger ends d)) book }
