-- 02's book under another layout (C-17, SPEC 22.4): whatever the ledger, no value that was sealed passes.
use Rattle.std.specs.Prelude.{◌≡◌, ◌⊎◌, List, ℕ, ◌*◌, ◌<◌, length, get_or, take, drop, Ok}
use Rattle.refusals.specs.Refusals.{number_of}
use Rattle.evidence.specs.Evidence.{NoCollision, Collision}
use Rattle.layouts.specs.Layouts.{chains}
use Rattle.sha256.specs.Sha256.{sha256}
use Rattle.chains.specs.Book.{inputs_of}
use Rattle.service.specs.Contract.{opened}
use Rattle.journal.specs.Run.{Call}
use Rattle.daybook.specs.Detection.{Handed, ledger_days, checking}
use Rattle.daybook.specs.Claim.{sealed, wrote}

-- another layout: another scheme or another N
abbrev pub Another : ℕ → ℕ → ℕ → ℕ → Type 0
Another scheme n scheme₂ n₂ = (scheme ≡ scheme₂) × (n ≡ n₂) → ⊥

-- the inputs hashed at sealing and at checking, each for its own layout and days
abbrev pub at_sealing : ℕ → ℕ → List Call → ℕ → List (List ℕ)
at_sealing scheme n cs t = inputs_of scheme n (length (sealed scheme n cs t)) (sealed scheme n cs t)

abbrev pub at_checking : ℕ → ℕ → ℕ → Handed → List (List ℕ)
at_checking scheme n d x = inputs_of scheme n d (ledger_days d x)

-- the calls cs sealed season t under scheme, n and f; check is handed x under scheme₂, n₂, f₂ and d
pub record NonePasses (scheme n f : ℕ) (cs : List Call) (t scheme₂ n₂ f₂ d : ℕ) (x : Handed) : Type 0 where
  -- a value that was written, the j-th, wherever it stands in the book handed in, at place i
  pub anywhere : (i j : ℕ) → i < length (chains scheme₂ n₂ d) →
      j < length (chains scheme n (length (sealed scheme n cs t))) →
      take 32 (drop (32 * i) x.book) ≡ take 32 (drop (32 * j) (wrote scheme n f cs t)) →
      get_or (checking scheme₂ n₂ f₂ d x).outcomes i 0 ≡ 0
  -- so in a book that begins with the one written each of them, as far as check looks
  pub in_place : take (length (wrote scheme n f cs t)) x.book ≡ wrote scheme n f cs t →
      (i : ℕ) → i < length (chains scheme₂ n₂ d) → i < length (chains scheme n (length (sealed scheme n cs t))) →
      get_or (checking scheme₂ n₂ f₂ d x).outcomes i 0 ≡ 0

-- from an accepted open, for every list of calls, every season, every layout of another scheme or another N, and every
-- check that is not refused: if no two different inputs, one of each side, share a SHA-256 value
abbrev pub OtherLayoutFails : Type 0
OtherLayoutFails =
    (scheme n f : ℕ) → number_of (opened scheme n f).answer ≡ 0 → (cs : List Call) (t : ℕ) →
    (scheme₂ n₂ f₂ d : ℕ) → Another scheme n scheme₂ n₂ → (x : Handed) →
    (checking scheme₂ n₂ f₂ d x).answer ≡ Ok tt →
    NoCollision sha256 (at_sealing scheme n cs t) (at_checking scheme₂ n₂ d x) →
    NonePasses scheme n f cs t scheme₂ n₂ f₂ d x

-- and without the premise on collisions: this, or two inputs that collide, given explicitly
abbrev pub FailsOrCollides : Type 0
FailsOrCollides =
    (scheme n f : ℕ) → number_of (opened scheme n f).answer ≡ 0 → (cs : List Call) (t : ℕ) →
    (scheme₂ n₂ f₂ d : ℕ) → Another scheme n scheme₂ n₂ → (x : Handed) →
    (checking scheme₂ n₂ f₂ d x).answer ≡ Ok tt →
    NonePasses scheme n f cs t scheme₂ n₂ f₂ d x ⊎
    Collision sha256 (at_sealing scheme n cs t) (at_checking scheme₂ n₂ d x)
