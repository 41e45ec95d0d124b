-- What a call leaves, from what its tests said and what was written.
use mathlib.Core.Path.{◌≡◌, sym}
use mathlib.Core.List.{List, ◌++◌}
use Prim.Native.Nat.{ℕ, ◌*◌}
use lib.ListN.{length, drop}
use Rattle.std.specs.Prelude.{Ok, Err}
use Rattle.refusals.specs.declared.Refusal.{Refusal}
use Rattle.refusals.proofs.TestLaws.{old_stays, front_stands}
use Rattle.layouts.specs.Layouts.{chains}
use Rattle.checking.specs.Contract.{check_tested, digests_of, outcomes_of, checked}
use Rattle.checking.proofs.Through.{digests_length, outcomes_length}

module _ (s n f d : ℕ) (ledger ends book work outcomes : List ℕ) where
  pub checked_refused : {r : Refusal} → check_tested s n f d ends (length ledger) (length book) (length work) (length outcomes) ≡ Err r →
      (Err r ≡ (checked s n f d ledger ends book work outcomes).answer) ×
      ((work ≡ (checked s n f d ledger ends book work outcomes).work) × (outcomes ≡ (checked s n f d ledger ends book work outcomes).outcomes))
  unfolding checked
  checked_refused e = (sym e, (sym (old_stays _ _ work e), sym (old_stays _ _ outcomes e)))

  pub checked_done : check_tested s n f d ends (length ledger) (length book) (length work) (length outcomes) ≡ Ok tt → {w o : List ℕ} →
      w ≡ digests_of ledger ends d ++ drop (32 * d) work → o ≡ outcomes_of s n d ledger ends book ++ drop (length (chains s n d)) outcomes →
      (Ok tt ≡ (checked s n f d ledger ends book work outcomes).answer) ×
      ((w ≡ (checked s n f d ledger ends book work outcomes).work) × (o ≡ (checked s n f d ledger ends book work outcomes).outcomes))
  unfolding checked
  checked_done e {w} {o} p q = (
    sym e,
    (
      front_stands _ (digests_of ledger ends d) work w (32 * d) e (digests_length ledger ends d) p,
      front_stands _ (outcomes_of s n d ledger ends book) outcomes o (length (chains s n d)) e (outcomes_length s n d ledger ends book) q,
    ),
  )
