-- The tests with which checking a ledger and sealing one begin.
use mathlib.Core.{Path.◌≡◌, Path.sym, Bool.true, List.List}
use Prim.Native.Nat.{ℕ, ◌≤◌}
use Rattle.std.specs.Prelude.{Ok, Err}
use Rattle.refusals.specs.Refusals.{book_limit}
use Rattle.refusals.specs.declared.Refusal.{Refusal}
use Rattle.refusals.proofs.TestLaws.{none_fails, no_refusal, pass_split, refused_before, passed_before, number_passed, passed_number}
use Rattle.layouts.specs.Layouts.{allowed_scheme, allowed_n, layout_tests, layout_tested, layout_refusal}
use Rattle.layouts.proofs.AllowedLaws.{layout_asks}
use Rattle.ledger.specs.Ledger.{ends_tests, ends_tested, ledger_tests, ledger_tested, ledger_refusal}

module _ (s n f d : ℕ) (ends : List ℕ) (size : ℕ) where
  pub ledger_early : {r : Refusal} → layout_tested s n f d ≡ Err r → Err r ≡ ledger_tested s n f d ends size
  unfolding layout_tested ledger_tested
  ledger_early e = sym (refused_before (layout_tests s n f d) (ends_tests d ends size) e)

  pub ledger_late : layout_tested s n f d ≡ Ok tt → ends_tested d ends size ≡ ledger_tested s n f d ends size
  unfolding layout_tested ends_tested ledger_tested
  ledger_late e = sym (passed_before (layout_tests s n f d) (ends_tests d ends size) e)

  pub ledger_layout : ledger_refusal s n f d ends size ≡ 0 → layout_refusal s n f d ≡ 0
  unfolding layout_tested ledger_tested
  ledger_layout e = no_refusal (layout_tests s n f d) (pass_split (layout_tests s n f d) (ends_tests d ends size) (none_fails (ledger_tests s n f d ends size) e)).0

  -- what the layouts ask of a call whose tests found no cause
  pub ledger_asks : ledger_tested s n f d ends size ≡ Ok tt → (allowed_scheme s ≡ true) × (allowed_n n ≡ true) × (d ≤ book_limit)
  ledger_asks e = layout_asks s n f d (number_passed (layout_tested s n f d) (ledger_layout (passed_number (ledger_tested s n f d ends size) e)))

-- what the tests of a ledger go by
pub ruleset ledger_laws = (ledger_early, ledger_late)
