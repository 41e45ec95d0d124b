-- The refusal by the tests, and what no refusal leaves.
use mathlib.Core.Path.{◌≡◌, refl, sym}
use mathlib.Core.Logic.{◌⊎◌, inl, inr}
use mathlib.Core.List.{List, ◌++◌}
use Prim.Native.Nat.{ℕ, ◌*◌, ◌≤◌, ◌<◌}
use lib.Dec.{leb}
use lib.ListN.{length}
use borrow.Author.Tests.{leb-true, le-leb, lt-leb}
use Rattle.lists.proofs.Laws.{and_both}
use Rattle.std.specs.Prelude.{true, Ok, Err}
use Rattle.refusals.specs.Refusals.{book_limit, tested}
use Rattle.refusals.specs.declared.Refusal.{Refusal}
use Rattle.refusals.specs.declared.Refusal.TheVariants as cause
use Rattle.refusals.proofs.TestLaws.{none_fails, no_refusal, pass_split, refused_before, passed_before}
use Rattle.layouts.specs.Layouts.{allowed_scheme, allowed_n, layout_tests, chains}
use Rattle.layouts.proofs.AllowedLaws.{layout_passed, allowed_d_is}
use Rattle.ledger.specs.Ledger.{ends_tests, ends_tested, ledger_tests, ledger_tested}
use Rattle.ledger.proofs.LedgerLaws.{ledger_asks}
use Rattle.ledger.proofs.EndLaws.{refusal_none}
use Rattle.checking.specs.Contract.{room_tests, check_tests, check_tested, check_refusal}
use Rattle.checking.specs.Private.{Ready}

-- ---- tests 1 2 3 7 9 10 11 8

module _ (s n f d : ℕ) (ends : List ℕ) (size book work places : ℕ) where
  pub check_early : {r : Refusal} → ledger_tested s n f d ends size ≡ Err r → Err r ≡ check_tested s n f d ends size book work places
  unfolding ledger_tested check_tested
  check_early e = sym (refused_before (ledger_tests s n f d ends size) (room_tests s n d book work places) e)

  module _ (e : ledger_tested s n f d ends size ≡ Ok tt) where
    check_late : check_tested s n f d ends size book work places ≡ tested (room_tests s n d book work places)
    unfolding ledger_tested check_tested
    check_late = passed_before (ledger_tests s n f d ends size) (room_tests s n d book work places) e

    pub check_asks : (allowed_scheme s ≡ true) × (allowed_n n ≡ true) × (d ≤ book_limit)
    check_asks = ledger_asks s n f d ends size e

    module _ {k : ℕ} (c : k ≡ length (chains s n d)) where
      pub room_11 : book < 32 * k → Err cause.ShortBook ≡ check_tested s n f d ends size book work places
      room_11 h = rw (check_late, ← c, lt-leb (32 * k) book h) refl

      pub room_8 : 32 * k ≤ book → (work < 32 * d) ⊎ ((32 * d ≤ work) × (places < k)) → Err cause.ShortBuffer ≡ check_tested s n f d ends size book work places
      room_8 h (inl l) = rw (check_late, ← c, le-leb (32 * k) book h, lt-leb (32 * d) work l) refl
      room_8 h (inr l) = rw (check_late, ← c, le-leb (32 * k) book h, le-leb (32 * d) work l.0, lt-leb k places l.1) refl

      pub room_passed : 32 * k ≤ book → 32 * d ≤ work → k ≤ places → Ok tt ≡ check_tested s n f d ends size book work places
      room_passed h l m = rw (check_late, ← c, le-leb (32 * k) book h, le-leb (32 * d) work l, le-leb k places m) refl

  pub check_ready : check_refusal s n f d ends size book work places ≡ 0 → Ready s n d ends size book work places
  unfolding check_tested ends_tested
  check_ready e =
      let a = pass_split (layout_tests s n f d) (ends_tests d ends size ++ room_tests s n d book work places) (none_fails (check_tests s n f d ends size book work places) e) in
      let b = pass_split (ends_tests d ends size) (room_tests s n d book work places) a.1 in
      let l = layout_passed s n f d a.0 in
      let g = and_both (leb (32 * d) work) (leb (length (chains s n d)) places) b.1.1.0 in
      record {
        scheme_ok = l.0.scheme_ok;
        n_ok = l.0.n_ok;
        days_most = (allowed_d_is n f d l.1).most;
        ends_hold = refusal_none d ends size (no_refusal (ends_tests d ends size) b.0);
        book_long = leb-true (32 * length (chains s n d)) book b.1.0;
        work_long = leb-true (32 * d) work g.0;
        outcomes_long = leb-true (length (chains s n d)) places g.1;
      }
