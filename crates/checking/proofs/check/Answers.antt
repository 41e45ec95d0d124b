-- `checking::check` meets its contract.
use mathlib.Core.Path.{sym}
use Rattle.std.proofs.lemmas.Result.{err_from_is_err_and}
use Rattle.refusals.proofs.TestLaws.{passed_number}
use Rattle.checking.proofs.RefusalLaws.{check_ready}
use Rattle.checking.proofs.CallLaws.{checked_refused, checked_done}
use Rattle.checking.proofs.Through.{new_fresh, new_ready, new_outcomes}
use Rattle.checking.proofs.check.Goals as goal

pub returns-in_err-test_check : goal.returns-in_err-test_check
returns-in_err-test_check c =
    let a = c.args in
    let p = err_from_is_err_and c.from_residual.result c.from_residual.ensures.1 in
    let all = checked_refused _ _ _ _ a.ledger.now _ a.book.now a.work.now a.outcomes.now (sym c.in_err-test_check.ensures) in
    record { value = rw (p.1, p.2) all.0; work_after = all.1.0; outcomes_after = all.1.1 }

pub new-requires : goal.new-requires
new-requires c = (check_ready _ _ _ _ _ _ _ _ _ (passed_number _ (sym c.in_ok-test_check.ensures))).n_ok

pub check_days-requires : goal.check_days-requires
check_days-requires c =
    let ok = rw c.if-scheme-eq-BLACK.true at (check_ready _ _ _ _ _ _ _ _ _ (passed_number _ (sym c.in_ok-test_check.ensures))) in
    record { ready = new_ready c.new.ensures ok; first_day = new_fresh c.new.ensures }

pub returns-then-scheme-eq-BLACK : goal.returns-then-scheme-eq-BLACK
returns-then-scheme-eq-BLACK c =
    let a = c.args in
    let o = new_outcomes c.new.ensures a.d a.ledger.now a.ends.now a.book.now a.outcomes.now c.check_days.ensures.outcomes_after in
    let all = checked_done _ _ _ _ a.ledger.now _ a.book.now a.work.now a.outcomes.now (sym c.in_ok-test_check.ensures)
    c.check_days.ensures.work_after (rw c.if-scheme-eq-BLACK.true o) in
    record { value = all.0; work_after = all.1.0; outcomes_after = all.1.1 }

pub new-requires-else-scheme-eq-BLACK : goal.new-requires-else-scheme-eq-BLACK
new-requires-else-scheme-eq-BLACK c =
    let ok = check_ready _ _ _ _ _ _ _ _ _ (passed_number _ (sym c.in_ok-test_check.ensures)) in
    (ok.scheme_ok, ok.n_ok)

pub check_days-requires-else-scheme-eq-BLACK : goal.check_days-requires-else-scheme-eq-BLACK
check_days-requires-else-scheme-eq-BLACK c =
    let e = c.new-else-scheme-eq-BLACK.ensures in
    let ok = check_ready _ _ _ _ _ _ _ _ _ (passed_number _ (sym c.in_ok-test_check.ensures)) in
    record { ready = new_ready e ok; first_day = new_fresh e }

pub returns-else-scheme-eq-BLACK : goal.returns-else-scheme-eq-BLACK
returns-else-scheme-eq-BLACK c =
    let a = c.args in
    let checked = c.check_days-else-scheme-eq-BLACK.ensures in
    let o = new_outcomes c.new-else-scheme-eq-BLACK.ensures a.d a.ledger.now a.ends.now a.book.now a.outcomes.now checked.outcomes_after in
    let all = checked_done _ _ _ _ a.ledger.now _ a.book.now a.work.now a.outcomes.now (sym c.in_ok-test_check.ensures)
    checked.work_after o in
    record { value = all.0; work_after = all.1.0; outcomes_after = all.1.1 }
