-- `checking::test_check` meets its contract.
use mathlib.Core.Path.{sym}
use Rattle.std.proofs.lemmas.Result.{err_from_is_err_and}
use Rattle.checking.proofs.RefusalLaws.{check_early, check_asks, room_11, room_8, room_passed}
use Rattle.checking.proofs.test_check.Goals as goal

pub returns-in_err-test_ledger : goal.returns-in_err-test_ledger
returns-in_err-test_ledger c =
    let p = err_from_is_err_and c.from_residual.result c.from_residual.ensures.1 in
    rw (p.1, p.2) (check_early _ _ _ _ _ _ _ _ _ (sym c.in_err-test_ledger.ensures))

pub values_through-k-requires : goal.values_through-k-requires
values_through-k-requires c = check_asks _ _ _ _ _ _ c.args.book c.args.work c.args.places (sym c.in_ok-test_ledger.ensures)

pub returns-then-book-k : goal.returns-then-book-k
returns-then-book-k c = room_11 _ _ _ _ _ _ _ _ _ (sym c.in_ok-test_ledger.ensures) c.values_through-k.ensures c.if-book-k.true

pub returns-then-work-d : goal.returns-then-work-d
returns-then-work-d c =
    room_8 _ _ _ _ _ _ _ _ _ (sym c.in_ok-test_ledger.ensures) c.values_through-k.ensures c.if-book-k.false c.then-work-d.either

pub returns : goal.returns
returns c =
    room_passed _ _ _ _ _ _ _ _ _ (sym c.in_ok-test_ledger.ensures) c.values_through-k.ensures c.if-book-k.false c.if-work-d.false c.if-places-k.false
