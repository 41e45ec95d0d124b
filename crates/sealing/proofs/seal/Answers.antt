-- `sealing::seal` meets its contract.
use mathlib.Core.Path.{sym}
use Rattle.std.proofs.lemmas.Result.{err_from_is_err_and}
use Rattle.sealing.proofs.SealLaws.{sealed_refused, sealed_left, sealed_done, sealed_written}
use Rattle.sealing.proofs.seal.Goals as goal

pub returns-in_err-test_seal : goal.returns-in_err-test_seal
returns-in_err-test_seal c =
    let e = sym c.in_err-test_seal.ensures in
    let p = err_from_is_err_and c.from_residual.result c.from_residual.ensures.1 in
    record {
      value = rw (p.1, p.2) (sealed_refused _ _ _ _ c.args.ledger.now _ c.args.book.now e);
      book_after = sealed_left _ _ _ _ c.args.ledger.now _ c.args.book.now e;
    }

pub returns : goal.returns
returns c =
    let e = sym c.in_ok-test_seal.ensures in
    record {
      value = sealed_done _ _ _ _ c.args.ledger.now _ c.args.book.now e;
      book_after = sealed_written _ _ _ _ c.args.ledger.now _ c.args.book.now e c.seal_days.ensures;
    }
