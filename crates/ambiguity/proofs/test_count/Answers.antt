-- `ambiguity::test_count` meets its contract.
use mathlib.Core.Path.{sym}
use Rattle.std.proofs.lemmas.Result.{err_from_is_err_and}
use Rattle.ambiguity.proofs.Calls.{n_refused}
use Rattle.ambiguity.proofs.test_count.Goals as goal

pub returns-in_err-test_setup : goal.returns-in_err-test_setup
returns-in_err-test_setup c =
    let p = err_from_is_err_and c.from_residual.result c.from_residual.ensures.1 in
    rw (p.1, p.2) (n_refused _ _ (sym c.in_err-test_setup.ensures))
