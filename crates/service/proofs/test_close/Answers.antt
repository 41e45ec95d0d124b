-- `service::test_close` meets its contract.
use mathlib.Core.Path.{sym}
use native.Mathlib.Omega.{arith}
use Rattle.std.proofs.lemmas.Result.{err_from_is_err_and}
use Rattle.service.proofs.RecordLaws.{record_passes}
use Rattle.service.proofs.CallLaws.{close_early}
use Rattle.service.proofs.DayLaws.{setup_asks}
use Rattle.service.proofs.test_close.Goals as goal

pub returns-in_err-test : goal.returns-in_err-test
returns-in_err-test c =
    let p = err_from_is_err_and c.from_residual.result c.from_residual.ensures.1 in
    rw (p.1, p.2) (close_early _ _ (sym c.in_err-test.ensures))

pub values_of_day-k-requires : goal.values_of_day-k-requires
values_of_day-k-requires c =
    let p = record_passes c.args.state (sym c.in_ok-test.ensures) in
    let a = setup_asks c.args.state p.0 in
    (a.0, a.1, omega (arith, c.open_day.ensures), omega (arith, c.open_day.ensures, p.1))
