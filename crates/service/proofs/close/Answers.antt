-- `service::close` meets its contract.
use mathlib.Core.Path.{sym}
use Rattle.std.proofs.lemmas.Result.{err_from_is_err_and}
use Rattle.service.proofs.CallLaws.{close_open, close_room, closing_refused, closing_left, closing_part, closing_done, closing_state, closing_written}
use Rattle.service.proofs.close.Goals as goal

pub returns-in_err-test_close : goal.returns-in_err-test_close
returns-in_err-test_close c =
    let e = sym c.in_err-test_close.ensures in
    let p = err_from_is_err_and c.from_residual.result c.from_residual.ensures.1 in
    record { value = rw (p.1, p.2) (closing_refused _ _ e); state_after = closing_left _ _ e; part_after = closing_part _ _ e }

pub close_day-requires : goal.close_day-requires
close_day-requires c =
    let e = sym c.in_ok-test_close.ensures in
    (close_open c.args.state.now _ e c.current.ensures, close_room c.args.state.now _ e c.current.ensures)

pub returns : goal.returns
returns c =
    let r = c.args.state.now in
    let e = sym c.in_ok-test_close.ensures in
    let m = c.current.ensures in
    let d = c.close_day.ensures in
    record { value = closing_done r _ e m d; state_after = closing_state r _ e m d; part_after = closing_written r _ e m d }
