-- `searching::test_search` meets its contract.
use mathlib.Core.Path.{sym}
use Rattle.std.proofs.lemmas.Result.{err_from_is_err_and}
use Rattle.searching.proofs.Calls.{search_early, search_table}
use Rattle.searching.proofs.test_search.Goals as goal

pub returns-in_err-test_layout : goal.returns-in_err-test_layout
returns-in_err-test_layout c =
    let p = err_from_is_err_and c.from_residual.result c.from_residual.ensures.1 in
    rw (p.1, p.2) (search_early _ _ _ _ c.args.outcomes.now _ (sym c.in_err-test_layout.ensures))

pub returns-in_err-test_table : goal.returns-in_err-test_table
returns-in_err-test_table c =
    let r = c.from_residual-in_err-test_table in
    let p = err_from_is_err_and r.result r.ensures.1 in
    rw (p.1, p.2) (search_table _ _ _ _ c.args.outcomes.now _ (sym c.in_ok-test_layout.ensures) (sym c.in_err-test_table.ensures))
