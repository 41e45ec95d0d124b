-- `searching::search` meets its contract.
use mathlib.Core.Path.{sym}
use Rattle.std.proofs.lemmas.Result.{err_from_is_err_and}
use Rattle.reading.proofs.RefusalLaws.{part_length}
use Rattle.searching.proofs.Calls.{search_refused, search_left, values_need, values_within, walk_given, search_state, search_list}
use Rattle.searching.proofs.search.Goals as goal

pub returns-in_err-test_search : goal.returns-in_err-test_search
returns-in_err-test_search c =
    let p = err_from_is_err_and c.from_residual.result c.from_residual.ensures.1 in
    let e = sym c.in_err-test_search.ensures in
    record { value = rw (p.1, p.2) (search_refused _ _ _ _ _ c.args.list.now c.args.limit e); list_after = search_left _ _ _ _ _ _ c.args.limit e }

pub values_through-values-requires : goal.values_through-values-requires
values_through-values-requires c =
    let L = values_need _ _ _ _ _ c.args.list.now (sym c.in_ok-test_search.ensures) in (L.scheme_ok, L.n_ok, L.most)

pub slice_bounds-walk-end : goal.slice_bounds-walk-end
slice_bounds-walk-end c =
    part_length _ _ (values_within _ _ _ _ _ c.args.list.now (sym c.in_ok-test_search.ensures) c.values_through-values.ensures)

pub walk-requires : goal.walk-requires
walk-requires c = walk_given _ _ _ _ _ c.args.list.now (sym c.in_ok-test_search.ensures) c.values_through-values.ensures

pub returns : goal.returns
returns c =
    let l = c.args.list.now in
    let e = sym c.in_ok-test_search.ensures in
    let v = c.values_through-values.ensures in
    let r = c.walk in
    record {
      value = search_state _ _ _ _ _ l e v _ r.result r.ensures.value;
      list_after = search_list _ _ _ _ _ l e v _ r.ensures.list_after;
    }
