-- `reading::read` meets its contract.
use mathlib.Core.Path.{sym, ◌∙◌}
use Rattle.reading.proofs.Report.{report_refused, list_refused, values_need, values_within, values_given, report_read, list_after}
use Rattle.reading.proofs.{RefusalLaws.part_length}
use Rattle.reading.proofs.read.Goals as goal

pub returns-in-Err : goal.returns-in-Err
returns-in-Err c = let l = c.args.list.now in let e = sym c.in-Err.ensures in
    record { result_value = report_refused _ _ _ _ _ _ l e c.number.ensures; list_after = list_refused _ _ _ _ _ _ l e }

pub values_through-values-requires : goal.values_through-values-requires
values_through-values-requires c = values_need _ _ _ _ _ _ c.args.list.now (sym c.test.ensures ∙ c.in_default.is)

pub slice_bounds-read_table-end : goal.slice_bounds-read_table-end
slice_bounds-read_table-end c =
    part_length _ _ (values_within _ _ _ _ _ _ c.args.list.now (sym c.test.ensures ∙ c.in_default.is) c.values_through-values.ensures)

pub read_table-requires : goal.read_table-requires
read_table-requires c =
    values_given _ _ _ _ _ _ c.args.list.now (sym c.test.ensures ∙ c.in_default.is) c.values_through-values.ensures

pub returns : goal.returns
returns c =
    let l = c.args.list.now in
    let e = sym c.test.ensures ∙ c.in_default.is in
    let v = c.values_through-values.ensures in
    let r = c.read_table in
    record {
      result_value = report_read _ _ _ _ _ _ l e v r.result r.ensures.result_value;
      list_after = list_after _ _ _ _ _ _ l e v r.ensures.list_after;
    }
