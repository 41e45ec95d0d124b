-- `reading::read_table` meets its contract.
use Rattle.reading.proofs.Report.{listed_needs, list_read, listed_most, report_clean, first_place_lem, numbers_need, report_changed}
use Rattle.std.proofs.Common.{arith}
use Rattle.reading.proofs.read_table.Goals as goal

pub listed-k-requires : goal.listed-k-requires
listed-k-requires c = listed_needs _ _ _ _ c.args.list.now c.requires

pub returns-then-k-eq0 : goal.returns-then-k-eq0
returns-then-k-eq0 c = let G = c.requires in let w = c.listed-k.ensures in
    record { result_value = report_clean _ _ _ _ _ G _ _ w _ c.if-k-eq0.true; list_after = list_read _ _ _ _ _ G _ _ w }

pub bounds-list-0 : goal.bounds-list-0
bounds-list-0 c = first_place_lem _ _ _ _ _ c.requires _ _ c.listed-k.ensures c.listed-k.auto.list

pub overflow_cast-k : goal.overflow_cast-k
overflow_cast-k c = record { fits = omega (arith, listed_most _ _ _ _ _ c.requires _ _ c.listed-k.ensures) }

pub changed-requires : goal.changed-requires
changed-requires c = numbers_need _ _ _ _ _ c.requires _ _ c.listed-k.ensures c.if-k-eq0.false

pub returns : goal.returns
returns c = let G = c.requires in let w = c.listed-k.ensures in
    record {
      result_value = report_changed _ _ _ _ _ G _ _ w c.if-k-eq0.false _ c.changed.ensures;
      list_after = list_read _ _ _ _ _ G _ _ w;
    }
