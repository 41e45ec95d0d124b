-- `daybook_c::daybook_read` meets its contract.
use Rattle.daybook_c.proofs.Answers.{read_number, read_done, read_kept}
use Rattle.daybook_c.proofs.daybook_read.Goals as goal

pub returns-then-x-eq0 : goal.returns-then-x-eq0
returns-then-x-eq0 c =
    let args = c.args in
    let call = c.read-a.ensures in
    let number = c.number_of-x.ensures in
    record {
      value = read_number args.d _ _ _ call.result_value number;
      list_after = call.list_after;
      numbers_after = read_done args.d _ _ _ call.result_value number _ args.numbers.now c.if-x-eq0.true c.numbers_of-m.ensures;
    }

pub returns-else-x-eq0 : goal.returns-else-x-eq0
returns-else-x-eq0 c =
    let args = c.args in
    let call = c.read-a.ensures in
    let number = c.number_of-x.ensures in
    record {
      value = read_number args.d _ _ _ call.result_value number;
      list_after = call.list_after;
      numbers_after = read_kept args.d _ _ _ call.result_value number args.numbers.now c.if-x-eq0.false;
    }
