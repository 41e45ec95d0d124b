-- `daybook_c::daybook_close` meets its contract.
use mathlib.Core.Path.{sym, ap, ◌∙◌}
use Rattle.record_bytes.specs.Bytes.{bytes_of_record}
use Rattle.daybook_c.proofs.Answers.{close_number, close_part, close_done, close_count, close_blocks, close_refused, close_kept}
use Rattle.daybook_c.proofs.daybook_close.Goals as goal

pub returns-in-Ok : goal.returns-in-Ok
returns-in-Ok c =
    let a = c.args in
    let call = rw c.decode-next.ensures at (sym c.close.ensures.value ∙ c.in-Ok.is) in
    let left = rw c.decode-next.ensures at c.close.ensures.state_after in
    record {
      value = close_number a.state.now a.part.now a.values.now a.blocks.now call;
      state_after = close_done a.state.now a.part.now a.values.now a.blocks.now call (c.encode.ensures ∙ ap bytes_of_record left);
      part_after = close_part a.state.now a.part.now a.values.now a.blocks.now (rw c.decode-next.ensures at c.close.ensures.part_after);
      values_after = close_count a.state.now a.part.now a.values.now a.blocks.now call;
      blocks_after = close_blocks a.state.now a.part.now a.values.now a.blocks.now call;
    }

pub returns-in-Err : goal.returns-in-Err
returns-in-Err c =
    let a = c.args in
    let call = rw c.decode-next.ensures at (sym c.close.ensures.value ∙ c.in-Err.is) in
    let kept = close_kept a.state.now a.part.now a.values.now a.blocks.now call in
    record {
      value = c.number.ensures ∙ close_refused a.state.now a.part.now a.values.now a.blocks.now call;
      state_after = kept.0;
      part_after = close_part a.state.now a.part.now a.values.now a.blocks.now (rw c.decode-next.ensures at c.close.ensures.part_after);
      values_after = kept.1;
      blocks_after = kept.2;
    }
