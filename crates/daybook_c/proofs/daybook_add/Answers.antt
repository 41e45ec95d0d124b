-- `daybook_c::daybook_add` meets its contract.
use mathlib.Core.Path.{sym, ap, ◌∙◌}
use Rattle.record_bytes.specs.Bytes.{bytes_of_record}
use Rattle.daybook_c.proofs.Answers.{add_number, add_done, add_blocks, add_refused, add_kept}
use Rattle.daybook_c.proofs.daybook_add.Goals as goal

pub returns-in-Ok : goal.returns-in-Ok
returns-in-Ok c =
    let a = c.args in
    let call = rw c.decode-grown.ensures at (sym c.add.ensures.value ∙ c.in-Ok.is) in
    let left = rw c.decode-grown.ensures at c.add.ensures.state_after in
    record {
      value = add_number a.state.now a.piece.now a.blocks.now call;
      state_after = add_done a.state.now a.piece.now a.blocks.now call (c.encode.ensures ∙ ap bytes_of_record left);
      blocks_after = add_blocks a.state.now a.piece.now a.blocks.now call;
    }

pub returns-in-Err : goal.returns-in-Err
returns-in-Err c =
    let a = c.args in
    let call = rw c.decode-grown.ensures at (sym c.add.ensures.value ∙ c.in-Err.is) in
    let kept = add_kept a.state.now a.piece.now a.blocks.now call in
    record {
      value = c.number.ensures ∙ add_refused a.state.now a.piece.now a.blocks.now call;
      state_after = kept.0;
      blocks_after = kept.1;
    }
