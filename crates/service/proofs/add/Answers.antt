-- `service::add` meets its contract.
use mathlib.Core.Path.{◌≡◌, sym, ◌∙◌}
use lib.ListN.{length}
use borrow.Author.Rules.{rules}
use Rattle.std.proofs.lemmas.Result.{err_from_is_err_and}
use Rattle.service.proofs.CallLaws.{add_fits, added_refused, added_left, added_done, added_state}
use Rattle.service.proofs.RecordLaws.{current_block}
use Rattle.service.proofs.BlockLaws.{grown_blocks_lem}
use Rattle.service.proofs.add.Goals as goal

pub returns-in_err-test_add : goal.returns-in_err-test_add
returns-in_err-test_add c =
    let e = sym c.in_err-test_add.ensures in
    let p = err_from_is_err_and c.from_residual.result c.from_residual.ensures.1 in
    record { value = rw (p.1, p.2) (added_refused _ _ e); state_after = added_left _ _ e }

pub grow-requires : goal.grow-requires
grow-requires c = add_fits c.args.state.now _ (sym c.in_ok-test_add.ensures) c.current-made.ensures

pub of_add-requires : goal.of_add-requires
of_add-requires c = add_fits c.args.state.now _ (sym c.in_ok-test_add.ensures) c.current-made.ensures

pub returns : goal.returns
returns c =
    let r = c.args.state.now in
    let e = sym c.in_ok-test_add.ensures in
    let b : length c.current-made.result.block ≡ 64 = rw c.current-made.ensures (current_block r (search rules)) in
    record {
      value = added_done r _ e c.current-made.ensures (c.of_add.ensures ∙ sym (grown_blocks_lem c.current-made.result _ b));
      state_after = added_state r _ e c.current-made.ensures c.grow.ensures;
    }
