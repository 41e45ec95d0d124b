-- `Slots` closes a day.
use Rattle.std.proofs.Common.{rules, arith}
use Rattle.chains.proofs.Values.{first_within, first_are}
use Rattle.checking.specs.Private.{State}
use Rattle.checking.proofs.DayLaws.{day_fits, first_fit, first_compared, day_compared, quiet_after, quiet_compared}
use Rattle.checking.proofs.running.SlotsRunning.close.Goals as goal

pub slice_bounds-values-end : goal.slice_bounds-values-end
slice_bounds-values-end c = first_within c.day_values-values.result (search rules) (day_fits c.requires c.step-count.ensures.count_is).0

pub slice_bounds-all-end : goal.slice_bounds-all-end
slice_bounds-all-end c = first_are c.day_values-values.result (search rules) (day_fits c.requires c.step-count.ensures.count_is).0

pub all-requires : goal.all-requires
all-requires c = let d = day_fits c.requires c.step-count.ensures.count_is in first_fit c.day_values-values.result (search rules) d.0 (d.1, d.2)

pub returns-then-count-gt0-clause-outcomes_after : goal.returns-then-count-gt0-clause-outcomes_after
returns-then-count-gt0-clause-outcomes_after c =
    let it = c.args.self.now in
    let state : State = record { scheme = it.scheme; n = it.n; start = it.start; black = it.black; slots = it.slots } in
    let values = c.day_values-values.result in
    day_compared state c.args.g c.args.h c.step-count.result c.step-count.ensures c.args.book.now c.args.outcomes.now values c.day_values-values.ensures
    (first_compared values (search rules) (day_fits c.requires c.step-count.ensures.count_is).0 c.args.book.now c.args.outcomes.now c.all.ensures)

pub returns-else-count-gt0-clause-state_after : goal.returns-else-count-gt0-clause-state_after
returns-else-count-gt0-clause-state_after c = quiet_after _ c.args.g c.args.h c.step-count.result c.step-count.ensures (omega arith) c.requires.some

pub returns-else-count-gt0-clause-outcomes_after : goal.returns-else-count-gt0-clause-outcomes_after
returns-else-count-gt0-clause-outcomes_after c =
    let it = c.args.self.now in
    quiet_compared (record { scheme = it.scheme; n = it.n; start = it.start; black = it.black; slots = it.slots }) c.args.g c.args.h c.step-count.result c.step-count.ensures c.args.book.now c.args.outcomes.now (omega arith)
