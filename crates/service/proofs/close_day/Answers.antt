-- `service::close_day` meets its contract.
use mathlib.Core.{Path.◌≡◌, Path.◌∙◌}
use Rattle.std.proofs.Common.{◌≤◌, ◌*◌, rules, arith}
use lib.ListN.{length}
use Rattle.buffers.proofs.Writes.{wrote_as}
use Rattle.chains.proofs.Values.{chains_of_day-length, first_within, first_are}
use Rattle.service.specs.Contract.{day_count, day_bytes}
use Rattle.service.proofs.DayLaws.{day_asks, count_is, day_fits, day_bytes_lem, quiet_after, restarted_after}
use Rattle.service.proofs.DayLaws.{quiet_written, closed_of}
use Rattle.service.proofs.close_day.Goals as goal
use Rattle.service.proofs.close_day.Goals.{After-values_of_day-k, then-k-gt0, else-k-gt0}

pub day_values-values-requires : goal.day_values-values-requires
day_values-values-requires c =
    let a = day_asks c.args.state.now c.requires.0 in
    (a.0, a.1, a.2, a.3, c.values_of_day-k.ensures ∙ chains_of_day-length _ _ _)

-- the day's values: seventeen at most, and there is room for them
fits : (c : After-values_of_day-k) → (c.values_of_day-k.result ≤ 17) × (32 * c.values_of_day-k.result ≤ length c.args.part.now)
fits c = let r = c.args.state.now in day_fits r _ (count_is r c.values_of_day-k.ensures) c.requires.0 c.requires.1

pub slice_bounds-values-end : goal.slice_bounds-values-end
slice_bounds-values-end c = first_within c.day_values-values.result (search rules) (fits (goal.at.slice_bounds-values-end c).After-values_of_day-k).0

pub slice_bounds-write-end : goal.slice_bounds-write-end
slice_bounds-write-end c = first_are c.day_values-values.result (search rules) (fits (goal.at.slice_bounds-write-end c).After-values_of_day-k).0

pub write-requires : goal.write-requires
write-requires c =
    let f = fits (goal.at.write-requires c).After-values_of_day-k in
    rw (← first_are c.day_values-values.result (search rules) f.0) f.1

pub next-requires : goal.next-requires
next-requires c =
    let r = c.args.state.now in (
      c.requires.0,
      elim c.if-k-gt0.branch [
        | then-k-gt0 w ↦ rw w.running-is (restarted_after r c.link-black.ensures w.restart_slots-again.ensures)
        | else-k-gt0 w ↦ rw w.running-is (quiet_after r c.link-black.ensures (omega (arith, count_is r c.values_of_day-k.ensures)))
      ],
    )

pub returns : goal.returns
returns c =
    let r = c.args.state.now in
    let many = count_is r c.values_of_day-k.ensures in
    let few = (day_fits r _ many c.requires.0 c.requires.1).0 in
    closed_of r many (search rules) c.next.ensures c.of_close.ensures (elim c.if-k-gt0.branch [
      | then-k-gt0 w ↦
          let whole = first_are w.day_values-values.result (search rules) few in
          rw w.part-is (rw whole (wrote_as (day_bytes r) (day_bytes_lem r c.link-black.ensures _ _ w.day_values-values.ensures) w.write.ensures))
      | else-k-gt0 w ↦
          let none : day_count r ≡ 0 = omega (arith, many) in
          rw (w.part-is, many) (quiet_written r c.args.part.now none)
    ])
