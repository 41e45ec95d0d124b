-- `service::records::open_day` meets its contract.
use mathlib.Core.Path.{sym, ap, ◌∙◌}
use Prim.Native.Nat.{suc}
use native.Mathlib.Omega.{arith}
use Rattle.service.specs.declared.Record.{Record}
use Rattle.service.proofs.RecordLaws.{record_passes, current_days, current_same}
use Rattle.service.proofs.records.open_day.Goals as goal

pub returns-then-turns : goal.returns-then-turns
returns-then-turns c = sym (ap suc (current_days c.args.state (sym c.turns.ensures ∙ c.if-turns.true)))

pub overflow_add-result : goal.overflow_add-result
overflow_add-result c =
    record { fits = omega (arith, (record_passes c.args.state c.requires).0.days_most) }

pub returns-else-turns : goal.returns-else-turns
returns-else-turns c =
    let e = ap (λ (r : Record). r.days) (current_same c.args.state c.turns.ensures c.if-turns.false) in
    omega (arith, e)
