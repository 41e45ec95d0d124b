-- `service::day::link` meets its contract.
use native.Mathlib.Omega.{arith}
use Rattle.service.proofs.DayLaws.{day_asks, black_linked}
use Rattle.service.proofs.day.link.Goals as goal

pub returns-in_default : goal.returns-in_default
returns-in_default c =
    let r = c.args.state in
    black_linked r c.digest-h.ensures c.link_value-in_default.ensures (day_asks r c.requires.0).0 (λ e. omega arith) (λ e. omega arith) c.requires.1
