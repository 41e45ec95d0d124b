-- `positions::chain_at` meets its contract.
use native.Mathlib.Omega.{arith}
use mathlib.Core.Path.{sym}
use Rattle.layouts.proofs.AllowedLaws.{layout_asks}
use Rattle.positions.proofs.BookLaws.{closes_by}
use Rattle.positions.proofs.CallLaws.{located_there}
use Rattle.positions.proofs.chain_at.Goals as goal

pub chain_in_day-requires : goal.chain_in_day-requires
chain_in_day-requires c =
    let a = c.args in
    let q = layout_asks a.scheme a.n a.f a.d (sym c.in_ok-test_layout.ensures) in
    let k = (closes_by a.scheme a.n a.d a.position c.day_of-g.result _ c.day_of-g.ensures c.values_through-before.ensures).1 in
    (q.0, q.1, k.some, omega (arith, q.2, k.most), k.inside)

pub returns : goal.returns
returns c =
    let a = c.args in
    let k = (closes_by a.scheme a.n a.d a.position c.day_of-g.result _ c.day_of-g.ensures c.values_through-before.ensures).1 in
    located_there a.scheme a.n a.f a.d (sym c.in_ok-test_layout.ensures) a.position k c.chain_in_day.ensures
