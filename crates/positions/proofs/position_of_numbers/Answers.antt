-- `positions::position_of_numbers` meets its contract.
use mathlib.Core.{Path.refl, Path.sym, Path.ap, Bool.not}
use native.Mathlib.Omega.{arith}
use borrow.Author.Rules.{rules}
use Rattle.layouts.proofs.AllowedLaws.{layout_asks}
use Rattle.positions.proofs.CallLaws.{day_asks, no_day, not_named, sum_fits, placed_there}
use Rattle.positions.proofs.position_of_numbers.Goals as goal

pub closing_day-requires : goal.closing_day-requires
closing_day-requires c = let q = layout_asks _ _ _ _ (sym c.in_ok-test_layout.ensures) in (q.1, q.2)

pub returns-in_default : goal.returns-in_default
returns-in_default c = no_day _ _ _ _ _ (search rules) (sym c.in_ok-test_layout.ensures) refl c.in_default.ensures

pub place_in_day-i-requires : goal.place_in_day-i-requires
place_in_day-i-requires c =
    let p = c.in-Some.ensures in
    day_asks _ _ _ _ c.args.numbers (search rules) (sym c.in_ok-test_layout.ensures) p.1 p.0

pub is_named-requires : goal.is_named-requires
is_named-requires c =
    let p = c.in-Some.ensures in
    day_asks _ _ _ _ c.args.numbers (search rules) (sym c.in_ok-test_layout.ensures) p.1 p.0

pub returns-then-not-is_named : goal.returns-then-not-is_named
returns-then-not-is_named c =
    let p = c.in-Some.ensures in
    not_named _ _ _ _ _ (search rules) (sym c.in_ok-test_layout.ensures) p.1 c.place_in_day-i.ensures c.is_named.ensures
    (ap not c.if-not-is_named.true)

pub values_through-earlier-requires : goal.values_through-earlier-requires
values_through-earlier-requires c =
    let p = c.in-Some.ensures in
    let q = day_asks _ _ _ _ c.args.numbers (search rules) (sym c.in_ok-test_layout.ensures) p.1 p.0 in
    (q.0, q.1, omega (arith, q.3))

pub overflow_add-result : goal.overflow_add-result
overflow_add-result c =
    let p = c.in-Some.ensures in
    record {
      fits = sum_fits _ _ _ _ _ (search rules) (sym c.in_ok-test_layout.ensures) p.1 c.place_in_day-i.ensures
          c.is_named.ensures p.0 (ap not c.if-not-is_named.false) c.values_through-earlier.ensures;
    }

pub returns : goal.returns
returns c =
    let p = c.in-Some.ensures in
    placed_there _ _ _ _ _ (search rules) (sym c.in_ok-test_layout.ensures) p.1 c.place_in_day-i.ensures
    c.is_named.ensures p.0 (ap not c.if-not-is_named.false) c.values_through-earlier.ensures
