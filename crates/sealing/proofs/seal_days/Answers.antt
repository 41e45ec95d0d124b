-- Each turn seals its day.
use Prim.Native.Nat.{◌-◌}
use mathlib.Core.Path.{◌≡◌, refl, ap, ap₂, ◌∙◌}
use lib.ListN.{take, drop}
use native.Mathlib.Omega.{arith}
use Rattle.refusals.proofs.TestLaws.{passed_number, value_is}
use Rattle.service.specs.declared.Closed.{Closed}
use Rattle.service.specs.Contract.{added}
use Rattle.service.proofs.CallLaws.{added_ok, closing_ok}
use Rattle.ledger.specs.Ledger.{day_at}
use Rattle.sealing.proofs.SealLaws.{Sealable, sealable, no_day_sealed, add_passed, close_passed, day_sealed, all_sealed}
use Rattle.sealing.proofs.seal_days.Goals.{Start, After-add}
use Rattle.sealing.proofs.seal_days.Goals as goal

-- what no refusal leaves
ready : (c : Start) → let a = c.args in Sealable a.scheme a.n a.f a.d a.ledger.now a.ends.now a.book.now
ready c = sealable _ _ _ _ _ _ _ (passed_number _ c.requires)

pub loop-i-init : goal.loop-i-init
loop-i-init c = no_day_sealed (ready (goal.at.loop-i-init c).Start) _ (ap (λ x. x.state) c.open.ensures)

pub start_of-requires : goal.start_of-requires
start_of-requires c = omega (arith, (ready (goal.at.start_of-requires c).Start).ends_hold.enough)

pub end_of-requires : goal.end_of-requires
end_of-requires c = omega (arith, (ready (goal.at.end_of-requires c).Start).ends_hold.enough)

pub slice_bounds-day-count : goal.slice_bounds-day-count
slice_bounds-day-count c =
    let e = (ready (goal.at.slice_bounds-day-count c).Start).ends_hold in
    omega (arith, c.start_of.ensures, c.end_of.ensures, e.ascend c.loop-i.i c.loop-i-test.true)

pub slice_bounds-day-start : goal.slice_bounds-day-start
slice_bounds-day-start c =
    let e = (ready (goal.at.slice_bounds-day-start c).Start).ends_hold in
    omega (arith, c.start_of.ensures, c.end_of.ensures, e.ascend c.loop-i.i c.loop-i-test.true)

pub slice_bounds-day-end : goal.slice_bounds-day-end
slice_bounds-day-end c =
    let e = (ready (goal.at.slice_bounds-day-end c).Start).ends_hold in
    omega (arith, c.end_of.ensures, e.within c.loop-i.i c.loop-i-test.true)

-- the piece is the day
day_is : (c : After-add) → take (c.end_of.result - c.start_of.result) (drop c.start_of.result c.args.ledger.now) ≡ day_at c.args.ledger.now c.args.ends.now c.loop-i.i
day_is c = ap₂ (λ x y. take (y - x) (drop x c.args.ledger.now)) c.start_of.ensures c.end_of.ensures

pub unwrap-requires : goal.unwrap-requires
unwrap-requires c =
    let ok = ready (goal.at.unwrap-requires c).Start in
    let e = add_passed ok c.loop-i.invariant c.loop-i-test.true in
    rw (c.add.ensures.value, day_is c, added_ok _ _ e) refl

pub unwrap-closed-requires : goal.unwrap-closed-requires
unwrap-closed-requires c =
    let ok = ready (goal.at.unwrap-closed-requires c).Start in
    let e = close_passed ok c.loop-i.invariant c.loop-i-test.true in
    rw (c.close.ensures.value, c.add.ensures.state_after, day_is (goal.at.unwrap-closed-requires c).After-add, closing_ok _ _ e) refl

pub loop-i-preserved : goal.loop-i-preserved
loop-i-preserved c =
    let ok = ready (goal.at.loop-i-preserved c).Start in
    let inv = c.loop-i.invariant in
    let lt = c.loop-i-test.true in
    let close = c.close in
    let state = c.add.ensures.state_after ∙ ap (λ x. (added c.loop-i.state x).state) (day_is (goal.at.loop-i-preserved c).After-add) in
    let value = rw state at close.ensures.value in
    let closed = value_is c.unwrap-closed.ensures (value ∙ closing_ok _ _ (close_passed ok inv lt)) in
    day_sealed ok inv lt close.new.part c.unwrap-closed.result.values (rw state at close.ensures.state_after)
    (rw state at close.ensures.part_after) (ap (λ (x : Closed). x.values) closed)

pub returns : goal.returns
returns c = all_sealed (ready (goal.at.returns c).Start) c.loop-i.invariant (omega arith)
