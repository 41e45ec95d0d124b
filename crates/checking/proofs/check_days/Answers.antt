-- Each turn checks its day.
use Prim.Native.Nat.{ℕ, ◌-◌}
use mathlib.Core.Path.{refl, ap, ap₂, ◌∙◌}
use lib.ListN.{take, drop}
use native.Mathlib.Omega.{arith}
use Rattle.checking.specs.Private.{State}
use Rattle.checking.proofs.Through.{through_none, parts_within, values_fit, day_needs, through_next, through_all}
use Rattle.checking.proofs.check_days.Goals as goal

pub loop-i-init : goal.loop-i-init
loop-i-init g c = (refl, refl, through_none _ _ _ _ _ _ _ c.requires.ready c.requires.first_day)

pub overflow_mul-from : goal.overflow_mul-from
overflow_mul-from g c = omega (arith, (parts_within c.loop-i.invariant.2 (omega arith)).0)

pub slice_bounds-close-count : goal.slice_bounds-close-count
slice_bounds-close-count g c = (parts_within c.loop-i.invariant.2 (omega arith)).0

pub slice_bounds-close-start : goal.slice_bounds-close-start
slice_bounds-close-start g c = (parts_within c.loop-i.invariant.2 (omega arith)).0

pub slice_bounds-close-count-in-loop-i : goal.slice_bounds-close-count-in-loop-i
slice_bounds-close-count-in-loop-i g c = (parts_within c.loop-i.invariant.2 (omega arith)).1

pub slice_bounds-close-start-in-loop-i : goal.slice_bounds-close-start-in-loop-i
slice_bounds-close-start-in-loop-i g c = (parts_within c.loop-i.invariant.2 (omega arith)).1

pub close-requires : goal.close-requires
close-requires g c = day_needs c.loop-i.invariant.2 c.loop-i-test.true

pub overflow_add-at : goal.overflow_add-at
overflow_add-at g c = omega (arith, values_fit c.loop-i.invariant.2 c.loop-i-test.true c.close.ensures.count)

pub loop-i-preserved : goal.loop-i-preserved
loop-i-preserved g c =
    let was = c.loop-i.invariant in
    let close = c.close.ensures in (
      ap (λ (x : State). x.scheme) close.state_after ∙ was.0,
      ap (λ (x : State). x.n) close.state_after ∙ was.1,
      through_next was.2 c.loop-i-test.true
          (ap₂ (λ (x y : ℕ). take (y - x) (drop x c.args.ledger.now)) c.start_of.ensures c.end_of.ensures)
          c.digest-h.ensures c.bytes.ensures c.put.ensures close.count close.state_after close.outcomes_after,
    )

pub returns : goal.returns
returns g c =
    let was = c.loop-i.invariant in
    let all = through_all was.2 (omega arith) was.0 was.1 in
    record { work_after = all.0; outcomes_after = all.1 }
