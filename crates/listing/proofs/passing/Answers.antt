-- `listing::passing` meets its contract.
use Rattle.listing.proofs.Tiles.{number_none, number_next, number_all, number_few, bit_at, bit_one, bit_few}
use Rattle.acceptance.proofs.{Steps.tile_inside, Steps.passes_by, Places.tile_place, Places.tile_fits}
use Rattle.layouts.proofs.AllowedLaws.{allowed_n_is}
use Rattle.layouts.specs.Layouts.{lg}
use Rattle.acceptance.specs.Private.{number, tile_bit}
use Rattle.std.proofs.Common.{◌≡◌, ◌+◌, ◌-◌, ◌*◌, ◌/◌, ◌^◌, ◌<◌, arith, refl}
use Rattle.listing.proofs.passing.Goals.{In-loop-i, After-from}
use Rattle.listing.proofs.passing.Goals as goal

-- a turn's number is small
small : (c : In-loop-i) → c.loop-i.m < 65536
small c = number_few _ _ _ _ (allowed_n_is c.args.n c.requires.0.has.n_ok).small c.loop-i.invariant

-- a turn adds the bit of its chain
turn : (c : After-from) → let a = c.args in
    2 * c.loop-i.m + c.from.result ≡ number (tile_bit a.n a.t.now a.g) (lg a.n) / 2 ^ (lg a.n + 1 - (c.loop-i.i + 1))
turn c = let pre = c.requires in
    let a = c.args in
    let i = c.loop-i.i in
    number_next _ (lg a.n) i c.loop-i.m _ (omega arith) (omega (arith, c.lg-i-end.ensures)) c.loop-i.invariant
    (bit_at a.n a.t.now a.g i refl (omega (arith, c.lg-i-end.ensures)) (passes_by 2 _ _ _ (tile_place pre.0 pre.1 i) c.mark-b.ensures))
    (rw (c.from.ensures, bit_one))

pub loop-i-init : goal.loop-i-init
loop-i-init c = number_none _ _

pub overflow_add-p : goal.overflow_add-p
overflow_add-p c = let pre = c.requires in
    record { fits = omega (arith, tile_fits pre.0 pre.1 c.loop-i.i (omega (arith, c.lg-i-end.ensures))) }

pub mark-b-requires : goal.mark-b-requires
mark-b-requires c = let pre = c.requires in
    tile_inside pre.0 (omega (arith, c.lg-i-end.ensures)) (tile_place pre.0 pre.1 c.loop-i.i)

pub overflow_mul-m : goal.overflow_mul-m
overflow_mul-m c = record { fits = omega (arith, small (goal.at.overflow_mul-m c).In-loop-i) }

pub overflow_add-m : goal.overflow_add-m
overflow_add-m c = record { fits = omega (arith, small (goal.at.overflow_add-m c).In-loop-i, c.from.ensures, bit_few c.mark-b.result) }

pub loop-i-preserved : goal.loop-i-preserved
loop-i-preserved c = turn (goal.at.loop-i-preserved c).After-from

pub returns-2 : goal.returns-2
returns-2 c = number_all _ _ (c.loop-i.i + 1) _ (omega (arith, c.lg-i-end.ensures)) (turn (goal.at.returns-2 c).After-from)
