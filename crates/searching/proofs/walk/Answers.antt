-- The loop's invariant: the walk after some looks, and what is written of it.
use mathlib.Core.Logic.{◌⊎◌}
use Prim.Native.Nat.{◌≤◌}
use native.Mathlib.Omega.{arith}
use Rattle.searching.proofs.Reached.{reached_fits}
use Rattle.searching.proofs.Looks.{through_none, through_given, through_found, through_day, through_next, through_progress, through_list}
use Rattle.searching.proofs.walk.Goals as goal

pub level_behind-requires : goal.level_behind-requires
level_behind-requires c = (omega arith, c.requires.table.most)

pub loop-looked-init : goal.loop-looked-init
loop-looked-init c = through_none _ _ _ _ _ _ c.requires.table.some c.level_behind.ensures

pub look-c-requires : goal.look-c-requires
look-c-requires c =
    let G = c.requires in
    let T = c.loop-looked.invariant in (
      through_given _ _ _ _ _ G _ _ _ T,
      reached_fits _ _ _ _ _ _ T.reached (omega arith),
      through_found _ _ _ _ _ G _ _ _ T,
    )

pub loop-looked-smaller : goal.loop-looked-smaller
loop-looked-smaller c = omega (arith, c.loop-looked-test.true)

pub loop-looked-preserved : goal.loop-looked-preserved
loop-looked-preserved c =
    let G = c.requires in
    through_next _ _ _ _ _ G _ _ _ c.loop-looked.invariant _ _ c.loop-looked-test.true (omega arith) c.look-c.ensures

pub overflow_sub-result : goal.overflow_sub-result
overflow_sub-result c = through_day _ _ _ _ _ c.requires _ _ _ c.loop-looked.invariant

pub shape_of-list : goal.shape_of-list
shape_of-list c = c.loop-looked.invariant.same_length

pub returns : goal.returns
returns c =
    let G = c.requires in
    let T = c.loop-looked.invariant in
    -- the loop ends at the limit, or with no day left
    let ended : (c.args.limit ≤ c.loop-looked.looked) ⊎ (c.args.d ≤ c.loop-looked.c.day) =
    grind arith in
    record {
      value = through_progress _ _ _ _ _ G _ _ _ T ended;
      list_after = through_list _ _ _ _ _ G _ _ _ T ended;
    }
