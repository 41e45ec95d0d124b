-- `layouts::values_through` meets its contract.
use native.Mathlib.Omega.{arith}
use Rattle.layouts.proofs.AllowedLaws.{lg_fits, tile_bound}
use Rattle.layouts.proofs.values_through.Goals as goal

pub overflow_add-result : goal.overflow_add-result
overflow_add-result c = record { fits = lg_fits _ _ c.requires.1 c.lg.ensures }

pub overflow_mul-result : goal.overflow_mul-result
overflow_mul-result c =
    let b = tile_bound c.args.n c.args.g c.requires.1 c.requires.2 in
    record { fits = rw (c.intervals-in-2.ensures, c.lg.ensures) (omega arith) }
