-- `layouts::intervals` meets its contract.
use native.Mathlib.Omega.{arith}
use Rattle.layouts.proofs.AllowedLaws.{allowed_n_is}
use Rattle.layouts.proofs.intervals.Goals as goal

pub overflow_shr-result : goal.overflow_shr-result
overflow_shr-result c = let p = (allowed_n_is c.args.n c.requires).small in omega (arith, c.lg.ensures)
