-- `positions::black_place` meets its contract.
use native.Mathlib.Omega.{arith}
use Rattle.layouts.proofs.AllowedLaws.{allowed_n_is}
use Rattle.positions.proofs.StepLaws.{levels_by}
use Rattle.positions.proofs.black_place.Goals as goal

pub overflow_add-result : goal.overflow_add-result
overflow_add-result c = record { fits = omega (arith, c.lg.ensures, (allowed_n_is c.args.n c.requires.1).small) }

pub overflow_sub-result-in_default : goal.overflow_sub-result-in_default
overflow_sub-result-in_default c = let a = c.args in
    (levels_by a.scheme a.n a.g c.requires.0 (λ e. absurd (omega arith)) (λ e. absurd (omega arith)) c.requires.2).0
