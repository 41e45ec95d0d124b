-- `chains::start` meets its contract.
use native.Mathlib.Omega.{arith}
use Rattle.layouts.proofs.AllowedLaws.{allowed_n_is}
use Rattle.chains.specs.Step.{start_value}
use Rattle.chains.specs.Book.{start_input}
use Rattle.chains.proofs.start.Goals as goal

pub lg-m-requires : goal.lg-m-requires
lg-m-requires c = omega (arith, (allowed_n_is c.args.n c.requires.1).some)

pub overflow_cast-layout : goal.overflow_cast-layout
overflow_cast-layout c = record { fits = omega (arith, c.requires.0, (allowed_n_is c.args.n c.requires.1).small, c.lg-m.ensures) }

pub overflow_cast-layout-2 : goal.overflow_cast-layout-2
overflow_cast-layout-2 c = record { fits = omega (arith, c.requires.0, (allowed_n_is c.args.n c.requires.1).small, c.lg-m.ensures) }

pub returns : goal.returns
unfolding start_value start_input
returns c = rw (c.digest.ensures, c.lg-m.ensures)
