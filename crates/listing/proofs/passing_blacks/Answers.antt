-- `listing::passing_blacks` meets its contract.
use Rattle.acceptance.proofs.Steps.{interval_of}
use Rattle.listing.specs.Private.{black_passes}
use Rattle.lists.proofs.Laws.{every_more}
use Rattle.std.proofs.Common.{◌≡◌, ◌+◌, arith, add-one}
use mathlib.Core.{Path.sym, Path.◌∙◌}
use Rattle.listing.proofs.passing_blacks.Goals as goal

pub black_passes-requires : goal.black_passes-requires
black_passes-requires c = interval_of _ c.requires (omega arith) (omega arith)

pub returns-then-not-black_passes : goal.returns-then-not-black_passes
unfolding black_passes
returns-then-not-black_passes c =
    record { few = omega arith; pass = c.loop-k.invariant; fails = λ h. sym c.black_passes.ensures ∙ c.if-not-black_passes.true }

pub loop-k-preserved : goal.loop-k-preserved
unfolding black_passes
loop-k-preserved c = let l = c.loop-k in
    rw add-one (every_more _ 1 l.k l.invariant (let e : 1 + l.k ≡ l.k + 1 = omega arith in rw e (sym c.black_passes.ensures ∙ c.if-not-black_passes.false)))
