-- `listing::black_days` meets its contract.
use Rattle.listing.proofs.{Blacks.black_run}
use Rattle.acceptance.proofs.Steps.{interval_end}
use Rattle.buffers.proofs.Writes.{wrote_as}
use Rattle.std.proofs.Common.{◌*◌, ◌≤◌}
use Rattle.listing.proofs.black_days.Goals.{After-passing_blacks-k}
use Rattle.listing.proofs.black_days.Goals as goal

-- what is passed lies within the days

within : (c : After-passing_blacks-k) → let a = c.args in c.passing_blacks-k.result * a.n ≤ a.d
within c = interval_end _ _ _ c.passing_blacks-k.ensures.few

pub returns : goal.returns
returns c = let pre = c.requires in
    wrote_as _ (black_run _ _ _ pre.0 pre.2 _ c.passing_blacks-k.ensures) c.run.ensures
