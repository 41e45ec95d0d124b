-- `listing::passing` meets its contract.
use Rattle.acceptance.specs.Private.{number, tile_bit}
use Rattle.layouts.specs.Layouts.{lg}
use Rattle.std.proofs.Common.{◌≡◌, ◌+◌, ◌-◌, ◌/◌, ◌^◌}
use Rattle.listing.proofs.passing.Given as goal

abbrev pub invariant-loop-i : goal.invariant-loop-i
invariant-loop-i l = l.m ≡ number (tile_bit l.n l.t l.g) (lg l.n) / 2 ^ (lg l.n + 1 - l.i)
