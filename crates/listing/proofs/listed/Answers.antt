-- `listing::listed` meets its contract.
use Rattle.listing.proofs.{Lists.rules_levels}
use Rattle.layouts.proofs.AllowedLaws.{allowed_scheme_is}
use Rattle.std.proofs.Common.{◌≡◌, arith}
use Rattle.listing.proofs.listed.Goals as goal

pub tree_walk-requires : goal.tree_walk-requires
tree_walk-requires c =
    let pre = c.requires in
    let b = allowed_scheme_is c.args.scheme pre.0.scheme_ok in
    let e : c.args.scheme ≡ 3 = omega arith in
    (rw e at pre.0, pre.1, rules_levels _ _ _ _ e pre.2)
