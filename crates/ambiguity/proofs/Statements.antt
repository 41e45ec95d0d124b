-- Each tile's table is read, by every call that the layout allows.
use mathlib.Core.Path.{sym, ◌∙◌}
use mathlib.Core.List.{map}
use Prim.Native.Nat.{suc}
use native.Mathlib.Omega.{arith}
use Rattle.lists.specs.Lists.{up_from}
use Rattle.lists.proofs.Laws.{up_from_bounds}
use Rattle.layouts.proofs.AllowedLaws.{layout_is}
use Rattle.ambiguity.specs.Ambiguity.{offset_sets, tile_table}
use Rattle.ambiguity.specs.Statements.{TilesAreRead}
use Rattle.ambiguity.proofs.SetLaws.{set_within}
use Rattle.ambiguity.proofs.ReadLaws.{Inside, days_within, read_done, read_listed, own_listed}

pub tiles_are_read : TilesAreRead
unfolding tile_table offset_sets
tiles_are_read n k f p S l m ok pass room =
    let inside : Inside n S = λ x i. let b = up_from_bounds 0 n x (set_within k (up_from 0 n) S m x i) in omega arith in
    let w = days_within n S inside in
    record {
      done = read_done n f p (map suc S) l ok pass room w;
      days = read_listed n f p (map suc S) l ok pass room w ∙ sym (own_listed n S (layout_is 2 n f n ok).0.n_ok inside);
    }
