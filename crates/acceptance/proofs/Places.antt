-- The chains of a tile stand one behind another, and where the first passes the others decide.
use mathlib.Core.{Path.◌≡◌, Path.refl, Path.sym, Bool.Bool, Bool.true, Bool.false, Bool.not, List.List}
use Prim.Native.Nat.{ℕ, ◌+◌, ◌^◌, ◌≤◌, ◌<◌}
use native.Mathlib.Omega.{arith}
use borrow.Author.Tests.{not-true, not-false}
use Rattle.lists.specs.Lists.{up_from, every}
use Rattle.lists.proofs.Laws.{every_of}
use Rattle.layouts.specs.Layouts.{lg, tile}
use Rattle.layouts.specs.Private.{position}
use Rattle.layouts.proofs.AllowedLaws.{allowed_n_is, chains_few}
use Rattle.acceptance.proofs.Lookup.{position_bound, tile_named}
use Rattle.acceptance.specs.Private.{Interval, passes, tile_rule}

-- the tile's chains
module _ {n g p : ℕ} {t : List ℕ} (h : Interval 2 n g t) (e : p ≡ position 2 n (tile 0 g)) where
  pub tile_place : (i : ℕ) → p + i ≡ position 2 n (tile i g)
  tile_place i = omega arith

  pub tile_fits : (i : ℕ) → i ≤ lg n → p + i + 1 < 2 ^ 32
  tile_fits i l =
      let b = position_bound 2 n g (tile 0 g) (tile_named n g g 0 h.has.some (omega arith) h.whole (omega arith)) in
      let f = chains_few 2 n g refl h.has.n_ok h.has.most in
      let w = allowed_n_is n h.has.n_ok in
      omega (arith, w.small)

-- ---- the rule of a tile's chains

module _ (n g : ℕ) (t : List ℕ) {a : Bool} (e : a ≡ passes 2 n t (tile 0 g)) where
  -- where c(0) fails it asks nothing
  pub tile_free : (k : ℕ) → not a ≡ true → true ≡ every (tile_rule n t g) (up_from 1 k)
  unfolding tile_rule
  tile_free k f = sym (every_of (tile_rule n t g) (up_from 1 k) (λ i m. rw (← e, not-true a f)))

  -- where it passes the other chain decides
  pub tile_own : (i : ℕ) {r : Bool} → not a ≡ false → r ≡ passes 2 n t (tile i g) → r ≡ tile_rule n t g i
  unfolding tile_rule
  tile_own i f h = rw (← e, not-false a f) h
