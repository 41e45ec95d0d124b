-- The links of a day, scheme by scheme.
use mathlib.Core.Path.{◌≡◌, refl, sym, ap, ◌∙◌}
use mathlib.Core.Bool.{Bool, true, false, cond}
use mathlib.Core.List.{List, [], ◌∷◌, ◌++◌}
use Prim.Native.Nat.{ℕ, zero, suc, ◌+◌, ◌-◌, ◌≤◌}
use native.Mathlib.Omega.{arith}
use lib.Dec.{leb}
use lib.ListN.{length, length-append}
use borrow.Author.Tests.{le-leb, lt-leb}
use Rattle.lists.specs.Lists.{keep, up_from}
use Rattle.lists.proofs.Laws.{keep_append, up_from_snoc}
use Rattle.layouts.specs.Layouts.{lg, offset, covers}
use Rattle.layouts.proofs.AllowedLaws.{allowed_n_is}
use Rattle.chains.specs.Step.{slot_links, links_of}
use Rattle.sizing.specs.Statements.{LinksTold}

-- how many of a list pass a test, one more at its end
one_more : (p : ℕ → Bool) (k : ℕ) → length (keep p (up_from 0 (suc k))) ≡ length (keep p (up_from 0 k)) + cond (p k) 1 0
one_more p k =
    let z : 0 + k ≡ k = omega arith in
    ap (λ (l : List ℕ). length (keep p l)) (up_from_snoc 0 k ∙ ap (λ (x : ℕ). up_from 0 k ++ (x ∷ [])) z) ∙
    ap length (keep_append p (up_from 0 k) (k ∷ [])) ∙ length-append (keep p (up_from 0 k)) (keep p (k ∷ [])) ∙
    ap (λ (x : ℕ). length (keep p (up_from 0 k)) + x) (one (p k))
  where
    one : (b : Bool) → length (cond b (k ∷ []) []) ≡ cond b 1 0
    one true = refl
    one false = refl

module _ (n g : ℕ) where
  abbrev covered : ℕ → Bool
  covered i = covers n i (offset n g)

  -- the slots of tile chains
  below : (k : ℕ) → k ≤ suc (lg n) → slot_links 2 n g k ≡ length (keep covered (up_from 0 k))
  below zero l = refl
  below (suc k) l =
      let e : leb k (lg n) ≡ true = le-leb k (lg n) (omega arith) in
      rw e (ap (λ (x : ℕ). x + cond (covered k) 1 0) (below k (omega arith)) ∙ sym (one_more covered k))

  -- those past them are not linked
  above : (j : ℕ) → slot_links 2 n g (suc (lg n) + j) ≡ slot_links 2 n g (suc (lg n))
  above zero = let p : suc (lg n) + 0 ≡ suc (lg n) = omega arith in rw p
  above (suc j) =
      let p : suc (lg n) + suc j ≡ suc (suc (lg n) + j) = omega arith in
      let e : leb (suc (lg n) + j) (lg n) ≡ false = lt-leb (suc (lg n) + j) (lg n) (omega arith) in
      let z : slot_links 2 n g (suc (lg n) + j) + 0 ≡ slot_links 2 n g (suc (lg n) + j) = omega arith in
      ap (slot_links 2 n g) p ∙ rw e (z ∙ above j)

pub links_told : LinksTold
unfolding links_of
links_told n g a =
    let small = (allowed_n_is n a).small in
    let p : 17 ≡ suc (lg n) + (16 - lg n) = omega arith in
    record {
      black_links = refl;
      tile_links = ap suc (ap (slot_links 2 n g) p ∙ above n g (16 - lg n) ∙ below n g (suc (lg n)) (omega arith));
      tree_links = refl;
    }
