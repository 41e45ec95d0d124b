-- The refusal by the tests, what no refusal leaves, and what the call answers.
use mathlib.Core.{Path.◌≡◌, Path.refl, Path.sym, Path.ap, Path.subst, Path.◌∙◌, List.List, List.[], List.◌∷◌, List.◌++◌}
use mathlib.Core.Bool.{true}
use Prim.Native.Nat.{ℕ, ◌≤◌}
use native.Mathlib.Omega.{arith}
use lib.{Dec.eqb, ListN.length, ListN.take, ListN.drop, Seq.length-take-le}
use borrow.Author.Tests.{eqb-true, eq-eqb, ne_eqb, leb-true}
use Rattle.std.specs.Prelude.{Ok, Err}
use Rattle.refusals.specs.Refusals.{Test, ◌or_refuse◌, tested}
use Rattle.refusals.specs.declared.Refusal.{Refusal}
use Rattle.refusals.specs.declared.Refusal.TheVariants as cause
use Rattle.refusals.proofs.TestLaws.{Pass, none_fails, no_refusal, pass_split, refused_before, passed_before, passed_number, old_stays, new_stands}
use Rattle.layouts.specs.Layouts.{layout_tests, layout_tested, layout_refusal, chains}
use Rattle.reading.specs.Contract.{table_in, table_tests}
use Rattle.reading.specs.Private.{Layout, Given}
use Rattle.reading.proofs.RefusalLaws.{layout_facts, layout_table}
use Rattle.searching.specs.declared.Progress.{Progress}
use Rattle.searching.specs.Searching.{progress_of, found_days, search_tests, search_tested, search_refusal, searched}

module _ (s n f d : ℕ) (o : List ℕ) (places : ℕ) where
  -- tests 1 2 3 7 8 12 13 14
  abbrev pub first_tests : List Test
  first_tests = layout_tests s n f d ++ table_tests s n d o places

  -- ---- the code's ways out

  pub search_early : {r : Refusal} → layout_tested s n f d ≡ Err r → Err r ≡ search_tested s n f d o places
  unfolding search_tested layout_tested
  search_early e =
      sym (refused_before first_tests (eqb s 3 or_refuse cause.NotTree ∷ []) (refused_before (layout_tests s n f d) (table_tests s n d o places) e))

  module _ (e : layout_tested s n f d ≡ Ok tt) where
    pub layout_given : Layout s n d
    layout_given = layout_facts s n f d (passed_number (layout_tested s n f d) e)

    by_table : tested first_tests ≡ tested (table_tests s n d o places)
    unfolding layout_tested
    by_table = passed_before (layout_tests s n f d) (table_tests s n d o places) e

    pub search_table : {r : Refusal} → tested (table_tests s n d o places) ≡ Err r → Err r ≡ search_tested s n f d o places
    unfolding search_tested
    search_table h = sym (refused_before first_tests (eqb s 3 or_refuse cause.NotTree ∷ []) (by_table ∙ h))

    module _ (t : tested (table_tests s n d o places) ≡ Ok tt) where
      by_scheme : search_tested s n f d o places ≡ tested (eqb s 3 or_refuse cause.NotTree ∷ [])
      unfolding search_tested
      by_scheme = passed_before first_tests (eqb s 3 or_refuse cause.NotTree ∷ []) (by_table ∙ t)

      pub search_20 : (s ≡ 3 → ⊥) → Err cause.NotTree ≡ search_tested s n f d o places
      search_20 h = rw (by_scheme, ne_eqb s 3 h) refl

      pub search_passed : s ≡ 3 → Ok tt ≡ search_tested s n f d o places
      search_passed h = rw (by_scheme, eq-eqb s 3 h) refl

  -- ---- what no refusal leaves

  module _ (e : search_refusal s n f d o places ≡ 0) where
    passes : Pass first_tests × (eqb s 3 ≡ true)
    unfolding search_tested
    passes = let q = pass_split first_tests (eqb s 3 or_refuse cause.NotTree ∷ []) (none_fails (search_tests s n f d o places) e) in (q.0, q.1.0)

    parts : Pass (layout_tests s n f d) × Pass (table_tests s n d o places)
    parts = pass_split (layout_tests s n f d) (table_tests s n d o places) passes.0

    pub search_tree : s ≡ 3
    search_tree = eqb-true s 3 passes.1

    pub search_allowed : layout_refusal s n f d ≡ 0
    unfolding layout_tested
    search_allowed = no_refusal (layout_tests s n f d) parts.0

    pub search_facts : Layout s n d
    search_facts = layout_facts s n f d search_allowed

    pub search_enough : length (chains s n d) ≤ length o
    search_enough = leb-true (length (chains s n d)) (length o) parts.1.1.0

    search_scheme : Given s n d (table_in s n d o) places
    search_scheme =
        let q = parts.1 in
        record {
          table = layout_table s n d (table_in s n d o) search_facts (length-take-le (length (chains s n d)) o search_enough);
          bits_ok = q.1.1.0;
          accepted_ok = q.1.1.1.0;
          room = leb-true d places q.0;
        }

    pub search_given : Given 3 n d (table_in s n d o) places
    search_given = subst (λ (x : ℕ). Given x n d (table_in s n d o) places) search_tree search_scheme

-- ---- the answer

module _ (s n f d : ℕ) (o l : List ℕ) where
  module _ {r : Refusal} (limit : ℕ) (e : search_tested s n f d o (length l) ≡ Err r) where
    pub search_refused : Err r ≡ (searched s n f d o limit l).answer
    unfolding searched
    search_refused = rw e refl

    pub search_left : l ≡ (searched s n f d o limit l).list
    unfolding searched
    search_left = sym (old_stays (search_tested s n f d o (length l)) _ l e)

  module _ (e : search_tested s n f d o (length l) ≡ Ok tt) where
    none : search_refusal s n f d o (length l) ≡ 0
    none = passed_number (search_tested s n f d o (length l)) e

    pub values_need : Layout s n d
    values_need = search_facts s n f d o (length l) none

    -- the outcomes needed, by their number
    module _ {v : ℕ} (q : v ≡ length (chains s n d)) where
      pub values_within : v ≤ length o
      values_within = omega (arith, search_enough s n f d o (length l) none)

      part_is : take v o ≡ table_in s n d o
      part_is = ap (λ y. take y o) q

      pub walk_given : Given 3 n d (take v o) (length l)
      walk_given = rw part_is (search_given s n f d o (length l) none)

      pub search_state : (limit : ℕ) (p : Progress) → p ≡ progress_of n d (take v o) limit → Ok p ≡ (searched s n f d o limit l).answer
      unfolding searched
      search_state limit p h = rw (e, h, part_is) refl

      pub search_list : (limit : ℕ) {m : List ℕ} → m ≡ found_days n d (take v o) limit ++ drop (length (found_days n d (take v o) limit)) l → m ≡ (searched s n f d o limit l).list
      unfolding searched
      search_list limit h =
          h ∙ ap (λ y. found_days n d y limit ++ drop (length (found_days n d y limit)) l) part_is ∙ sym (new_stands (search_tested s n f d o (length l)) _ l e)

-- what the test goes by
pub ruleset search_laws = (search_early, layout_given, search_table, search_20, search_passed)
