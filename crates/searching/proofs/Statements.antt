-- What specs/Statements says of a search.
use mathlib.Core.Path.{◌≡◌, refl, sym, ap, subst, ◌∙◌}
use mathlib.Core.Bool.{true, not}
use mathlib.Core.List.{List, [], ◌∷◌, ◌++◌, flat_map, append-nil}
use Prim.Native.Nat.{ℕ, suc, ◌+◌, ◌-◌, ◌*◌, ◌≤◌}
use native.Mathlib.{Decide.ℕ_discrete, Omega.arith}
use lib.{Dec.eqb, Dec.leb, ListN.length, ListN.take, ListN.drop, ListN.length-append, ListN.length-take}
use lib.{Seq.take-append_seam, Seq.drop_at, Count.ones}
use borrow.Author.Tests.{eq-eqb, ne_eqb, le-leb, lt-leb}
use Rattle.lists.specs.Lists.{up_from, keep, Ascends}
use Rattle.lists.proofs.Laws.{mem_has, up_from_bounds, keep_mem, keep_congr, keep_append, has_keep, keep_ascends, is_in, ascends_keep, length-up_from}
use Rattle.evidence.specs.Evidence.{days, table_of, cleared, Gives, listing}
use Rattle.evidence.proofs.TableLaws.{lists_exactly}
use Rattle.refusals.specs.Refusals.{Test, ◌or_refuse◌, first_refusal}
use Rattle.refusals.proofs.TestLaws.{number_passed, number_before, number_after, never_said, last_nothing, same_refusal}
use Rattle.refusals.specs.declared.Refusal.TheVariants as cause
use Rattle.layouts.specs.Layouts.{lg, last_days, chains, layout_tests}
use Rattle.layouts.proofs.Coverage.{tree_single}
use Rattle.acceptance.proofs.Runs.{keep_all, keep_none, keep_length}
use Rattle.reading.specs.Contract.{table_in, allowed_passed, table_tests, read_tested, listed_in, Readout, readout}
use Rattle.reading.specs.Private.{Given}
use Rattle.reading.proofs.Report.{readout_found}
use Rattle.searching.specs.declared.Progress.{Progress}
use Rattle.searching.specs.Searching.{maximal, passes_in, walk, looks, search_of, found_in, days_under, found_days, progress_of, search_tested, search_refusal, searched}
use Rattle.searching.specs.Private.{is_changed, changed_to}
use Rattle.searching.specs.Statements.{SaysNotTree, RefusesAsReading, StateOf, SearchOf, SearchTold, NothingLooked, WalkShort}
use Rattle.searching.proofs.WalkLaws.{looks_first, looks_enough, looks_all}
use Rattle.searching.proofs.Frontier.{due_days, maximal_laid, laid_days}
use Rattle.searching.proofs.Tables.{changed_in, changed_more}
use Rattle.searching.proofs.Reached.{Reached, reached}
use Rattle.searching.proofs.Bounds.{walk_few, walk_size}
use Rattle.searching.proofs.Maximal.{looked_named}
use Rattle.searching.proofs.Calls.{first_tests, search_tree, search_given}

-- ---- tests

pub says_not_tree : SaysNotTree
unfolding search_tested
says_not_tree s n f d o places = (
  λ e. elim (ℕ_discrete (first_refusal A) 0) [
    | yes z ↦ (z, λ q. zero_twenty (search_refusal s n f d o places) (number_after A (eqb s 3 or_refuse cause.NotTree ∷ []) z ∙ rw (eq-eqb s 3 q) refl) e)
    | no h ↦ absurd (never_said 20 A refl (λ q. absurd (omega arith)) (sym (number_before A (eqb s 3 or_refuse cause.NotTree ∷ []) h) ∙ e))
  ],
  λ h. number_after A (eqb s 3 or_refuse cause.NotTree ∷ []) h.0 ∙ rw (ne_eqb s 3 h.1) refl,
)
  where
    A : List Test
    A = first_tests s n f d o places

    zero_twenty : (x : ℕ) → x ≡ 0 → x ≡ 20 → ⊥
    zero_twenty x p q = omega arith

pub refuses_as_reading : RefusesAsReading
unfolding search_tested read_tested
refuses_as_reading n f d p o places h =
    let L = layout_tests 3 n f d in
    let T = table_tests 3 n d o places in
    last_nothing cause.NotTree (L ++ T) ∙
    sym (ap (λ b. first_refusal ((L ++ (b or_refuse cause.BadPassed ∷ [])) ++ T)) h ∙
    same_refusal (L ++ (true or_refuse cause.BadPassed ∷ [])) L T T (last_nothing cause.BadPassed L) refl)

-- ---- the changed days

-- the one set that gives a table of the tree
only_set : (n d : ℕ) (S t : List ℕ) → Ascends 1 S → Gives (chains 3 n d) d S t → listing (chains 3 n d) d t ≡ S
only_set n d S t a h =
    let e : keep (is_in S) (days d) ≡ S = ascends_keep d 1 S a (λ x m. omega (arith, h.within x m)) in
    ap (listing (chains 3 n d) d) (sym h.gives ∙ ap (table_of (chains 3 n d)) (sym e)) ∙ lists_exactly (chains 3 n d) d (tree_single n d) (is_in S) ∙ e

changed_listed : (n d : ℕ) (t : List ℕ) → changed_to n d t d ≡ listing (chains 3 n d) d t
unfolding listing
changed_listed n d t =
    keep_congr (is_changed n d t) (λ g. not (cleared g (chains 3 n d) t)) (days d)
    (λ g m. has_keep (λ x. not (cleared x (chains 3 n d) t)) (days d) g ∙ rw (mem_has m))

-- ---- a search that is not refused

module _ (n d : ℕ) (t : List ℕ) (limit : ℕ) (before : List ℕ) (G : Given 3 n d t (length before)) where
  abbrev P : Progress
  P = progress_of n d t limit

  abbrev F : List ℕ
  F = found_days n d t limit

  g : ℕ
  g = (reached n d (length before) t G limit).0

  R : Reached n d t limit g (reached n d (length before) t G limit).1
  unfolding g
  R = (reached n d (length before) t G limit).2

  under : days_under n (search_of n d t limit).due ≡ up_from (suc g) (d - g)
  under = due_days n d g _ (search_of n d t limit).due R.due

  found_is : P.found ≡ length (changed_to n d t g)
  unfolding progress_of
  found_is = ap length R.found

  undecided_is : P.undecided ≡ d - g
  unfolding progress_of
  undecided_is = ap length under ∙ length-up_from (suc g) (d - g)

  changed_size : length (changed_to n d t d) ≡ length (changed_to n d t g) + length (changed_in n d t g (d - g))
  changed_size =
      let e : g + (d - g) ≡ d = omega (arith, R.due.most) in
      ap (λ x. length (changed_to n d t x)) (sym e) ∙ ap length (sym (changed_more n d t g (d - g))) ∙ length-append (changed_to n d t g) (changed_in n d t g (d - g))

  set_size : (S : List ℕ) → Ascends 1 S → Gives (chains 3 n d) d S t → length S ≡ length (changed_to n d t d)
  set_size S a h = ap length (sym (only_set n d S t a h) ∙ sym (changed_listed n d t))

  number_between : (S : List ℕ) → Ascends 1 S → Gives (chains 3 n d) d S t → (P.found ≤ length S) × (length S ≤ P.found + P.undecided)
  number_between S a h =
      let e = set_size S a h in
      let c = changed_size in
      let b = keep_length (is_changed n d t) (up_from (suc g) (d - g)) in
      let l = length-up_from (suc g) (d - g) in
      (omega (arith, found_is), omega (arith, found_is, undecided_is))

  -- with none undecided
  all_decided : P.undecided ≡ 0 → g ≡ d
  all_decided z = omega (arith, undecided_is, R.due.most)

  pub all_looked : P.undecided ≡ 0 → (search_of n d t limit).looked ≡ walk (passes_in n d t) d
  unfolding walk
  all_looked z = looks_all (passes_in n d t) limit (maximal d) (R.due.none (all_decided z))

  walk_within : P.undecided ≡ 0 → length (walk (passes_in n d t) d) ≤ limit
  unfolding walk
  walk_within z =
      let e = ap length (sym (all_looked z) ∙ looks_first (passes_in n d t) limit (maximal d)) ∙ length-take limit (walk (passes_in n d t) d) in
      omega arith

  -- the changed days before the undecided ones
  found_changed : (S : List ℕ) → Ascends 1 S → Gives (chains 3 n d) d S t → F ≡ keep (λ x. leb x (d - P.undecided)) S
  found_changed S a h =
      let e : d - P.undecided ≡ g = omega (arith, undecided_is, R.due.most) in
      let w : g + (d - g) ≡ d = omega (arith, R.due.most) in
      let q : S ≡ changed_to n d t g ++ changed_in n d t g (d - g) =
      sym (changed_more n d t g (d - g) ∙ ap (changed_to n d t) w ∙ changed_listed n d t ∙ only_set n d S t a h) in
      R.found ∙ sym (rw e (ap (keep (λ x. leb x g)) q ∙ keep_append (λ x. leb x g) (changed_to n d t g) (changed_in n d t g (d - g)) ∙ rw (early, late) (append-nil (changed_to n d t g))))
    where
      early : keep (λ x. leb x g) (changed_to n d t g) ≡ changed_to n d t g
      early = keep_all (λ x. leb x g) (changed_to n d t g) (λ x m. let b = up_from_bounds 1 g x (keep_mem (is_changed n d t) (days g) x m).0 in le-leb x g (omega arith))

      late : keep (λ x. leb x g) (changed_in n d t g (d - g)) ≡ []
      late = keep_none (λ x. leb x g) (changed_in n d t g (d - g))
          (λ x m. let b = up_from_bounds (suc g) (d - g) x (keep_mem (is_changed n d t) (up_from (suc g) (d - g)) x m).0 in lt-leb x g (omega arith))

  pub state_of : StateOf n d t limit before (F ++ drop (length F) before) P
  unfolding progress_of walk found_days days_under flat_map
  state_of =
      record {
        first_of_walk = looks_first (passes_in n d t) limit (maximal d);
        in_book = looked_named n d (passes_in n d t) limit G.table.some;
        looked_counted = refl;
        looked_least = ap length (looks_first (passes_in n d t) limit (maximal d)) ∙ length-take limit (walk (passes_in n d t) d);
        found_counted = ap length front;
        found_days_are = front;
        ascending = rw front (rw R.found (keep_ascends (is_changed n d t) 1 g));
        rest = drop_at F (drop (length F) before) (length F) refl;
        undecided_few = omega (arith, undecided_is);
        undecided_last = under ∙ last;
        undecided_none = (λ z. walk_within z, λ h. ap (λ r. length (days_under n r)) (looks_enough (passes_in n d t) limit (maximal d) h));
        changed_found = λ S a h. front ∙ found_changed S a h;
        between = number_between;
      }
    where
      front : take (length F) (F ++ drop (length F) before) ≡ F
      front = take-append_seam F (drop (length F) before)

      last : up_from (suc g) (d - g) ≡ last_days P.undecided d
      last = let e : d - (d - g) ≡ g = omega (arith, R.due.most) in rw (undecided_is, e)

  pub all_found : P.undecided ≡ 0 → F ≡ listing (chains 3 n d) d t
  all_found z = R.found ∙ ap (changed_to n d t) (all_decided z) ∙ changed_listed n d t

  pub all_bound : P.undecided ≡ 0 → (S : List ℕ) → Ascends 1 S → Gives (chains 3 n d) d S t → P.looked ≤ ones d + 2 * length S * lg d
  unfolding progress_of
  all_bound z S a h = rw (set_size S a h, all_looked z) (walk_size n d (length before) t G)

module _ (n f d : ℕ) (o : List ℕ) (limit : ℕ) (l : List ℕ) (e : search_refusal 3 n f d o (length l) ≡ 0) where
  G : Given 3 n d (table_in 3 n d o) (length l)
  G = search_given 3 n f d o (length l) e

  as_read : (progress_of n d (table_in 3 n d o) limit).undecided ≡ 0 → (p : ℕ) → allowed_passed n d p ≡ true →
      (searched 3 n f d o limit l).list ≡ (readout 3 n f d p o l).list
  unfolding searched listed_in
  as_read z p h =
      let F = all_found n d (table_in 3 n d o) limit l G z in
      rw e (ap (λ x. x ++ drop (length x) l) F ∙ sym (ap (λ (r : Readout). r.list) (readout_found 3 n f d p o l (sym (refuses_as_reading n f d p o (length l) h) ∙ e))))

  tree_search : SearchOf 3 n f d o limit l
  unfolding searched
  tree_search =
      record {
        progress = progress_of n d (table_in 3 n d o) limit;
        answer = rw (number_passed (search_tested 3 n f d o (length l)) e) refl;
        state = rw e (state_of n d (table_in 3 n d o) limit l G);
        finished = λ z. record {
          walked = all_looked n d (table_in 3 n d o) limit l G z;
          as_reading = as_read z;
          bound = all_bound n d (table_in 3 n d o) limit l G z;
        };
      }

pub search_told : SearchTold
search_told s n f d o limit l e =
    subst (λ (x : ℕ). search_refusal x n f d o (length l) ≡ 0 → SearchOf x n f d o limit l) (sym (search_tree s n f d o (length l) e)) (tree_search n f d o limit l) e

pub nothing_looked : NothingLooked
unfolding searched progress_of found_days found_in looks flat_map
nothing_looked s n f d o l e =
    let t = table_in s n d o in
    let some = (search_given s n f d o (length l) e).table.some in
    let z : d - 0 ≡ d = omega arith in
    let u : length (days_under n (maximal d)) ≡ d = ap length (laid_days n d 0 (maximal d) (maximal_laid d some)) ∙ length-up_from 1 (d - 0) ∙ z in
    rw (number_passed (search_tested s n f d o (length l)) e, u) refl

pub walk_short : WalkShort
walk_short = walk_few
