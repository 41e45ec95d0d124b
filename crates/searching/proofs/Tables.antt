-- Looks at a table that a set gives: a chain passes exactly if the set has no day of it, and a look's day is the set's.
use mathlib.Core.Path.{◌≡◌, refl, sym, ap, ◌∙◌}
use mathlib.Core.Bool.{Bool, true, false, not, ◌&&◌, ◌||◌, cond, and-false, or-true}
use mathlib.Core.Logic.{inl, inr}
use mathlib.Core.List.Memᴰ
use mathlib.Core.List.{List, [], ◌∷◌, ◌++◌, map, append-nil}
use Prim.Native.Nat.{ℕ, zero, suc, ◌+◌, ◌-◌, ◌^◌, ◌≤◌, ◌<◌}
use native.Mathlib.Omega.{arith}
use lib.{Dec.eqb, ListN.length, Pow.pow_pos}
use borrow.Author.Tests.{eqb-true, eq-eqb, not-true, not-false}
use Rattle.lists.specs.Lists.{◌among◌, has, up_from, keep}
use Rattle.lists.proofs.Laws.{split, true_or_false, and_both, has_mem, mem_has, mem_keep, some_there, keep_append, up_from-append}
use Rattle.evidence.specs.Evidence.{meets, set_outcome, table_of, Gives, listing}
use Rattle.evidence.proofs.TableLaws.{meets_of, meets_day, accepted_gives}
use Rattle.layouts.specs.Layouts.{Name, black, tile, tree, last_days, covered_days, names_through, chains}
use Rattle.acceptance.specs.Private.{passes}
use Rattle.acceptance.proofs.{Runs.keep_none, Lookup.gives_passes, Lookup.tree_named}
use Rattle.reading.specs.Private.{Given}
use Rattle.searching.specs.Searching.{is_tree, passing, passes_in, found_at, halves}
use Rattle.searching.specs.Private.{Fits, Largest, is_changed, changed_to, Stepped}
use Rattle.searching.proofs.Frontier.{end_whole, laid_due, halves_due}

-- ---- looked up by name

abbrev is_there : ℕ → ℕ → List Name → Bool
is_there l g [] = false
is_there l g (x ∷ xs) = is_tree l g x || is_there l g xs

tree_covers : (n l g : ℕ) (x : Name) → is_tree l g x ≡ true → covered_days n x ≡ last_days (2 ^ l) g
tree_covers n l g (black h) e = absurd (true_or_false e refl)
tree_covers n l g (tile i h) e = absurd (true_or_false e refl)
tree_covers n l g (tree m h) e =
    let b = and_both (eqb m l) (eqb h g) e in
    rw (eqb-true m l b.0, eqb-true h g b.1)

passing_by : (n l g : ℕ) (S : List ℕ) (xs : List Name) →
    passing xs (map (set_outcome S) (map (covered_days n) xs)) l g ≡ is_there l g xs && not (meets S (last_days (2 ^ l) g))
passing_by n l g S [] = refl
passing_by n l g S (x ∷ xs) = rw (passing_by n l g S xs) (elim (split (is_tree l g x)) [
  | inl e ↦ rw (e, tree_covers n l g x e) (flip (meets S (last_days (2 ^ l) g)) (is_there l g xs))
  | inr e ↦ rw e
])
  where
    flip : (m r : Bool) → eqb (cond m 0 1) 1 || (r && not m) ≡ not m
    flip true r = and-false r
    flip false r = refl

is_there_lem : (l g : ℕ) {xs : List Name} → tree l g among xs → is_there l g xs ≡ true
is_there_lem l g (Memᴰ.head {x = y} {xs = ys} e) = rw (← e, eq-eqb l l refl, eq-eqb g g refl)
is_there_lem l g (Memᴰ.tail {x = y} {xs = ys} m) = rw (is_there_lem l g m) (or-true (is_tree l g y))

-- ---- the changed days of a run

-- of the k days behind day g
abbrev pub changed_in : ℕ → ℕ → List ℕ → ℕ → ℕ → List ℕ
changed_in n d t g k = keep (is_changed n d t) (up_from (suc g) k)

pub changed_split : (n d : ℕ) (t : List ℕ) (g a b : ℕ) → changed_in n d t g (a + b) ≡ changed_in n d t g a ++ changed_in n d t (g + a) b
changed_split n d t g a b =
    let e : suc g + a ≡ suc (g + a) = omega arith in
    ap (keep (is_changed n d t)) (up_from-append (suc g) a b) ∙ keep_append (is_changed n d t) (up_from (suc g) a) (up_from (suc g + a) b) ∙ rw e

pub changed_more : (n d : ℕ) (t : List ℕ) (g k : ℕ) → changed_to n d t g ++ changed_in n d t g k ≡ changed_to n d t (g + k)
changed_more n d t g k = let z : 0 + g ≡ g = omega arith in sym (rw z at (changed_split n d t 0 g k))

-- ---- in a table that is given

module _ (n d places : ℕ) (t : List ℕ) (G : Given 3 n d t places) where
  abbrev S : List ℕ
  S = listing (chains 3 n d) d t

  gives : Gives (chains 3 n d) d S t
  gives = accepted_gives (chains 3 n d) d t G.accepted_ok

  -- a chain of the tree, by its days
  module _ (g l : ℕ) (f : Fits d g l) where
    pub end_some : 1 ≤ g + 2 ^ l
    end_some = let w = pow_pos l in omega arith

    named : tree l (g + 2 ^ l) among names_through 3 n d
    named = tree_named n d (g + 2 ^ l) l end_some f.room (end_whole g l f.whole)

    days_are : last_days (2 ^ l) (g + 2 ^ l) ≡ up_from (suc g) (2 ^ l)
    days_are = let a : g + 2 ^ l - 2 ^ l ≡ g = omega arith in rw a

    pass_is : passes_in n d t l (g + 2 ^ l) ≡ not (meets S (up_from (suc g) (2 ^ l)))
    unfolding chains table_of
    pass_is =
        ap (λ x. passing (names_through 3 n d) x l (g + 2 ^ l)) (sym gives.gives) ∙ passing_by n l (g + 2 ^ l) S (names_through 3 n d) ∙
        rw (is_there_lem l (g + 2 ^ l) named, days_are)

    pub look_is : passes 3 n t (tree l (g + 2 ^ l)) ≡ passes_in n d t l (g + 2 ^ l)
    look_is = gives_passes 3 n d S t gives (tree l (g + 2 ^ l)) named ∙ ap (λ r. not (meets S r)) days_are ∙ sym pass_is

    own_none : passes_in n d t l (g + 2 ^ l) ≡ true → changed_in n d t g (2 ^ l) ≡ []
    own_none e = keep_none (is_changed n d t) (up_from (suc g) (2 ^ l)) (λ x m. elim (split (has x S)) [
      | inl h ↦ absurd (true_or_false (meets_of S (up_from (suc g) (2 ^ l)) x m (has_mem x S h)) (not-true (meets S (up_from (suc g) (2 ^ l))) (sym pass_is ∙ e)))
      | inr h ↦ h
    ])

    pub own_some : passes_in n d t l (g + 2 ^ l) ≡ false → 1 ≤ length (changed_in n d t g (2 ^ l))
    own_some e =
        let r = meets_day S (up_from (suc g) (2 ^ l)) (not-false (meets S (up_from (suc g) (2 ^ l))) (sym pass_is ∙ e)) in
        some_there (mem_keep (is_changed n d t) (up_from (suc g) (2 ^ l)) r.0 r.1 (mem_has r.2))

    pub found_none : passes_in n d t l (g + 2 ^ l) ≡ true → (k : ℕ) → k ≡ l → found_at (passes_in n d t) (tree k (g + 2 ^ l)) ≡ []
    found_none e zero q = rw (q, e)
    found_none e (suc k) q = refl

    halves_none : passes_in n d t l (g + 2 ^ l) ≡ true → (k : ℕ) → k ≡ l → halves (passes_in n d t) (tree k (g + 2 ^ l)) ≡ []
    halves_none e zero q = refl
    halves_none e (suc k) q = rw (q, e)

    -- one that passes is decided
    pub step_passed : (m : ℕ) → passes_in n d t l (g + 2 ^ l) ≡ true → (g + 2 ^ l < d → Largest d (g + 2 ^ l) m) → Stepped n d t g l (g + 2 ^ l) m
    step_passed m e h =
        record {
          changed = ap (λ r. changed_to n d t g ++ r) (found_none e l refl ∙ sym (own_none e)) ∙ changed_more n d t g (2 ^ l);
          due = λ rest q. rw (halves_none e l refl) (laid_due d (g + 2 ^ l) m rest f.room h q);
        }

  -- a single day that fails is decided, and found
  pub step_found : (g m : ℕ) → Fits d g 0 → passes_in n d t 0 (g + 1) ≡ false → (g + 1 < d → Largest d (g + 1) m) → Stepped n d t g 0 (g + 1) m
  step_found g m f e h =
      let a : suc g ≡ g + 1 = omega arith in
      let b : has (suc g) S || false ≡ true = not-false (has (suc g) S || false) (sym (pass_is g 0 f) ∙ e) in
      let o : changed_in n d t g 1 ≡ (g + 1) ∷ [] = rw (or_one (has (suc g) S) b, a) in
      record {
        changed = rw e (ap (λ r. changed_to n d t g ++ r) (sym o) ∙ changed_more n d t g 1);
        due = λ rest q. laid_due d (g + 1) m rest f.room h q;
      }
    where
      or_one : (x : Bool) → x || false ≡ true → x ≡ true
      or_one true q = refl
      or_one false q = q

  -- a chain of more days that fails gives way to its halves
  pub step_halves : (g l : ℕ) → Fits d g (suc l) → passes_in n d t (suc l) (g + 2 ^ suc l) ≡ false → Stepped n d t g (suc l) g l
  step_halves g l f e =
      record {
        changed = append-nil (changed_to n d t g);
        due = λ rest q. rw e (halves_due d g l rest f q);
      }
