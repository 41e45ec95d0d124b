-- 02's search of a tree's table with a stop (C-15, SPEC 20). Definitions only.
use Rattle.std.specs.Prelude.{Bool, false, ◌&&◌, ◌||◌, cond, ℕ, zero, suc, ◌-◌, ◌*◌, ◌/◌, ◌%◌, ◌^◌, eqb, length}
use Rattle.std.specs.Prelude.{Result}
use mathlib.Core.List.{List, [], ◌∷◌, ◌++◌, flat_map}
use Rattle.refusals.specs.Refusals.{Test, ◌or_refuse◌, tested, number_of, answered, front_written}
use Rattle.refusals.specs.declared.Refusal.{Refusal}
use Rattle.refusals.specs.declared.Refusal.TheVariants as cause
use Rattle.layouts.specs.Layouts.{lg, Name, black, tile, tree, covered_days, names_through, layout_tests}
use Rattle.reading.specs.Contract.{table_in, table_tests}
use Rattle.searching.specs.declared.Progress.{Progress}

-- ---- the walk

-- 02's maximal tree chains over the days 1 to d, from left to right (SPEC 20.2): one for each bit of d that is 1, here
-- those of the levels below l
abbrev pub maximal_below : ℕ → ℕ → List Name
maximal_below d zero = []
maximal_below d (suc l) =
    cond (eqb (d / 2 ^ l % 2) 1) (tree l (d / 2 ^ l * 2 ^ l) ∷ maximal_below d l) (maximal_below d l)

unfoldable pub maximal : ℕ → List Name
maximal d = maximal_below d (suc (lg d))

abbrev pub is_tree : ℕ → ℕ → Name → Bool  -- the name of the tree's level l that ends at g
is_tree l g (black h) = false
is_tree l g (tile i h) = false
is_tree l g (tree m h) = eqb m l && eqb h g

-- a look at the tree's level l that ends at g (SPEC 20.3): whether it passes, by the values' names and the table
abbrev pub passing : List Name → List ℕ → ℕ → ℕ → Bool
passing [] table l g = false
passing (x ∷ names) [] l g = false
passing (x ∷ names) (o ∷ table) l g = (is_tree l g x && eqb o 1) || passing names table l g

-- in a table of d days
abbrev pub passes_in : ℕ → ℕ → List ℕ → ℕ → ℕ → Bool
passes_in n d table = passing (names_through 3 n d) table

module _ (passes : ℕ → ℕ → Bool) where
  -- the day that a look finds (SPEC 20.3): a single one that fails
  abbrev pub found_at : Name → List ℕ
  found_at (black g) = []
  found_at (tile i g) = []
  found_at (tree zero g) = cond (passes 0 g) [] (g ∷ [])
  found_at (tree (suc l) g) = []

  -- 02's "dealt with fully" (SPEC 20.3): the tree's level l that ends at g, and where it fails its left half, then its
  -- right; the law `looks_first`: this is the order in which chains are looked at
  abbrev pub dealt_with : ℕ → ℕ → List Name
  dealt_with zero g = tree 0 g ∷ []
  dealt_with (suc l) g =
      tree (suc l) g ∷ cond (passes (suc l) g) [] (dealt_with l (g - 2 ^ l) ++ dealt_with l g)

  abbrev pub fully : Name → List Name
  fully (black g) = black g ∷ []
  fully (tile i g) = tile i g ∷ []
  fully (tree l g) = dealt_with l g

  -- what a look makes due (SPEC 20.4): of a chain that fails its left half, then its right; of a single day nothing
  abbrev pub halves : Name → List Name
  halves (black g) = []
  halves (tile i g) = []
  halves (tree zero g) = []
  halves (tree (suc l) g) = cond (passes (suc l) g) [] (tree l (g - 2 ^ l) ∷ tree l g ∷ [])

-- 02's walk over d days
unfoldable pub walk : (ℕ → ℕ → Bool) → ℕ → List Name
walk passes d = flat_map (fully passes) (maximal d)

-- the chains looked at, and those due and not looked at
pub record Looks : Type 0 where
  pub looked : List Name
  pub due : List Name

-- 02's search from some chains due on (SPEC 20.4): the one due first is looked at, until k have been or none is due
unfoldable pub looks : (ℕ → ℕ → Bool) → ℕ → List Name → Looks
looks passes zero due = record { looked = []; due = due }
looks passes (suc k) [] = record { looked = []; due = [] }
looks passes (suc k) (x ∷ due) =
    let later = looks passes k (halves passes x ++ due) in record { looked = x ∷ later.looked; due = later.due }

-- of a table of d days, with a limit
abbrev pub search_of : ℕ → ℕ → List ℕ → ℕ → Looks
search_of n d table limit = looks (passes_in n d table) limit (maximal d)

-- 02's days found and days undecided (SPEC 20.5)
unfoldable pub found_in : (ℕ → ℕ → Bool) → List Name → List ℕ
found_in passes looked = flat_map (found_at passes) looked

unfoldable pub days_under : ℕ → List Name → List ℕ
days_under n due = flat_map (covered_days n) due

unfoldable pub found_days : ℕ → ℕ → List ℕ → ℕ → List ℕ
found_days n d table limit = found_in (passes_in n d table) (search_of n d table limit).looked

-- 02's three numbers (SPEC 20.5)
unfoldable pub progress_of : ℕ → ℕ → List ℕ → ℕ → Progress
progress_of n d table limit =
    let state = search_of n d table limit in
    record {
      looked = length state.looked;
      found = length (found_days n d table limit);
      undecided = length (days_under n state.due);
    }

-- ---- the call

-- tests 1 2 3 7 8 12 13 14, then 02's test 20 (SPEC 10.20, 11.12)
abbrev pub search_tests : ℕ → ℕ → ℕ → ℕ → List ℕ → ℕ → List Test
search_tests scheme n f d outcomes places =
    (layout_tests scheme n f d ++ table_tests scheme n d outcomes places) ++ (eqb scheme 3 or_refuse cause.NotTree ∷ [])

unfoldable pub search_tested : ℕ → ℕ → ℕ → ℕ → List ℕ → ℕ → Result Unit Refusal
search_tested scheme n f d outcomes places = tested (search_tests scheme n f d outcomes places)

abbrev pub search_refusal : ℕ → ℕ → ℕ → ℕ → List ℕ → ℕ → ℕ
search_refusal scheme n f d outcomes places = number_of (search_tested scheme n f d outcomes places)

-- all that a call leaves: the answer, and the list
pub record Searchout : Type 0 where
  pub answer : Result Progress Refusal
  pub list : List ℕ

-- the numbers, and the days found before what stood in the list; a refusal gives its cause and changes nothing
unfoldable pub searched : ℕ → ℕ → ℕ → ℕ → List ℕ → ℕ → List ℕ → Searchout
searched scheme n f d outcomes limit list =
    let tests = search_tested scheme n f d outcomes (length list) in
    let table = table_in scheme n d outcomes in
    record {
      answer = answered tests (progress_of n d table limit);
      list = front_written (number_of tests) (found_days n d table limit) list;
    }
