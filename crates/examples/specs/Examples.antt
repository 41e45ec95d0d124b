-- The examples that 01 marks (SPEC 13), as statements about tables, the sets that give them, counts, low and last good.
use Rattle.std.specs.Prelude.{◌≡◌, ◌↔◌, true, List, [], ◌∷◌, ℕ, ◌+◌, ◌*◌, length}
use Rattle.std.specs.Int.Count.{ones}
use Rattle.lists.specs.Lists.{◌among◌, up_from, Ascends, first_of}
use Rattle.evidence.specs.Evidence.{table_of, Gives}
use Rattle.layouts.specs.Layouts.{lg, Name, tree, chains, value_count}
use Rattle.reading.specs.Numbers.{low_of, validation_before, last_good_day}
use Rattle.reading.specs.Contract.{allowed_passed}
use Rattle.ambiguity.specs.Ambiguity.{sets, listed}
use Rattle.searching.specs.Searching.{search_of, found_days, progress_of}

-- some set gives the table, and the list is that of the days of such sets (SPEC 8.5), ascending, each once
pub record Lists (scheme n d : ℕ) (table list : List ℕ) : Type 0 where
  pub given : (S : List ℕ) × Gives (chains scheme n d) d S table
  pub listed : (g : ℕ) → (g among list) ↔ ((S : List ℕ) × Gives (chains scheme n d) d S table × (g among S))
  pub ascending : Ascends 1 list

-- 01's cause 14 (SPEC 10.14): no set gives the table
abbrev pub NotGiven : ℕ → ℕ → ℕ → List ℕ → Type 0
NotGiven scheme n d table = (S : List ℕ) → Gives (chains scheme n d) d S table → ⊥

-- a number of values, by the formula (SPEC 4.12) and by the chains
pub record Counts (scheme n d count : ℕ) : Type 0 where
  pub formula : value_count scheme n d ≡ count
  pub chains_are : length (chains scheme n d) ≡ count

-- reading the table that the days S give, with a P that 19 lets pass: the list, low, last good
pub record ReadsBy (scheme n d passed : ℕ) (S list : List ℕ) (low good : ℕ) : Type 0 where
  pub lists : Lists scheme n d (table_of (chains scheme n d) S) list
  pub passed_ok : allowed_passed n d passed ≡ true
  pub low_is : low_of passed (first_of list) ≡ low
  pub good_is : last_good_day scheme n d (table_of (chains scheme n d) S) ≡ good

-- 01's case: P is D − F·N (SPEC 19.4)
abbrev pub Reads : ℕ → ℕ → ℕ → ℕ → List ℕ → List ℕ → ℕ → ℕ → Type 0
Reads scheme n f d S list low good = ReadsBy scheme n d (validation_before n f d) S list low good

-- 001's figure: the days changed, and those listed
abbrev pub figure_changed : List ℕ
figure_changed = 19 ∷ 20 ∷ 27 ∷ []

abbrev pub figure_listed : List ℕ
figure_listed = 19 ∷ 20 ∷ 23 ∷ 24 ∷ 27 ∷ 28 ∷ 31 ∷ 32 ∷ []

-- in the order of SPEC 13.1 to 13.11
pub record Examples : Type 0 where
  pub figure : Reads 2 16 2 64 figure_changed figure_listed 32 16
  pub tree_16 : Counts 3 2 16 35
  pub tree_14 : Counts 3 2 14 29
  pub tree_3 : Counts 3 1 3 5
  pub days_of_tree : Reads 3 2 1 16 (4 ∷ 7 ∷ 10 ∷ []) (4 ∷ 7 ∷ 10 ∷ []) 14 2
  pub black_day : Reads 1 2 3 24 (16 ∷ []) (up_from 15 10) 18 14
  pub tile_1 : Lists 2 1 1 (0 ∷ 0 ∷ []) (1 ∷ [])
  pub tile_4 : Lists 2 4 4 (0 ∷ 1 ∷ 1 ∷ 0 ∷ []) (4 ∷ [])
  pub tile_14 : NotGiven 2 4 4 (1 ∷ 1 ∷ 1 ∷ 0 ∷ [])
  pub tree_2 : Lists 3 1 2 (1 ∷ 0 ∷ 0 ∷ []) (2 ∷ [])
  pub tree_2_14 : NotGiven 3 1 2 (1 ∷ 1 ∷ 0 ∷ [])

-- beside them, two that tell last good from wrong ones: a chain over days 1 to 2 that is no black value, as 4 does
-- not divide 2; and black at day 4, stored once as a tree's chain
pub record LastGoods : Type 0 where
  pub no_black : Reads 3 4 1 4 (3 ∷ []) (3 ∷ []) 2 0
  pub black_stored_once : Reads 3 4 1 8 (7 ∷ []) (7 ∷ []) 6 4

-- 02's skipped validations (SPEC 19.7): 001's figure, if the last check was at day 16, if there was none, and if there
-- was one at day 48, which is no multiple of F·N
pub record Skipped : Type 0 where
  pub one_skipped : ReadsBy 2 16 64 16 figure_changed figure_listed 18 16
  pub all_skipped : ReadsBy 2 16 64 0 figure_changed figure_listed 18 16
  pub one_between : ReadsBy 2 16 64 48 figure_changed figure_listed 48 16

-- searching the table that the days S give, N 1: the chains looked at, the days found, the number undecided
pub record Searches (d : ℕ) (S : List ℕ) (limit : ℕ) (looked : List Name) (found : List ℕ) (undecided : ℕ)
    : Type 0 where
  pub looked_at : (search_of 1 d (table_of (chains 3 1 d) S) limit).looked ≡ looked
  pub search_days_found : found_days 1 d (table_of (chains 3 1 d) S) limit ≡ found
  pub undecided_is : (progress_of 1 d (table_of (chains 3 1 d) S) limit).undecided ≡ undecided

-- 02's search (SPEC 20.8); with day 3 of 4 changed the whole walk has as many chains as 02 allows
abbrev pub walk_of4 : List Name
walk_of4 = tree 2 4 ∷ tree 1 2 ∷ tree 1 4 ∷ tree 0 3 ∷ tree 0 4 ∷ []

abbrev pub walk_of6 : List Name
walk_of6 = tree 2 4 ∷ tree 1 2 ∷ tree 0 1 ∷ tree 0 2 ∷ tree 1 4 ∷ tree 1 6 ∷ tree 0 5 ∷ tree 0 6 ∷ []

pub record Searched : Type 0 where
  pub not_begun : Searches 4 (3 ∷ []) 0 [] [] 4
  pub stopped : Searches 4 (3 ∷ []) 2 (tree 2 4 ∷ tree 1 2 ∷ []) [] 2
  pub not_there_yet : Searches 4 (3 ∷ []) 4 (tree 2 4 ∷ tree 1 2 ∷ tree 1 4 ∷ tree 0 3 ∷ []) (3 ∷ []) 1
  pub finished : Searches 4 (3 ∷ []) 5 walk_of4 (3 ∷ []) 0
  pub clean : Searches 4 [] 9 (tree 2 4 ∷ []) [] 0
  pub two_maximal : Searches 6 (2 ∷ 6 ∷ []) 9 walk_of6 (2 ∷ 6 ∷ []) 0
  pub allowed : ones 4 + 2 * 1 * lg 4 ≡ length walk_of4

-- 02's figures (SPEC 21.8), by their definition: the table of each set is read
pub record Counted (n k setCount listedCount : ℕ) : Type 0 where
  pub sets_are : sets n k ≡ setCount
  pub listed_are : listed n k ≡ listedCount

pub record Figures : Type 0 where
  pub one_of_4 : Counted 4 1 4 9
  pub two_of_4 : Counted 4 2 6 20
  pub two_of_1 : Counted 1 2 0 0
