-- What is proved of every search (SPEC 20.1, 20.2, 20.6, 20.7). Statements only; proofs/Statements.antt proves each.
use Rattle.std.specs.Prelude.{◌≡◌, ◌↔◌, Bool, true, List, ◌++◌, ℕ, ◌+◌, ◌-◌, ◌*◌, ◌≤◌, min, leb, length, take, drop}
use Rattle.std.specs.Int.Count.{ones}
use Rattle.lists.specs.Lists.{◌among◌, keep, Ascends}
use Rattle.evidence.specs.Evidence.{days, Gives}
use Rattle.refusals.specs.Refusals.{first_refusal}
use Rattle.layouts.specs.Layouts.{lg, Name, tree, last_days, covered_days, names_through, chains, layout_tests}
use Rattle.reading.specs.Contract.{table_in, allowed_passed, table_tests, read_refusal, readout}
use Rattle.searching.specs.declared.Progress.{Progress}
use Rattle.std.specs.Prelude.{Ok}
use Rattle.searching.specs.Searching.{maximal, passes_in, walk, search_of, found_in, days_under}
use Rattle.searching.specs.Searching.{search_refusal, searched}

-- a chain of the tree, with a value in the book of d days
abbrev pub TreeInBook : ℕ → ℕ → Name → Type 0
TreeInBook n d x = (l : ℕ) × (g : ℕ) × (x ≡ tree l g) × (x among names_through 3 n d)

-- ---- the maximal chains (SPEC 20.2)

-- they are chains of the book, cover each day from 1 to d once, from left to right, and lie in no other chain of the
-- tree; there are as many as d has bits that are 1
pub record MaximalOf (n d : ℕ) : Type 0 where
  pub in_book : (x : Name) → x among maximal d → TreeInBook n d x
  pub days_once : days_under n (maximal d) ≡ days d
  pub in_no_other : (l g m h : ℕ) → tree l g among maximal d → tree m h among names_through 3 n d →
      ((x : ℕ) → x among covered_days n (tree l g) → x among covered_days n (tree m h)) → tree m h ≡ tree l g
  pub counted : length (maximal d) ≡ ones d

abbrev pub MaximalTold : Type 0
MaximalTold = (n d : ℕ) → 1 ≤ d → MaximalOf n d

-- ---- the tests (SPEC 20.1)

-- 20 is said exactly if reading's tests but 19 find no cause and the scheme is not 3 (SPEC 10.20)
abbrev pub SaysNotTree : Type 0
SaysNotTree =
    (scheme n f d : ℕ) (outcomes : List ℕ) (places : ℕ) →
    (search_refusal scheme n f d outcomes places ≡ 20) ↔
    ((first_refusal (layout_tests scheme n f d ++ table_tests scheme n d outcomes places) ≡ 0) × (scheme ≡ 3 → ⊥))

-- under scheme 3 search refuses as read does, with any P that 19 lets pass
abbrev pub RefusesAsReading : Type 0
RefusesAsReading =
    (n f d passed : ℕ) (outcomes : List ℕ) (places : ℕ) → allowed_passed n d passed ≡ true →
    search_refusal 3 n f d outcomes places ≡ read_refusal 3 n f d passed outcomes places

-- ---- a search that is not refused (SPEC 20.6)

-- of a table, with a limit: the list before and after, and the three numbers
pub record StateOf (n d : ℕ) (table : List ℕ) (limit : ℕ) (before after : List ℕ) (p : Progress) : Type 0 where
  -- the chains looked at are the first of the walk, no more and no fewer than limit, or all; none is black
  pub first_of_walk : (search_of n d table limit).looked ≡ take limit (walk (passes_in n d table) d)
  pub in_book : (x : Name) → x among (search_of n d table limit).looked → TreeInBook n d x
  pub looked_counted : p.looked ≡ length (search_of n d table limit).looked
  pub looked_least : p.looked ≡ min limit (length (walk (passes_in n d table) d))
  -- the single days among them that fail stand in the list, ascending; the rest of the list stays
  pub found_counted : length (take p.found after) ≡ p.found
  pub found_days_are : take p.found after ≡ found_in (passes_in n d table) (search_of n d table limit).looked
  pub ascending : Ascends 1 (take p.found after)
  pub rest : drop p.found after ≡ drop p.found before
  -- the days under chains that are due and not looked at are the last ones up to d; none is left exactly if the limit
  -- is enough for the whole walk
  pub undecided_few : p.undecided ≤ d
  pub undecided_last : days_under n (search_of n d table limit).due ≡ last_days p.undecided d
  pub undecided_none : (p.undecided ≡ 0) ↔ (length (walk (passes_in n d table) d) ≤ limit)
  -- of the changed days, those before the undecided ones are found; their number lies between found and found +
  -- undecided
  pub changed_found : (S : List ℕ) → Ascends 1 S → Gives (chains 3 n d) d S table →
      take p.found after ≡ keep (λ g. leb g (d - p.undecided)) S
  pub between : (S : List ℕ) → Ascends 1 S → Gives (chains 3 n d) d S table →
      (p.found ≤ length S) × (length S ≤ p.found + p.undecided)

-- with none undecided: exactly the walk was looked at, the list is the one that read leaves, and 02's bound (SPEC 20.7)
pub record FinishedOf (n f d : ℕ) (outcomes list after : List ℕ) (limit looked : ℕ) : Type 0 where
  pub walked : (search_of n d (table_in 3 n d outcomes) limit).looked ≡ walk (passes_in n d (table_in 3 n d outcomes)) d
  pub as_reading : (passed : ℕ) → allowed_passed n d passed ≡ true →
      after ≡ (readout 3 n f d passed outcomes list).list
  pub bound : (S : List ℕ) → Ascends 1 S → Gives (chains 3 n d) d S (table_in 3 n d outcomes) →
      looked ≤ ones d + 2 * length S * lg d

pub record SearchOf (scheme n f d : ℕ) (outcomes : List ℕ) (limit : ℕ) (list : List ℕ) : Type 0 where
  pub progress : Progress
  pub answer : (searched scheme n f d outcomes limit list).answer ≡ Ok progress
  pub state : StateOf n d (table_in scheme n d outcomes) limit list (searched scheme n f d outcomes limit list).list
      progress
  pub finished : progress.undecided ≡ 0 →
      FinishedOf n f d outcomes list (searched scheme n f d outcomes limit list).list limit progress.looked

abbrev pub SearchTold : Type 0
SearchTold =
    (scheme n f d : ℕ) (outcomes : List ℕ) (limit : ℕ) (list : List ℕ) →
    search_refusal scheme n f d outcomes (length list) ≡ 0 → SearchOf scheme n f d outcomes limit list

-- limit 0: all d days are undecided, and nothing is found or written
abbrev pub NothingLooked : Type 0
NothingLooked =
    (scheme n f d : ℕ) (outcomes list : List ℕ) → search_refusal scheme n f d outcomes (length list) ≡ 0 →
    searched scheme n f d outcomes 0 list ≡
    record { answer = Ok (record { looked = 0; found = 0; undecided = d }); list = list }

-- the tree over d days has 2 · d − ones d chains, and no walk has more: a limit of 2 · d is never reached
abbrev pub WalkShort : Type 0
WalkShort = (passes : ℕ → ℕ → Bool) (d : ℕ) → 1 ≤ d → length (walk passes d) + ones d ≤ 2 * d
