-- 02's search after checking (C-15, SPEC 20.9): under demand 3's premises the days that it finds are changed days, and
-- it bounds their true number.
use Rattle.std.specs.Prelude.{◌≡◌, List, ℕ, ◌+◌, ◌-◌, ◌*◌, ◌≤◌, leb, length, take, drop, Ok}
use Rattle.std.specs.Int.Count.{ones}
use Rattle.lists.specs.Lists.{keep}
use Rattle.refusals.specs.Refusals.{number_of}
use Rattle.layouts.specs.Layouts.{lg}
use Rattle.service.specs.Contract.{opened}
use Rattle.journal.specs.Run.{Call}
use Rattle.searching.specs.declared.Progress.{Progress}
use Rattle.searching.specs.Searching.{Searchout, searched}
use Rattle.daybook.specs.Detection.{Handed, changed_days, checking, Premises, SealedApart}
use Rattle.daybook.specs.Claim.{sealed, wrote}

-- search, on the outcome buffer as check left it, and all that it leaves
abbrev pub searching : ℕ → ℕ → ℕ → Handed → ℕ → Searchout
searching n f d x limit = searched 3 n f d (checking 3 n f d x).outcomes limit x.list

-- the days at the front of its list, as many as it found
abbrev pub days_found : ℕ → ℕ → ℕ → Handed → ℕ → Progress → List ℕ
days_found n f d x limit p = take p.found (searching n f d x limit).list

pub record Sought (n f : ℕ) (sealedDays : List (List ℕ)) (d : ℕ) (x : Handed) (limit : ℕ) : Type 0 where
  -- search is not refused
  pub progress : Progress
  pub answer : (searching n f d x limit).answer ≡ Ok progress
  pub few : progress.undecided ≤ d
  -- it finds the changed days before the undecided ones, and no other; the rest of the list stays
  pub counted : length (days_found n f d x limit progress) ≡ progress.found
  pub found : days_found n f d x limit progress ≡
      keep (λ g. leb g (d - progress.undecided)) (changed_days sealedDays d x)
  pub rest_left : drop progress.found (searching n f d x limit).list ≡ drop progress.found x.list
  -- the true number of changed days lies between found and found + undecided
  pub least : progress.found ≤ length (changed_days sealedDays d x)
  pub most : length (changed_days sealedDays d x) ≤ progress.found + progress.undecided
  -- with none undecided: exactly the changed days, and 02's bound on the chains looked at
  pub all_found : progress.undecided ≡ 0 → days_found n f d x limit progress ≡ changed_days sealedDays d x
  pub bound : progress.undecided ≡ 0 → progress.looked ≤ ones d + 2 * length (changed_days sealedDays d x) * lg d

-- from an accepted open of the tree, for every list of calls, every season and every limit; search takes no P, and the
-- premises' P may be any that 19 lets pass
abbrev pub SearchClaim : Type 0
SearchClaim =
    (n f : ℕ) → number_of (opened 3 n f).answer ≡ 0 → (cs : List Call) (t d : ℕ) (x : Handed) →
    Premises 3 n f (sealed 3 n cs t) (wrote 3 n f cs t) d x → SealedApart 3 n (sealed 3 n cs t) d x →
    (limit : ℕ) → Sought n f (sealed 3 n cs t) d x limit
