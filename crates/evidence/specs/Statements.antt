-- What is proved of tables and listings, over any chains (proofs/TableLaws).
use Rattle.std.specs.Prelude.{◌≡◌, ◌↔◌, true, List, ℕ}
use Rattle.lists.specs.Lists.{◌among◌, Ascends}
use Rattle.evidence.specs.Evidence.{Gives, listing, accepted}

-- demand 2 (SPEC 9.2): a table is accepted exactly if some set of days gives it
abbrev pub AcceptedIfGiven : Type 0
AcceptedIfGiven =
    (chains : List (List ℕ)) (d : ℕ) (table : List ℕ) →
    ((S : List ℕ) × Gives chains d S table) ↔ (accepted chains d table ≡ true)

-- 01's "days belonging to at least one set that gives the table" (SPEC 8.5): the listing of an accepted table,
-- ascending and once each
pub record ListedIfGiven (chains : List (List ℕ)) (d : ℕ) (table : List ℕ) : Type 0 where
  pub ascending : Ascends 1 (listing chains d table)
  pub listed : (g : ℕ) → (g among listing chains d table) ↔ ((S : List ℕ) × Gives chains d S table × (g among S))

abbrev pub AcceptedLists : Type 0
AcceptedLists =
    (chains : List (List ℕ)) (d : ℕ) (table : List ℕ) → accepted chains d table ≡ true → ListedIfGiven chains d table
