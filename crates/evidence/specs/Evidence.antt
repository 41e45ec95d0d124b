-- 01's digests, links, values and tables, over any hash H of 32 bytes and any layout. Definitions only. A layout is a
-- list of chains, a chain the ascending list of the days that it covers (SPEC 2.5), a ledger the list of its days'
-- bytes, day 1 first.
use Rattle.std.specs.Prelude.{◌≡◌, Bool, false, not, ◌&&◌, ◌||◌, cond, ℕ, pred, ◌≤◌, eqb, get_or, take, drop}
use mathlib.Core.List.{List, [], ◌∷◌, ◌++◌, map, flat_map}
use Rattle.lists.specs.Lists.{◌among◌, has, same, up_from, keep}

-- ---- hashing and checking

-- 01's days (SPEC 2.2), 1 to d
abbrev pub days : ℕ → List ℕ
days d = up_from 1 d

abbrev pub day_of : List (List ℕ) → ℕ → List ℕ  -- the bytes of day g
day_of ledger g = get_or ledger (pred g) []

module _ (H : List ℕ → List ℕ) where
  -- 01's digest of a day's bytes (SPEC 3.3)
  abbrev pub digest : List ℕ → List ℕ
  digest b = H (0 ∷ b)

  -- 01's link (SPEC 3.5), what is hashed: day g linked to the value v
  abbrev pub link_input : List (List ℕ) → List ℕ → ℕ → List ℕ
  link_input ledger v g = 1 ∷ (v ++ digest (day_of ledger g))

  -- 01's value of a chain (SPEC 3.6), here going on from v: each covered day in turn replaces it by the link's hash
  abbrev pub value : List ℕ → List (List ℕ) → List ℕ → List ℕ
  value v ledger [] = v
  value v ledger (g ∷ c) = value (H (link_input ledger v g)) ledger c

  abbrev pub values : List ℕ → List (List ℕ) → List (List ℕ) → List ℕ  -- the values of chains, end to end (SPEC 2.6)
  values start ledger [] = []
  values start ledger (c ∷ cs) = value start ledger c ++ values start ledger cs

  -- what is hashed for the links of a chain that goes on from v
  abbrev pub link_inputs : List ℕ → List (List ℕ) → List ℕ → List (List ℕ)
  link_inputs v ledger [] = []
  link_inputs v ledger (g ∷ c) = link_input ledger v g ∷ link_inputs (H (link_input ledger v g)) ledger c

  -- 01's inputs hashed (SPEC 3.7) for some chains over the days 1 to d: one a day, one for each link of each chain
  unfoldable pub inputs : List ℕ → List (List ℕ) → ℕ → List (List ℕ) → List (List ℕ)
  inputs start chains d ledger = map (λ g. 0 ∷ day_of ledger g) (days d) ++ flat_map (link_inputs start ledger) chains

  -- 01's premise on collisions (SPEC 9.3 t): no two different inputs, one of xs and one of ys, share a hash value
  abbrev pub NoCollision : List (List ℕ) → List (List ℕ) → Type 0
  NoCollision xs ys = (x y : List ℕ) → x among xs → y among ys → H x ≡ H y → x ≡ y

  -- two different inputs, one of xs and one of ys, that share a hash value
  pub record Collision (xs ys : List (List ℕ)) : Type 0 where
    pub one : List ℕ
    pub other : List ℕ
    pub one_hashed : one among xs
    pub other_hashed : other among ys
    pub different : one ≡ other → ⊥
    pub same_hash : H one ≡ H other

  -- 01's outcomes of a check (SPEC 7.5): 1 for each chain whose value stands in the book at its place, else 0
  abbrev pub check_outcomes : List ℕ → List (List ℕ) → List (List ℕ) → List ℕ → List ℕ
  check_outcomes start ledger [] book = []
  check_outcomes start ledger (c ∷ cs) book =
      cond (same (take 32 book) (value start ledger c)) 1 0 ∷ check_outcomes start ledger cs (drop 32 book)

-- ---- reading

-- 01's changed days (SPEC 8.9): those of 1 to d whose bytes differ
unfoldable pub changed : ℕ → List (List ℕ) → List (List ℕ) → List ℕ
changed d A B = keep (λ g. not (same (day_of A g) (day_of B g))) (days d)

abbrev pub meets : List ℕ → List ℕ → Bool  -- the chain covers a day of S
meets S [] = false
meets S (g ∷ c) = has g S || meets S c

-- 01's outcome (SPEC 2.7): 0 (fail) exactly if the chain covers a day of S, else 1 (pass)
abbrev pub set_outcome : List ℕ → List ℕ → ℕ
set_outcome S c = cond (meets S c) 0 1

-- 01's table (SPEC 8.2), as the set S gives it: an outcome for each value, in book order
unfoldable pub table_of : List (List ℕ) → List ℕ → List ℕ
table_of chains S = map (set_outcome S) chains

abbrev pub Within : ℕ → List ℕ → Type 0  -- each day of S is from 1 to d
Within d S = (g : ℕ) → g among S → (1 ≤ g) × (g ≤ d)

-- 01's "gives" (SPEC 8.3): S lies within 1 to d, and each value is 0 exactly if its chain covers a day of S
pub record Gives (chains : List (List ℕ)) (d : ℕ) (S table : List ℕ) : Type 0 where
  pub within : Within d S
  pub gives : table_of chains S ≡ table

abbrev pub cleared : ℕ → List (List ℕ) → List ℕ → Bool  -- day g is covered by a chain that passes
cleared g [] table = false
cleared g (c ∷ chains) [] = false
cleared g (c ∷ chains) (o ∷ table) = (eqb o 1 && has g c) || cleared g chains table

-- 01's listed days (SPEC 8.5), those not cleared; the law `listed_iff`: those that belong to some set that gives the
-- table, if one does
unfoldable pub listing : List (List ℕ) → ℕ → List ℕ → List ℕ
listing chains d table = keep (λ g. not (cleared g chains table)) (days d)

-- 01's test 14 (SPEC 8.4): those days give the table; the law `given_iff_accepted`: exactly if some set gives it
unfoldable pub accepted : List (List ℕ) → ℕ → List ℕ → Bool
accepted chains d table = same (table_of chains (listing chains d table)) table
