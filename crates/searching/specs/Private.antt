-- What private contracts cite: where the walk is, by a day and a level. Definitions only; the laws of proofs/Frontier
-- lead them back to the walk.
use Rattle.std.specs.Prelude.{◌≡◌, Bool, true, List, [], ◌∷◌, ◌++◌, ℕ, suc, ◌+◌, ◌^◌, ◌≤◌, ◌<◌}
use Rattle.lists.specs.Lists.{has, keep}
use Rattle.evidence.specs.Evidence.{days, listing}
use Rattle.buffers.specs.Private.{Wrote}
use Rattle.layouts.specs.Layouts.{divides, Name, tree, chains}
use Rattle.searching.specs.declared.Cursor.{Cursor}
use Rattle.searching.specs.Searching.{passes_in, halves, found_at}

-- a chain of the tree of level l starts behind day g and ends by day d
pub record Fits (d g l : ℕ) : Type 0 where
  pub whole : divides (2 ^ l) g ≡ true
  pub room : g + 2 ^ l ≤ d

-- and none of a higher level does
pub record Largest (d g l : ℕ) : Type 0 where
  pub fits : Fits d g l
  pub largest : Fits d g (suc l) → ⊥

-- chains that cover the days behind g up to d, in their order, each the largest
abbrev pub Laid : ℕ → ℕ → List Name → Type 0
Laid d g [] = g ≡ d
Laid d g (x ∷ due) = (l : ℕ) × (x ≡ tree l (g + 2 ^ l)) × Largest d g l × Laid d (g + 2 ^ l) due

-- the days up to g are decided; the chain due first has level l
pub record Due (d g l : ℕ) (due : List Name) : Type 0 where
  pub most : g ≤ d
  pub none : g ≡ d → due ≡ []
  pub first : g < d → (rest : List Name) × (due ≡ tree l (g + 2 ^ l) ∷ rest) × Fits d g l × Laid d (g + 2 ^ l) rest

-- the changed days, which are those listed; those of 1 to g
abbrev pub is_changed : ℕ → ℕ → List ℕ → ℕ → Bool
is_changed n d t x = has x (listing (chains 3 n d) d t)

abbrev pub changed_to : ℕ → ℕ → List ℕ → ℕ → List ℕ
changed_to n d t g = keep (is_changed n d t) (days g)

-- a look at the chain due first, behind day g, of level l: what it finds, and what is due then, behind day h
pub record Stepped (n d : ℕ) (t : List ℕ) (g l h m : ℕ) : Type 0 where
  pub changed : changed_to n d t g ++ found_at (passes_in n d t) (tree l (g + 2 ^ l)) ≡ changed_to n d t h
  pub due : (rest : List Name) → Laid d (g + 2 ^ l) rest →
      Due d h m (halves (passes_in n d t) (tree l (g + 2 ^ l)) ++ rest)

-- and what it writes
pub record Looked (n d : ℕ) (t : List ℕ) (c : Cursor) (before : List ℕ) (r : Cursor) (after : List ℕ) : Type 0 where
  pub stepped : Stepped n d t c.day c.level r.day r.level
  pub wrote : Wrote c.found (found_at (passes_in n d t) (tree c.level (c.day + 2 ^ c.level)))
      before r.found after
