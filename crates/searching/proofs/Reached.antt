-- The walk of a table that is given, look by look: which days are decided, and the changed ones among them.
use mathlib.Core.Path.{◌≡◌, refl, ap, ◌∙◌}
use mathlib.Core.Bool.{false}
use mathlib.Core.Logic.{inl, inr}
use mathlib.Core.List.{List, [], ◌∷◌, ◌++◌, flat_map}
use Prim.Native.Nat.{ℕ, zero, suc, ◌+◌, ◌^◌, ◌≤◌, ◌<◌}
use native.Mathlib.{Decide.dec_lt, Omega.arith}
use lib.ListN.{length, length-append}
use Rattle.lists.proofs.Laws.{split, flat_map_append, flat_map_one}
use Rattle.layouts.specs.Layouts.{tree}
use Rattle.reading.specs.Private.{Given}
use Rattle.searching.specs.Searching.{passes_in, halves, found_at, maximal, Looks, looks, search_of, found_in, found_days}
use Rattle.searching.specs.Private.{Fits, Largest, Due, changed_to, Stepped}
use Rattle.searching.proofs.WalkLaws.{looks_more, looks_stop}
use Rattle.searching.proofs.Frontier.{level_there, laid_due, maximal_laid}
use Rattle.searching.proofs.Tables.{step_passed, step_found, step_halves}

-- after k looks the days up to g are decided, and the chain due first has level l
pub record Reached (n d : ℕ) (t : List ℕ) (k g l : ℕ) : Type 0 where
  pub due : Due d g l (search_of n d t k).due
  pub found : found_days n d t k ≡ changed_to n d t g

pub reached_none : (n d : ℕ) (t : List ℕ) (l : ℕ) → 1 ≤ d → (0 < d → Largest d 0 l) → Reached n d t 0 0 l
unfolding looks found_days found_in flat_map
reached_none n d t l s h = record { due = laid_due d 0 l (maximal d) (omega arith) h (maximal_laid d s); found = refl }

module _ (n d : ℕ) (t : List ℕ) (k g l : ℕ) (R : Reached n d t k g l) where
  pub reached_fits : g < d → Fits d g l
  reached_fits h = (R.due.first h).2

  -- one look more
  module _ (below : g < d) where
    more : search_of n d t (suc k) ≡ record {
      looked = (search_of n d t k).looked ++ (tree l (g + 2 ^ l) ∷ []);
      due = halves (passes_in n d t) (tree l (g + 2 ^ l)) ++ (R.due.first below).0;
    }
    more = looks_more (passes_in n d t) k (maximal d) (tree l (g + 2 ^ l)) (R.due.first below).0 (R.due.first below).1

    pub found_more : found_days n d t (suc k) ≡ found_days n d t k ++ found_at (passes_in n d t) (tree l (g + 2 ^ l))
    unfolding found_days found_in
    found_more =
        ap (λ (r : Looks). flat_map (found_at (passes_in n d t)) r.looked) more ∙
        flat_map_append (found_at (passes_in n d t)) (search_of n d t k).looked (tree l (g + 2 ^ l) ∷ []) ∙
        ap (λ r. found_days n d t k ++ r) (flat_map_one (found_at (passes_in n d t)) (tree l (g + 2 ^ l)))

    pub reached_more : (h m : ℕ) → Stepped n d t g l h m → Reached n d t (suc k) h m
    reached_more h m s =
        record {
          due = rw more (s.due (R.due.first below).0 (R.due.first below).3);
          found = found_more ∙ ap (λ r. r ++ found_at (passes_in n d t) (tree l (g + 2 ^ l))) R.found ∙ s.changed;
        }

    pub count_more : length (search_of n d t k).looked ≡ k → length (search_of n d t (suc k)).looked ≡ suc k
    count_more e = ap (λ (r : Looks). length r.looked) more ∙ length-append (search_of n d t k).looked (tree l (g + 2 ^ l) ∷ []) ∙ omega arith

  -- none more where no day is left
  pub reached_all : (m : ℕ) → k ≤ m → d ≤ g → search_of n d t m ≡ search_of n d t k
  reached_all m h e = looks_stop (passes_in n d t) k m (maximal d) h (R.due.none (omega (arith, R.due.most)))

-- ---- some days are decided after any number of looks

module _ (n d places : ℕ) (t : List ℕ) (G : Given 3 n d t places) where
  level : (g : ℕ) → (l : ℕ) × (g < d → Largest d g l)
  level g = elim (dec_lt g d) [ yes h ↦ let r = level_there d g h G.table.most in (r.0, λ k. r.1) | no h ↦ (0, λ k. absurd (h k)) ]

  step : (g l : ℕ) → Fits d g l → (h : ℕ) × (m : ℕ) × Stepped n d t g l h m
  step g l f = elim (split (passes_in n d t l (g + 2 ^ l))) [
    | inl e ↦ let r = level (g + 2 ^ l) in (g + 2 ^ l, r.0, step_passed n d places t G g l f r.0 e r.1)
    | inr e ↦ fails l f e
  ]
    where
      fails : (l : ℕ) → Fits d g l → passes_in n d t l (g + 2 ^ l) ≡ false → (h : ℕ) × (m : ℕ) × Stepped n d t g l h m
      fails zero f e = let r = level (g + 1) in (g + 1, r.0, step_found n d places t G g r.0 f e r.1)
      fails (suc l) f e = (g, l, step_halves n d places t G g l f e)

  pub reached : (k : ℕ) → (g : ℕ) × (l : ℕ) × Reached n d t k g l
  unfolding found_days
  reached zero = let r = level 0 in (0, r.0, reached_none n d t r.0 G.table.some r.1)
  reached (suc k) = let r = reached k in
      let R = r.2 in
      elim (dec_lt r.0 d) [
        | yes h ↦ let s = step r.0 r.1 (reached_fits n d t k r.0 r.1 R h) in
            (s.0, s.1, reached_more n d t k r.0 r.1 R h s.0 s.1 s.2)
        | no h ↦ let e = reached_all n d t k r.0 r.1 R (suc k) (omega arith) (omega arith) in (r.0, r.1, same e R)
      ]
    where
      same : {g l : ℕ} → search_of n d t (suc k) ≡ search_of n d t k → Reached n d t k g l → Reached n d t (suc k) g l
      same e R = record { due = rw e R.due; found = ap (λ (r : Looks). found_in (passes_in n d t) r.looked) e ∙ R.found }
