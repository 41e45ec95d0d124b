-- The search looks at the chains of the walk, in the walk's order; one look more; no look where none is due.
use mathlib.Core.Path.{◌≡◌, refl, sym, ap, ◌∙◌}
use mathlib.Core.Bool.{Bool}
use mathlib.Core.Logic.{inl, inr}
use mathlib.Core.List.{List, [], ◌∷◌, ◌++◌, flat_map, append-nil}
use Prim.Native.Nat.{ℕ, zero, suc, ◌-◌, ◌^◌, ◌≤◌}
use native.Mathlib.Omega.{arith}
use lib.ListN.{length, take}
use Rattle.lists.proofs.Laws.{split, flat_map_append}
use Rattle.layouts.specs.Layouts.{Name, black, tile, tree}
use Rattle.searching.specs.Searching.{halves, fully, dealt_with, looks}

module _ (p : ℕ → ℕ → Bool) where
  -- a chain dealt with fully: the chain, then its halves
  fully_is : (x : Name) → fully p x ≡ x ∷ flat_map (fully p) (halves p x)
  unfolding flat_map
  fully_is (black g) = refl
  fully_is (tile i g) = refl
  fully_is (tree zero g) = refl
  fully_is (tree (suc l) g) = elim (split (p (suc l) g)) [
    | inl e ↦ rw e
    | inr e ↦ rw e (ap (λ r. tree (suc l) g ∷ (dealt_with p l (g - 2 ^ l) ++ r)) (sym (append-nil (dealt_with p l g))))
  ]

  due_is : (x : Name) (due : List Name) → flat_map (fully p) (x ∷ due) ≡ x ∷ flat_map (fully p) (halves p x ++ due)
  unfolding flat_map
  due_is x due = ap (λ r. r ++ flat_map (fully p) due) (fully_is x) ∙ ap (λ r. x ∷ r) (sym (flat_map_append (fully p) (halves p x) due))

  pub looks_first : (k : ℕ) (due : List Name) → (looks p k due).looked ≡ take k (flat_map (fully p) due)
  unfolding looks flat_map
  looks_first zero due = refl
  looks_first (suc k) [] = refl
  looks_first (suc k) (x ∷ due) = ap (λ r. x ∷ r) (looks_first k (halves p x ++ due)) ∙ ap (take (suc k)) (sym (due_is x due))

  -- one look more
  pub looks_more : (k : ℕ) (due : List Name) (x : Name) (rest : List Name) → (looks p k due).due ≡ x ∷ rest →
      looks p (suc k) due ≡ record { looked = (looks p k due).looked ++ (x ∷ []); due = halves p x ++ rest }
  unfolding looks
  looks_more zero due x rest e = rw e
  looks_more (suc k) [] x rest e = let z : length {A = Name} [] ≡ length (x ∷ rest) = ap length e in absurd (omega arith)
  looks_more (suc k) (y ∷ due) x rest e = rw (looks_more k (halves p y ++ due) x rest e)

  -- none where none is due
  pub looks_stop : (k m : ℕ) (due : List Name) → k ≤ m → (looks p k due).due ≡ [] → looks p m due ≡ looks p k due
  unfolding looks
  looks_stop zero zero due h e = refl
  looks_stop zero (suc m) due h e = rw e
  looks_stop (suc k) zero due h e = absurd (omega arith)
  looks_stop (suc k) (suc m) [] h e = refl
  looks_stop (suc k) (suc m) (y ∷ due) h e = rw (looks_stop k m (halves p y ++ due) (omega arith) e)

  -- none is due once there were looks for the whole walk
  pub looks_enough : (k : ℕ) (due : List Name) → length (flat_map (fully p) due) ≤ k → (looks p k due).due ≡ []
  unfolding looks
  looks_enough zero [] h = refl
  looks_enough zero (x ∷ due) h = let e = ap length (due_is x due) in absurd (omega arith)
  looks_enough (suc k) [] h = refl
  looks_enough (suc k) (x ∷ due) h = looks_enough k (halves p x ++ due) (let e = ap length (due_is x due) in omega arith)

  -- where none is due any more, the whole walk was looked at
  pub looks_all : (k : ℕ) (due : List Name) → (looks p k due).due ≡ [] → (looks p k due).looked ≡ flat_map (fully p) due
  unfolding looks flat_map
  looks_all zero due e = rw e
  looks_all (suc k) [] e = refl
  looks_all (suc k) (x ∷ due) e = ap (λ r. x ∷ r) (looks_all k (halves p x ++ due) e) ∙ sym (due_is x due)
