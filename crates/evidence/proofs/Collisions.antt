-- Whether two lists of inputs collide is decided: they are finite.
use mathlib.Core.{Path.◌≡◌, Path.refl, Logic.◌⊎◌, Logic.inl, Logic.inr}
use mathlib.Core.List.Memᴰ
use mathlib.Core.List.{List, [], ◌∷◌}
use Prim.Native.Nat.{ℕ}
use Rattle.lists.specs.Lists.{◌among◌, same}
use Rattle.lists.proofs.Laws.{split, true_or_false, same_eq, eq_same}
use Rattle.evidence.specs.Evidence.{NoCollision, Collision}

-- two lists are equal or not
same_or_not : (x y : List ℕ) → (x ≡ y) ⊎ (x ≡ y → ⊥)
same_or_not x y = elim (split (same x y)) [ inl e ↦ inl (same_eq x y e) | inr e ↦ inr (λ q. true_or_false (eq_same x y q) e) ]

module _ (H : List ℕ → List ℕ) where
  -- no input of ys collides with x
  abbrev Clear : List ℕ → List (List ℕ) → Type 0
  Clear x ys = (y : List ℕ) → y among ys → H x ≡ H y → x ≡ y

  one_pair : (x y : List ℕ) → (H x ≡ H y → x ≡ y) ⊎ ((x ≡ y → ⊥) × (H x ≡ H y))
  one_pair x y = elim (same_or_not x y) [
    | inl e ↦ inl (λ q. e)
    | inr d ↦ elim (same_or_not (H x) (H y)) [ inl h ↦ inr (d, h) | inr h ↦ inl (λ q. absurd (h q)) ]
  ]

  one_input : (xs : List (List ℕ)) (x : List ℕ) → x among xs → (all ys : List (List ℕ)) → ((y : List ℕ) → y among ys → y among all) → Clear x ys ⊎ Collision H xs all
  one_input xs x m all [] f = inl (λ y k h. elim k [ ])
  one_input xs x m all (y ∷ ys) f = elim (one_pair x y) [
    | inl p ↦ elim (one_input xs x m all ys (λ z k. f z (Memᴰ.tail k))) [
      | inl c ↦ inl (λ z k h. elim (Memᴰ.cases_cons k) [ inl e ↦ rw e (p (rw e at h)) | inr k ↦ c z k h ])
      | inr c ↦ inr c
    ]
    | inr d ↦ inr (record { one = x; other = y; one_hashed = m; other_hashed = f y (Memᴰ.head refl); different = d.0; same_hash = d.1 })
  ]

  each_input : (all xs ys : List (List ℕ)) → ((x : List ℕ) → x among xs → x among all) → NoCollision H xs ys ⊎ Collision H all ys
  each_input all [] ys f = inl (λ x y k m h. elim k [ ])
  each_input all (x ∷ xs) ys f = elim (one_input all x (f x (Memᴰ.head refl)) ys ys (λ y k. k)) [
    | inl c ↦ elim (each_input all xs ys (λ z k. f z (Memᴰ.tail k))) [
      | inl r ↦ inl (λ z y k m h. elim (Memᴰ.cases_cons k) [ inl e ↦ rw e (c y m (rw e at h)) | inr k ↦ r z y k m h ])
      | inr r ↦ inr r
    ]
    | inr c ↦ inr c
  ]

  pub collide_or_not : (xs ys : List (List ℕ)) → NoCollision H xs ys ⊎ Collision H xs ys
  collide_or_not xs ys = each_input xs xs ys (λ x k. k)
