-- The chains of a book by place: from a place to its day; the first place of four numbers.
use mathlib.Core.Path.{◌≡◌, refl, sym, ap, ◌∙◌}
use mathlib.Core.Bool.{Bool, true, false, cond}
use mathlib.Core.Logic.{inl, inr}
use mathlib.Core.List.Memᴰ
use mathlib.Core.List.{List, [], ◌∷◌, flat_map}
use Prim.Native.Nat.{ℕ, zero, suc, pred, ◌+◌, ◌-◌, ◌≤◌, ◌<◌}
use native.Mathlib.{Decide.dec_le, Omega.arith}
use lib.ListN.{length, get_or, length-append, length-map, get_or-map}
use lib.Dec.{leb}
use borrow.Author.Tests.{le-leb, leb-true}
use Rattle.lists.specs.Lists.{◌among◌, same}
use Rattle.lists.proofs.Laws.{split, and_both, and_of, same_eq, eq_same}
use Rattle.layouts.specs.Layouts.{allowed_scheme, allowed_n, black, names_of_day, names_through, chains}
use Rattle.layouts.proofs.AllowedLaws.{names_through-length}
use Rattle.layouts.proofs.Coverage.{names_through_suc, chains_front}
use Rattle.layouts.proofs.Positions.{in_day}
use Rattle.positions.specs.Positions.{chain_of, book_chains, numbers_of, book_numbers, first_place}
use Rattle.positions.specs.Private.{closing_day, place_in_day, is_named}
use Rattle.positions.proofs.DayLaws.{leads}

-- ---- lengths

pub book_length : (s n d : ℕ) → length (book_chains s n d) ≡ length (chains s n d)
unfolding book_chains
book_length s n d = length-map (names_through s n d) (chain_of n) ∙ sym (names_through-length s n d)

pub numbers_length : (s n d : ℕ) → length (book_numbers s n d) ≡ length (chains s n d)
unfolding book_numbers
numbers_length s n d = length-map (book_chains s n d) numbers_of ∙ book_length s n d

-- ---- a place and its day

-- place p of the book is value i of day g
pub record Closes (s n d p g i : ℕ) : Type 0 where
  pub some : 1 ≤ g
  pub most : g ≤ d
  pub inside : i < length (names_of_day s n g)
  pub place_is : length (chains s n (pred g)) + i ≡ p

day_length : (s n g : ℕ) → length (chains s n (suc g)) ≡ length (chains s n g) + length (names_of_day s n (suc g))
day_length s n g = rw (names_through-length s n (suc g), names_through-length s n g, names_through_suc s n g, length-append)

pub closes : (s n d p g : ℕ) → 1 ≤ g → g ≤ d → length (chains s n (pred g)) ≤ p → p < length (chains s n g) → Closes s n d p g (p - length (chains s n (pred g)))
closes s n d p zero o m a b = absurd (omega arith)
closes s n d p (suc g) o m a b = record { some = o; most = m; inside = omega (arith, day_length s n g); place_is = omega arith }

-- so too with the number of values before day g
pub closes_by : (s n d p g v : ℕ) → (1 ≤ g) × (g ≤ d) × (length (chains s n (pred g)) ≤ p) × (p < length (chains s n g)) → v ≡ length (chains s n (g - 1)) →
    (v ≤ p) × Closes s n d p g (p - v)
closes_by s n d p g v l e =
    let q : g - 1 ≡ pred g = omega arith in
    let w : v ≡ length (chains s n (pred g)) = rw q at e in
    (omega (arith, l.2), rw w (closes s n d p g l.0 l.1 l.2 l.3))

day_at_lem : (s n d p : ℕ) → p < length (chains s n d) → (g : ℕ) × (1 ≤ g) × (g ≤ d) × (length (chains s n (pred g)) ≤ p) × (p < length (chains s n g))
unfolding chains names_through flat_map
day_at_lem s n zero p l = absurd (omega arith)
day_at_lem s n (suc d) p l = elim (dec_le (length (chains s n d)) p) [
  | yes h ↦ (suc d, omega arith, omega arith, h, l)
  | no h ↦ let r = day_at_lem s n d p (omega arith) in (r.0, r.1, omega (arith, r.2), r.3, r.4)
]

-- what stands there
module _ (s n d p g i : ℕ) (c : Closes s n d p g i) where
  pub name_there : get_or (names_through s n d) p (black 0) ≡ get_or (names_of_day s n g) i (black 0)
  name_there = go g c
    where
      go : (h : ℕ) → Closes s n d p h i → get_or (names_through s n d) p (black 0) ≡ get_or (names_of_day s n h) i (black 0)
      go zero k = absurd (omega (arith, k.some))
      go (suc h) k =
          let e : length (names_through s n h) + i ≡ p = omega (arith, k.place_is, names_through-length s n h) in
          ap (λ (x : ℕ). get_or (names_through s n d) x (black 0)) (sym e) ∙ in_day s n h d i (black 0) (omega (arith, k.most)) k.inside

  pub chain_there : get_or (book_chains s n d) p (chain_of n (black 0)) ≡ chain_of n (get_or (names_of_day s n g) i (black 0))
  unfolding book_chains
  chain_there = get_or-map (chain_of n) (names_through s n d) p (black 0) ∙ ap (chain_of n) name_there

  pub numbers_there : get_or (book_numbers s n d) p (numbers_of (chain_of n (black 0))) ≡ numbers_of (chain_of n (get_or (names_of_day s n g) i (black 0)))
  unfolding book_numbers
  numbers_there = get_or-map numbers_of (book_chains s n d) p (chain_of n (black 0)) ∙ ap numbers_of chain_there

  pub below : p < length (book_numbers s n d)
  below =
      let r = chains_front s n g d c.most in
      let e : length (chains s n d) ≡ length (chains s n g) + length r.0 = ap length r.1 ∙ length-append (chains s n g) r.0 in
      go g (length r.0) c.some c.inside c.place_is e
    where
      go : (h k : ℕ) → 1 ≤ h → i < length (names_of_day s n h) → length (chains s n (pred h)) + i ≡ p → length (chains s n d) ≡ length (chains s n h) + k →
          p < length (book_numbers s n d)
      go zero k o l q e = absurd (omega arith)
      go (suc h) k o l q e = omega (arith, numbers_length s n d, day_length s n h)

-- ---- the first place

pub first_le : (x : List ℕ) (l : List (List ℕ)) (p : ℕ) (z : List ℕ) → p < length l → get_or l p z ≡ x → first_place x l ≤ p
first_le x [] p z h e = absurd (omega arith)
first_le x (y ∷ l) zero z h e = rw (eq_same y x e) (omega arith)
first_le x (y ∷ l) (suc p) z h e = elim (split (same y x)) [
  | inl t ↦ rw t (omega arith)
  | inr t ↦ rw t (omega (arith, first_le x l p z (omega arith) e))
]

pub first_at : (x : List ℕ) (l : List (List ℕ)) (z : List ℕ) → first_place x l < length l → get_or l (first_place x l) z ≡ x
first_at x [] z h = absurd (omega arith)
first_at x (y ∷ l) z h = elim (split (same y x)) [
  | inl t ↦ rw t (same_eq y x t)
  | inr t ↦ rw t (first_at x l z (let q = rw t at h in omega arith))
]

pub first_in : (x : List ℕ) (l : List (List ℕ)) → first_place x l < length l → x among l
first_in x [] h = absurd (omega arith)
first_in x (y ∷ l) h = elim (split (same y x)) [
  | inl t ↦ Memᴰ.head (sym (same_eq y x t))
  | inr t ↦ Memᴰ.tail (first_in x l (let q = rw t at h in omega arith))
]

pub in_first : {x : List ℕ} {l : List (List ℕ)} → x among l → first_place x l < length l
in_first (Memᴰ.head {x = y} {xs = l} e) = rw (eq_same y _ (sym e)) (omega arith)
in_first (Memᴰ.tail {x = y} {xs = l} m) = let r = in_first m in later (same y _) r
  where
    later : {k : ℕ} (b : Bool) → k < length l → cond b 0 (suc k) < suc (length l)
    later true h = omega arith
    later false h = omega arith

-- ---- four numbers of the book lead to their place

module _ (s n d kind index first last : ℕ) (a : allowed_scheme s ≡ true) (e : allowed_n n ≡ true) where
  abbrev numbers : List ℕ
  numbers = kind ∷ index ∷ first ∷ last ∷ []

  abbrev day : ℕ
  day = closing_day n d kind first last

  -- those of value i of day g lead there
  lead_there : (p g i : ℕ) → Closes s n d p g i → numbers_of (chain_of n (get_or (names_of_day s n g) i (black 0))) ≡ numbers →
      (day ≡ g) × (place_in_day s n g kind index ≡ i)
  lead_there p g i c q = let l = leads s n d g i a e c.some c.most c.inside in (
    sym (ap (λ (x : List ℕ). closing_day n d (get_or x 0 0) (get_or x 2 0) (get_or x 3 0)) q) ∙ l.day,
    sym (ap (λ (x : List ℕ). place_in_day s n g (get_or x 0 0) (get_or x 1 0)) q) ∙ l.place,
  )

  -- value i of day g has these numbers, and stands at p
  pub record Found (p g i : ℕ) : Type 0 where
    pub some : 1 ≤ g
    pub most : g ≤ d
    pub named : is_named s n g i numbers ≡ true
    pub place_is : length (chains s n (pred g)) + i ≡ p

  -- a chain of the book that has them
  pub leads_to : (p : ℕ) → p < length (book_numbers s n d) → get_or (book_numbers s n d) p (numbers_of (chain_of n (black 0))) ≡ numbers → Found p day (place_in_day s n day kind index)
  leads_to p h at =
      let r = day_at_lem s n d p (omega (arith, numbers_length s n d)) in
      let c = closes s n d p r.0 r.1 r.2 r.3 r.4 in
      let q = sym (numbers_there s n d p r.0 _ c) ∙ at in
      let l = lead_there p r.0 _ c q in
      rw (l.0, l.1) (record {
        some = c.some;
        most = c.most;
        named = and_of _ _ (le-leb _ _ c.inside) (eq_same _ numbers q);
        place_is = c.place_is;
      })

  pub found : first_place numbers (book_numbers s n d) < length (book_numbers s n d) → Found (first_place numbers (book_numbers s n d)) day (place_in_day s n day kind index)
  found h = leads_to (first_place numbers (book_numbers s n d)) h (first_at numbers (book_numbers s n d) (numbers_of (chain_of n (black 0))) h)

  -- it is the only one
  pub only_place : (p : ℕ) → p < length (book_numbers s n d) → get_or (book_numbers s n d) p (numbers_of (chain_of n (black 0))) ≡ numbers → first_place numbers (book_numbers s n d) ≡ p
  only_place p h at =
      let l = first_le numbers (book_numbers s n d) p (numbers_of (chain_of n (black 0))) h at in
      omega (arith, (found (omega arith)).place_is, (leads_to p h at).place_is)

  -- where a value has them, a chain of the book does
  pub is_found : (g i : ℕ) → 1 ≤ g → g ≤ d → is_named s n g i numbers ≡ true → first_place numbers (book_numbers s n d) < length (book_numbers s n d)
  is_found g i o m t =
      let b = and_both (leb (suc i) (length (names_of_day s n g))) _ t in
      let p = length (chains s n (pred g)) + i in
      let c : Closes s n d p g i = record { some = o; most = m; inside = leb-true _ _ b.0; place_is = refl } in
      let w = below s n d p g i c in
      let q = first_le numbers (book_numbers s n d) p (numbers_of (chain_of n (black 0))) w (numbers_there s n d p g i c ∙ same_eq _ numbers b.1) in
      omega arith
