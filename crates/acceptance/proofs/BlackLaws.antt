-- Black values: the last value of a day that n divides is over the days 1 to it, and the position of black indexes it.
use mathlib.Core.{Path.◌≡◌, Path.refl, Path.ap, Path.◌∙◌, Logic.inl, Logic.inr, Bool.true}
use mathlib.Core.List.{List, [], ◌∷◌, ◌++◌, map, map-append, append-nil}
use Prim.Native.Nat.{ℕ, zero, suc, pred, ◌+◌, ◌-◌, ◌%◌, ◌^◌, ◌≤◌, ◌<◌}
use native.Mathlib.{Nat.mod_self, Nat.zero-add, Omega.arith}
use lib.{Dec.eqb, ListN.length, ListN.get_or, ListN.length-append, ListN.length-map, Pow.pow_mono, Seq.get_or_at}
use borrow.Author.Tests.{eqb-true, eq-eqb}
use Rattle.lists.specs.Lists.{◌among◌, up_from}
use Rattle.lists.proofs.Laws.{split, true_or_false, and_both, up_from_mem, keep_mem, up_from_snoc}
use Rattle.layouts.specs.Layouts.{divides, lg, Name, black, tile, tree, last_days, covered_days, levels, stored_once, names_of_day, names_through, chains, black_at}
use Rattle.layouts.specs.Private.{position}
use Rattle.layouts.proofs.{Coverage.divisor_le, Coverage.names_through_suc, Coverage.names_through_add, Counts.power_of}
use Rattle.layouts.proofs.Positions.{levels_run, level_in, in_day, to_chains}

-- where n divides the day, the last value that closes is over days 1 to g
pub black_last : (s n g : ℕ) → 1 ≤ s → s ≤ 3 → 1 ≤ g → divides n g ≡ true →
    (xs : List Name) × (x : Name) × (names_of_day s n g ≡ xs ++ (x ∷ [])) × (black_at g x ≡ true)
black_last zero n g a b p e = absurd (omega arith)
black_last (suc zero) n g a b p e = ([], black g, rw e, eq-eqb g g refl)
black_last (suc (suc zero)) n g a b p e = (map (λ i. tile i g) (up_from 0 (suc (lg n))), black g, rw e, eq-eqb g g refl)
black_last (suc (suc (suc zero))) n g a b p e = elim (split (stored_once g)) [
  | inl h ↦ let r = top (power_of g h) (length (levels g)) refl in (r.0, r.1, rw (e, h, append-nil) r.2, r.3)
  | inr h ↦ (map (λ j. tree j g) (levels g), black g, rw (e, h), eq-eqb g g refl)
]
  where
    top : (l : ℕ) × (2 ^ l ≡ g) → (k : ℕ) → length (levels g) ≡ k → (xs : List Name) × (x : Name) × (map (λ (j : ℕ). tree j g) (levels g) ≡ xs ++ (x ∷ [])) × (black_at g x ≡ true)
    top r zero q = absurd (omega (arith, level_in r.0 g p (eq-eqb (g % 2 ^ r.0) 0 (rw r.1 (mod_self g)))))
    top r (suc k) q =
        let m : k among levels g = rw (levels_run g, q) (up_from_mem 0 (suc k) k (omega arith) (omega arith)) in
        let c : 2 ^ k ≤ g = divisor_le (2 ^ k) g p (keep_mem (λ l. divides (2 ^ l) g) (up_from 0 g) k m).1 in
        let h = level_in r.0 g p (eq-eqb (g % 2 ^ r.0) 0 (rw r.1 (mod_self g))) in
        let t : 2 ^ r.0 ≤ 2 ^ k = pow_mono (omega arith) in
        let w : 2 ^ k ≡ g = omega (arith, r.1) in (
          map (λ j. tree j g) (up_from 0 k),
          tree k g,
          ap (map (λ (j : ℕ). tree j g)) (levels_run g ∙ ap (up_from 0) q ∙ up_from_snoc 0 k ∙ ap (λ (x : ℕ). up_from 0 k ++ (x ∷ [])) (zero-add k)) ∙
              map-append (λ (j : ℕ). tree j g) (up_from 0 k) (k ∷ []),
          rw (eq-eqb g g refl, eq-eqb (2 ^ k) g w),
        )
black_last (suc (suc (suc (suc s)))) n g a b p e = absurd (omega arith)

-- a black value covers days 1 to its day
pub black_cover : (n g : ℕ) (x : Name) → black_at g x ≡ true → covered_days n x ≡ last_days g g
black_cover n g (black h) e = rw (eqb-true h g e)
black_cover n g (tile i h) e = absurd (true_or_false e refl)
black_cover n g (tree l h) e =
    let b = and_both (eqb h g) (eqb (2 ^ l) g) e in
    rw (eqb-true h g b.0, eqb-true (2 ^ l) g b.1)

pub black_position : (s n g d : ℕ) → 1 ≤ s → s ≤ 3 → 1 ≤ g → g ≤ d → divides n g ≡ true →
    (position s n (black g) < length (chains s n d)) × (get_or (chains s n d) (position s n (black g)) [] ≡ covered_days n (black g))
unfolding chains
black_position s n zero d a b p l e = absurd (omega arith)
black_position s n (suc g) d a b p l e =
    let r = black_last s n (suc g) a b p e in
    let c : length (names_of_day s n (suc g)) ≡ length r.0 + 1 = rw (r.2, length-append) in
    let f : length (names_through s n (suc g)) ≡ length (names_through s n g) + length (names_of_day s n (suc g)) = rw (names_through_suc s n g, length-append) in
    let q : pred (length (names_through s n (suc g))) ≡ length (names_through s n g) + length r.0 = omega arith in
    let m = names_through_add s n (suc g) (d - suc g) in
    let w : d ≡ suc g + (d - suc g) = omega arith in
    let v : length (names_through s n d) ≡ length (names_through s n (suc g)) + length m.0 = ap (λ (x : ℕ). length (names_through s n x)) w ∙ rw (m.1, length-append) in
    let at : get_or (names_through s n d) (length (names_through s n g) + length r.0) (black 0) ≡ r.1 =
    in_day s n g d (length r.0) (black 0) (omega arith) (omega arith) ∙ rw r.2 (get_or_at r.0 r.1 [] (black 0) (length r.0) refl) in (
      rw length-map (omega arith),
      ap (λ (x : ℕ). get_or (chains s n d) x []) q ∙ to_chains s n d (length (names_through s n g) + length r.0) (black 0) r.1 refl at ∙
          black_cover n (suc g) r.1 r.3,
    )
