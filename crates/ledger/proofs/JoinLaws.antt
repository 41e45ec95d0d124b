-- Days end to end, with their running totals as ends, are the days of a ledger that passes tests 9 and 10.
use mathlib.Core.Path.{◌≡◌, refl, ap, ap₂, ◌∙◌}
use mathlib.Core.List.{List, [], ◌∷◌, ◌++◌}
use Prim.Native.Nat.{ℕ, zero, suc, ◌+◌, ◌-◌, ◌≤◌, ◌<◌}
use native.Mathlib.Omega.{arith}
use lib.ListN.{length, get_or, take, drop, length-append}
use lib.Seq.{take_at, drop_at, take-suc, split_at, ext_get_or}
use Rattle.lists.specs.Lists.{◌among◌, joined}
use Rattle.lists.proofs.Laws.{get_d_mem, joined_append, joined_one, joined_single}
use Rattle.refusals.specs.Refusals.{day_limit}
use Rattle.ledger.specs.Ledger.{start_of, end_of, day_at, days_of, ends_from, ends_refusal}
use Rattle.ledger.proofs.{EndLaws.none_refusal, DayLaws.days_length, DayLaws.days_at}

-- the bytes of the first i days
total : List (List ℕ) → ℕ → ℕ
total E i = length (joined (take i E))

ends_length : (a : ℕ) (E : List (List ℕ)) → length (ends_from a E) ≡ length E
ends_length a [] = refl
ends_length a (e ∷ E) = ap suc (ends_length (a + length e) E)

end_total : (a : ℕ) (E : List (List ℕ)) (i : ℕ) → i < length E → get_or (ends_from a E) i 0 ≡ a + total E (suc i)
unfolding total joined
end_total a [] i h = absurd (omega arith)
end_total a (e ∷ E) zero h = omega (arith, length-append e [])
end_total a (e ∷ E) (suc i) h = end_total (a + length e) E i (omega arith) ∙ omega (arith, length-append e (joined (take (suc i) E)))

module _ (E : List (List ℕ)) where
  abbrev ends : List ℕ
  ends = ends_from 0 E

  end_is : (i : ℕ) → i < length E → end_of ends i ≡ total E (suc i)
  end_is i h = end_total 0 E i h ∙ omega arith

  start_is : (i : ℕ) → i ≤ length E → start_of ends i ≡ total E i
  unfolding total joined
  start_is zero h = refl
  start_is (suc i) h = end_is i h

  grows : (i : ℕ) → i < length E → total E (suc i) ≡ total E i + length (get_or E i [])
  unfolding total
  grows i h = rw (take-suc E i [] h, joined_append, joined_single, length-append)

  parts : (i : ℕ) → i < length E → joined E ≡ joined (take i E) ++ (get_or E i [] ++ joined (drop (suc i) E))
  parts i h = ap joined (split_at E i [] h) ∙ rw (joined_append, joined_one)

  day_is : (i : ℕ) → i < length E → day_at (joined E) ends i ≡ get_or E i []
  unfolding total
  day_is i h =
      let g = grows i h in
      let k : end_of ends i - start_of ends i ≡ length (get_or E i []) = omega (arith, end_is i h, start_is i (omega arith)) in
      ap₂ (λ (x : ℕ) (l : List ℕ). take x l) k (ap₂ drop (start_is i (omega arith)) (parts i h) ∙ drop_at (joined (take i E)) (get_or E i [] ++ joined (drop (suc i) E)) (total E i) refl) ∙
      take_at (get_or E i []) (joined (drop (suc i) E)) (length (get_or E i [])) refl

  pub days_joined : days_of (joined E) ends (length E) ≡ E
  days_joined =
      ext_get_or [] (days_of (joined E) ends (length E)) E (days_length (joined E) ends (length E))
      (λ i h. let l : i < length E = rw (days_length (joined E) ends (length E)) at h in days_at (joined E) ends (length E) i l ∙ day_is i l)

  within_all : (i : ℕ) → i < length E → total E (suc i) ≤ length (joined E)
  unfolding total
  within_all i h =
      let g = grows i h in
      omega (arith, ap length (parts i h), length-append (joined (take i E)) (get_or E i [] ++ joined (drop (suc i) E)), length-append (get_or E i []) (joined (drop (suc i) E)))

  pub ends_joined : ((e : List ℕ) → e among E → length e ≤ day_limit) → ends_refusal (length E) ends (length (joined E)) ≡ 0
  ends_joined limit =
      none_refusal (length E) ends (length (joined E)) (record {
        enough = omega (arith, ends_length 0 E);
        ascend = λ i h. omega (arith, end_is i h, start_is i (omega arith), grows i h);
        within = λ i h. omega (arith, end_is i h, within_all i h);
        limited = λ i h. omega (arith, end_is i h, start_is i (omega arith), grows i h, limit (get_or E i []) (get_d_mem E i [] h));
      })
