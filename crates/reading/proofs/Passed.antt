-- 02's P: when 19 is said, D − F·N is let pass, and nothing but low moves.
use mathlib.Core.{Path.◌≡◌, Path.refl, Path.sym, Path.◌∙◌, Logic.◌⊎◌, Logic.inl, Logic.inr, List.List, List.[], List.◌∷◌, Bool.true, Bool.false, Bool.and-false}
use Prim.Native.Nat.{ℕ, zero, suc, ◌-◌, ◌*◌, ◌/◌, ◌≤◌}
use native.Mathlib.{Nat.mul-sub, Nat.mul_comm, Nat.mul-pos, Decide.ℕ_discrete, Omega.arith}
use lib.{Dec.ltb, ListN.length}
use borrow.Author.Tests.{ltb-false, lt-ltb, le-ltb}
use Rattle.lists.proofs.Laws.{split}
use Rattle.refusals.specs.Refusals.{unless_refused, front_written}
use Rattle.refusals.proofs.TestLaws.{never_said}
use Rattle.layouts.specs.Layouts.{divides, layout_tests, layout_tested, layout_refusal}
use Rattle.layouts.proofs.AllowedLaws.{allowed_n_is, allowed_f_is, allowed_d_is, divides_factor, layout_is}
use Rattle.layouts.proofs.Coverage.{divisor_le}
use Rattle.acceptance.proofs.Runs.{divides_multiple, div_whole}
use Rattle.reading.specs.Contract.{refused_report, table_in, allowed_passed, table_tests, read_tested, read_refusal, listed_in, found, readout}
use Rattle.reading.specs.Numbers.{last_good_day}
use Rattle.reading.specs.Statements.{SaysNotPassed, ValidationAllowed, SameButLow, MovesLowAlone}
use Rattle.reading.proofs.RefusalLaws.{number_early, number_19, number_first, number_late, passed_none}
use Rattle.reading.proofs.Statements.{refusal_said}

-- ---- 19

not_allowed : (n d p : ℕ) → allowed_passed n d p ≡ false → (d ≤ p) ⊎ (divides n p ≡ false)
not_allowed n d p e = elim (split (ltb p d)) [ inl t ↦ inr (rw t at e) | inr t ↦ inl (ltb-false p d t) ]

allowed_not : (n d p : ℕ) → (d ≤ p) ⊎ (divides n p ≡ false) → allowed_passed n d p ≡ false
allowed_not n d p (inl l) = rw (le-ltb p d l)
allowed_not n d p (inr e) = rw e (and-false (ltb p d))

pub says_not_passed : SaysNotPassed
unfolding layout_tested
says_not_passed s n f d p o l = (
  λ e. let q : read_refusal s n f d p o (length l) ≡ 19 = sym (refusal_said s n f d p o l) ∙ e in elim (ℕ_discrete (layout_refusal s n f d) 0) [
    | yes z ↦ elim (split (allowed_passed n d p)) [
      | inl t ↦ absurd (never_said 19 (table_tests s n d o (length l)) refl (λ k. omega arith) (sym (number_late s n f d p o (length l) (passed_none s n f d p z t)) ∙ q))
      | inr t ↦ (z, not_allowed n d p t)
    ]
    | no h ↦
        let k = number_early s n f d p h in
        absurd (never_said 19 (layout_tests s n f d) refl (λ k. omega arith) (sym k ∙ sym (number_first s n f d p o (length l) (λ z. h (sym k ∙ z))) ∙ q))
  ],
  λ h. let k = number_19 s n f d p h.0 (allowed_not n d p h.1) in
      refusal_said s n f d p o l ∙ number_first s n f d p o (length l) (λ z. let q : ◌≡◌ {A = ℕ} 19 0 = sym k ∙ z in omega arith) ∙ k,
)

pub validation_allowed : ValidationAllowed
validation_allowed s n f d e =
    let u = layout_is s n f d e in
    let v = allowed_d_is n f d u.1 in
    let w = allowed_n_is n u.0.n_ok in
    let some = mul-pos (allowed_f_is s f u.0.f_ok).0 w.some in
    let most = divisor_le (f * n) d v.some v.whole in
    let whole : d - f * n ≡ (d / n - f) * n =
    sym (mul_comm (d / n - f) n ∙ mul-sub n (d / n) f ∙ rw (mul_comm n (d / n), mul_comm n f, div_whole n d (divides_factor n f d w.some v.whole))) in
    rw (lt-ltb (d - f * n) d (omega arith), whole) (divides_multiple (d / n - f) n w.some)

-- ---- two that are let pass

alike : (s n f d p q : ℕ) (o : List ℕ) (places : ℕ) → allowed_passed n d p ≡ true → allowed_passed n d q ≡ true → read_refusal s n f d p o places ≡ read_refusal s n f d q o places
unfolding read_tested
alike s n f d p q o places e h = rw (e, h)

same_but_low : (r d p q good : ℕ) (F m : List ℕ) →
    SameButLow (record { report = unless_refused r (found d p F good) (refused_report r); list = m }) (record { report = unless_refused r (found d q F good) (refused_report r); list = m })
unfolding found
same_but_low zero d p q good [] m = record { refusal = refl; clean = refl; listed = refl; first = refl; high = refl; last_good = refl; list = refl }
same_but_low zero d p q good (g ∷ gs) m = record { refusal = refl; clean = refl; listed = refl; first = refl; high = refl; last_good = refl; list = refl }
same_but_low (suc r) d p q good F m = record { refusal = refl; clean = refl; listed = refl; first = refl; high = refl; last_good = refl; list = refl }

pub moves_low_alone : MovesLowAlone
unfolding readout
moves_low_alone s n f d p q o l e h =
    let r = read_refusal s n f d q o (length l) in
    let F = listed_in s n d o in
    rw (alike s n f d p q o (length l) e h) (same_but_low r d p q (last_good_day s n d (table_in s n d o)) F (front_written r F l))
