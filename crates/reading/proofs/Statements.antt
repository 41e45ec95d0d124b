-- The statements of specs/Statements.antt, proved.
use mathlib.Core.{Path.◌≡◌, Path.refl, Path.sym, Path.ap, Path.◌∙◌, Logic.inl, Logic.inr, List.List, List.[], List.◌∷◌, List.◌++◌}
use mathlib.Core.Bool.{Bool, true, false, cond}
use Prim.Native.Nat.{ℕ, zero, suc, ◌≤◌}
use native.Mathlib.{Nat.le_refl, Omega.arith}
use lib.{ListN.length, ListN.take, ListN.drop, Seq.take_at, Seq.drop_at, Seq.take-take}
use Rattle.lists.proofs.Laws.{enough_read, split, true_or_false}
use Rattle.evidence.specs.Evidence.{accepted, listing}
use Rattle.evidence.proofs.TableLaws.{given_iff_accepted, listed_iff, listing_ascends}
use Rattle.refusals.specs.Refusals.{number_of, first_refusal, unless_refused}
use Rattle.std.specs.Prelude.{Result, Ok, Err}
use Rattle.refusals.specs.declared.Refusal.{Refusal}
use Rattle.refusals.specs.declared.Refusal.TheVariants as cause
use Rattle.layouts.specs.Layouts.{chains}
use Rattle.reading.specs.{declared.Reading.Reading, Numbers.last_good_day, Private.given_tests}
use Rattle.reading.specs.declared.Reading.TheVariants.{Clean, Changed, Refused}
use Rattle.reading.specs.Contract.{Report, report_of, refused_report, table_in, bits, passed_refusal, read_tested, read_refusal, listed_in, found, readout}
use Rattle.reading.specs.Statements.{Supplied, SomeSet, ReadIfGiven, SaysNoSet, ListsDaysOfSets, OutcomesRead, CaseOf, CaseTold, OneAnswer}
use Rattle.reading.proofs.RefusalLaws.{passed_none, set_read, table_given, number_late, read_given}
use Rattle.reading.proofs.Report.{readout_found}

-- ---- what a call says, by its refusal and the days listed

by_refusal : (r d p good : ℕ) (F : List ℕ) → (unless_refused r (found d p F good) (refused_report r)).refusal ≡ r
unfolding found
by_refusal zero d p good [] = refl
by_refusal zero d p good (g ∷ gs) = refl
by_refusal (suc r) d p good F = refl

-- no refusal and not clean: a day is listed
by_days : (r d p good : ℕ) (F : List ℕ) → (unless_refused r (found d p F good) (refused_report r)).refusal ≡ 0 →
    (unless_refused r (found d p F good) (refused_report r)).clean ≡ false → 1 ≤ (unless_refused r (found d p F good) (refused_report r)).listed
unfolding found
by_days zero d p good [] z e = absurd (true_or_false refl e)
by_days zero d p good (g ∷ gs) z e = omega arith
by_days (suc r) d p good F z e = absurd (omega arith)

pub count_found : (d p good : ℕ) (F : List ℕ) → (found d p F good).listed ≡ length F
unfolding found
count_found d p good [] = refl
count_found d p good (g ∷ gs) = refl

module _ (s n f d p : ℕ) (o l : List ℕ) where
  pub refusal_said : (readout s n f d p o l).report.refusal ≡ read_refusal s n f d p o (length l)
  unfolding readout
  refusal_said = by_refusal (read_refusal s n f d p o (length l)) d p (last_good_day s n d (table_in s n d o)) (listed_in s n d o)

  changed_lists : (readout s n f d p o l).report.refusal ≡ 0 → (readout s n f d p o l).report.clean ≡ false → 1 ≤ (readout s n f d p o l).report.listed
  unfolding readout
  changed_lists = by_days (read_refusal s n f d p o (length l)) d p (last_good_day s n d (table_in s n d o)) (listed_in s n d o)

-- ---- acceptance

-- with tests 1 2 3 7 19 8 12 passed, the call says what tests 13 14 find
module _ (s n f d p : ℕ) (o l : List ℕ) (u : Supplied s n f d p o l) where
  let_pass : passed_refusal s n f d p ≡ 0
  let_pass = passed_none s n f d p u.layout u.passed_ok

  by_given : (readout s n f d p o l).report.refusal ≡ first_refusal (given_tests s n d (table_in s n d o))
  by_given =
      refusal_said s n f d p o l ∙
      number_late s n f d p o (length l) let_pass ∙
      sym (ap number_of (table_given s n d o (length l) u.places refl u.enough refl))

  set_accepted : SomeSet s n d o → accepted (chains s n d) d (table_in s n d o) ≡ true
  set_accepted h = (given_iff_accepted (chains s n d) d (table_in s n d o)).0 h

  accepted_set : accepted (chains s n d) d (table_in s n d o) ≡ true → SomeSet s n d o
  accepted_set e = (given_iff_accepted (chains s n d) d (table_in s n d o)).1 e

-- what tests 13 14 say
abbrev given : Bool → Bool → Result Unit Refusal
given b a = cond b (cond a (Ok tt) (Err cause.NoSet)) (Err cause.BadOutcome)

passed : (b a : Bool) → number_of (given b a) ≡ 0 → a ≡ true
passed true true e = refl
passed true false e = absurd (omega arith)
passed false a e = absurd (omega arith)

failed : (b a : Bool) → number_of (given b a) ≡ 14 → (b ≡ true) × (a ≡ false)
failed true true e = absurd (omega arith)
failed true false e = (refl, refl)
failed false a e = absurd (omega arith)

pub read_if_given : ReadIfGiven
read_if_given s n f d p o l u = (
  λ e. accepted_set s n f d p o l u (passed (bits (table_in s n d o)) (accepted (chains s n d) d (table_in s n d o)) (sym (by_given s n f d p o l u) ∙ e)),
  λ h. refusal_said s n f d p o l ∙ set_read s n f d p o (length l) h.0 (let_pass s n f d p o l u) u.places u.enough h.1,
)

pub says_no_set : SaysNoSet
says_no_set s n f d p o l u =
    let a = accepted (chains s n d) d (table_in s n d o) in (
      λ e. let q = failed (bits (table_in s n d o)) a (sym (by_given s n f d p o l u) ∙ e) in (q.0, λ h. true_or_false (set_accepted s n f d p o l u h) q.1),
      λ h. let no : a ≡ false = elim (split a) [ inl e ↦ absurd (h.1 (accepted_set s n f d p o l u e)) | inr e ↦ e ] in by_given s n f d p o l u ∙ rw (h.0, no),
    )

-- ---- the days listed

pub lists_days_of_sets : ListsDaysOfSets
unfolding listed_in
lists_days_of_sets s n f d p o l e =
    let z : read_refusal s n f d p o (length l) ≡ 0 = sym (refusal_said s n f d p o l) ∙ e in
    let F = listing (chains s n d) d (table_in s n d o) in
    let front : take (length F) (F ++ drop (length F) l) ≡ F = take_at F (drop (length F) l) (length F) refl in
    rw (readout_found s n f d p o l z, count_found d p (last_good_day s n d (table_in s n d o)) F)
    (record {
      counted = ap length front;
      ascending = rw front (listing_ascends (chains s n d) d (table_in s n d o));
      days = rw front (listed_iff (chains s n d) d (table_in s n d o) (read_given s n f d p o (length l) z).accepted_ok);
      rest = drop_at F (drop (length F) l) (length F) refl;
    })

-- ---- the outcomes read

pub outcomes_read : OutcomesRead
unfolding readout read_tested listed_in
outcomes_read s n f d p o l =
    let k = length (chains s n d) in
    rw (take-take k k o (le_refl k), ← (enough_read k o))

-- ---- the answer

case_of : (d : ℕ) (a : Reading) (r : Report) → (r.refusal ≡ 0 → r.clean ≡ false → 1 ≤ r.listed) → report_of d a ≡ r → CaseOf a r
unfolding report_of
case_of d Clean r K e =
    let z = ap (λ (x : Report). x.refusal) e in
    let k = ap (λ (x : Report). x.listed) e in
    record {
      clean = (λ h. (sym z, sym k), λ h. refl);
      changed = (λ h. absurd (let y = h.1 in let q : ◌≡◌ {A = ℕ} 0 1 = cc in omega arith), λ h. absurd (omega (arith, h.1)));
      refused = λ x. (λ h. absurd (let q : ◌≡◌ {A = ℕ} 0 1 = cc in omega arith), λ h. absurd (omega (arith, h.0, h.1)));
    }
case_of d (Changed m) r K e =
    let z = ap (λ (x : Report). x.refusal) e in
    let k = K (sym z) (sym (ap (λ (x : Report). x.clean) e)) in
    record {
      clean = (λ h. absurd (let q : ◌≡◌ {A = ℕ} 0 1 = cc in omega arith), λ h. absurd (omega (arith, h.1)));
      changed = (λ h. (sym z, k), λ h. (m, refl));
      refused = λ x. (λ h. absurd (let q : ◌≡◌ {A = ℕ} 0 1 = cc in omega arith), λ h. absurd (omega (arith, h.0, h.1)));
    }
case_of d (Refused x) r K e =
    let z = ap (λ (y : Report). y.refusal) e in
    let k = ap (λ (y : Report). y.listed) e in
    let some = number x z k in
    record {
      clean = (λ h. absurd (let q : ◌≡◌ {A = ℕ} 0 1 = cc in omega arith), λ h. absurd (omega (arith, h.0)));
      changed = (λ h. absurd (let y = h.1 in let q : ◌≡◌ {A = ℕ} 0 1 = cc in omega arith), λ h. absurd (omega (arith, h.0)));
      refused = λ y. (λ h. let q : x ≡ y = cc in (sym z ∙ q, omega arith), λ h. ap Refused (z ∙ h.0));
    }
  where
    number : (y : ℕ) → y ≡ r.refusal → 0 ≡ r.listed → 1 ≤ y
    number zero z k = let m = K (sym z) (sym (ap (λ (w : Report). w.clean) e)) in absurd (omega arith)
    number (suc y) z k = omega arith

pub case_told : CaseTold
case_told s n f d p o l a e = case_of d a (readout s n f d p o l).report (changed_lists s n f d p o l) e

determined : (d : ℕ) (a b : Reading) (r : Report) → CaseOf a r → CaseOf b r → report_of d a ≡ r → report_of d b ≡ r → a ≡ b
unfolding report_of
determined d Clean b r A B e h = sym (B.clean.1 (A.clean.0 refl))
determined d (Changed m) (Changed k) r A B e h =
    ap (λ (x : Report). Changed (record { listed = x.listed; first = x.first; low = x.low; high = x.high; last_good = x.last_good })) (e ∙ sym h)
determined d (Changed m) Clean r A B e h = A.clean.1 (B.clean.0 refl)
determined d (Changed m) (Refused y) r A B e h = (A.refused y).1 ((B.refused y).0 refl)
determined d (Refused x) b r A B e h = sym ((B.refused x).1 ((A.refused x).0 refl))

pub one_answer : OneAnswer
one_answer s n f d p o l a b e h =
    determined d a b (readout s n f d p o l).report (case_told s n f d p o l a e) (case_told s n f d p o l b h) e h
