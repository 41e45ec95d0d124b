-- The refusal by the tests, and what no refusal leaves.
use mathlib.Core.{Path.◌≡◌, Path.refl, Path.sym, Path.◌∙◌, List.List, List.[], List.◌∷◌}
use mathlib.Core.Bool.{true, false, ◌&&◌, ◌||◌, cond}
use Prim.Native.Nat.{ℕ, ◌≤◌, ◌<◌}
use native.Mathlib.Omega.{arith}
use lib.{Dec.eqb, ListN.length, ListN.take, Seq.length-take-le}
use borrow.Author.Tests.{le-leb, lt-leb, leb-true}
use Rattle.evidence.specs.Evidence.{meets, table_of, Gives, accepted}
use Rattle.evidence.proofs.TableLaws.{given_iff_accepted}
use Rattle.std.specs.Prelude.{Result, Ok, Err}
use Rattle.refusals.specs.Refusals.{◌or_refuse◌, tested, first_refusal}
use Rattle.refusals.specs.declared.Refusal.{Refusal}
use Rattle.refusals.specs.declared.Refusal.TheVariants as cause
use Rattle.refusals.proofs.TestLaws.{Pass, none_fails, no_refusal, pass_split, pass_both, refused_before, passed_before, number_before, number_after, passed_number, number_passed}
use Rattle.layouts.specs.Layouts.{layout_tests, layout_tested, layout_refusal, chains}
use Rattle.layouts.proofs.AllowedLaws.{allowed_n_is, allowed_d_is, divides_factor, layout_is}
use Rattle.acceptance.specs.Private.{Table, rules}
use Rattle.acceptance.proofs.Accepted.{accepted_rules}
use Rattle.reading.specs.Contract.{table_in, bits, allowed_passed, passed_tests, passed_tested, passed_refusal, table_tests, read_tests, read_tested, read_refusal}
use Rattle.reading.specs.Private.{Layout, least, given_tests, Given}
use Rattle.reading.proofs.BitLaws.{bits_at, pass_accepted}

-- ---- tests 13 14

-- with test 13 passed, the rules are test 14
by_rules : (s n d : ℕ) (t : List ℕ) → Table s n d t → bits t ≡ true → rules s n d t ≡ accepted (chains s n d) d t
by_rules s n d t T e = sym (accepted_rules s n d t T (bits_at t e))

module _ (s n d : ℕ) (t : List ℕ) where
  pub given_13 : bits t ≡ false → Err cause.BadOutcome ≡ tested (given_tests s n d t)
  given_13 e = rw e refl

  module _ (T : Table s n d t) (e : bits t ≡ true) where
    pub given_passes : least t ≡ 1 → Ok tt ≡ tested (given_tests s n d t)
    given_passes k = rw (e, pass_accepted (chains s n d) d t T.size e k) refl

    pub given_14 : rules s n d t ≡ false → Err cause.NoSet ≡ tested (given_tests s n d t)
    given_14 k = rw (e, sym (by_rules s n d t T e) ∙ k) refl

    pub given_done : rules s n d t ≡ true → Ok tt ≡ tested (given_tests s n d t)
    given_done k = rw (e, sym (by_rules s n d t T e) ∙ k) refl

-- ---- tests 8 12 13 14

pub layout_table : (s n d : ℕ) (t : List ℕ) → Layout s n d → length t ≡ length (chains s n d) → Table s n d t
layout_table s n d t L h =
    record { scheme_ok = L.scheme_ok; n_ok = L.n_ok; some = L.some; most = L.most; whole = L.whole; size = h }

module _ (s n d : ℕ) (o : List ℕ) (places : ℕ) where
  pub table_8 : places < d → Err cause.ShortBuffer ≡ tested (table_tests s n d o places)
  table_8 l = rw (lt-leb d places l) refl

  pub table_12 : {v : ℕ} → d ≤ places → v ≡ length (chains s n d) → length o < v → Err cause.FewOutcomes ≡ tested (table_tests s n d o places)
  table_12 l q m = rw (le-leb d places l, lt-leb (length (chains s n d)) (length o) (omega arith)) refl

  pub table_given : {v : ℕ} {r : Result Unit Refusal} → d ≤ places → v ≡ length (chains s n d) → v ≤ length o → r ≡ tested (given_tests s n d (take v o)) →
      r ≡ tested (table_tests s n d o places)
  table_given l q m y = rw (le-leb d places l, le-leb (length (chains s n d)) (length o) (omega arith), ← q) y

pub part_length : (x : ℕ) (o : List ℕ) → x ≤ length o → x ≡ length (take x o)
part_length x o m = sym (length-take-le x o m)

pub table_part : (s n d : ℕ) (o : List ℕ) {v : ℕ} → Layout s n d → v ≡ length (chains s n d) → v ≤ length o → Table s n d (take v o)
table_part s n d o {v} L q m = layout_table s n d (take v o) L (length-take-le v o m ∙ q)

-- ---- tests 1 2 3 7 19

-- the facts of an allowed layout
pub layout_facts : (s n f d : ℕ) → layout_refusal s n f d ≡ 0 → Layout s n d
layout_facts s n f d e =
    let u = layout_is s n f d e in
    let w = allowed_n_is n u.0.n_ok in
    let v = allowed_d_is n f d u.1 in
    record { scheme_ok = u.0.scheme_ok; n_ok = u.0.n_ok; some = v.some; most = v.most; whole = divides_factor n f d w.some v.whole }

module _ (s n f d p : ℕ) where
  pub passed_early : {r : Refusal} → layout_tested s n f d ≡ Err r → Err r ≡ passed_tested s n f d p
  unfolding layout_tested passed_tested
  passed_early e = sym (refused_before (layout_tests s n f d) (allowed_passed n d p or_refuse cause.BadPassed ∷ []) e)

  pub passed_last : layout_tested s n f d ≡ Ok tt → passed_tested s n f d p ≡ cond (allowed_passed n d p) (Ok tt) (Err cause.BadPassed)
  unfolding layout_tested passed_tested
  passed_last e = passed_before (layout_tests s n f d) (allowed_passed n d p or_refuse cause.BadPassed ∷ []) e

  pub passed_some : layout_tested s n f d ≡ Ok tt → 1 ≤ n
  passed_some e = (allowed_n_is n (layout_facts s n f d (passed_number (layout_tested s n f d) e)).n_ok).some

  -- by numbers
  pub number_early : (layout_refusal s n f d ≡ 0 → ⊥) → passed_refusal s n f d p ≡ layout_refusal s n f d
  unfolding layout_tested passed_tested
  number_early h = number_before (layout_tests s n f d) (allowed_passed n d p or_refuse cause.BadPassed ∷ []) h

  pub number_19 : layout_refusal s n f d ≡ 0 → allowed_passed n d p ≡ false → passed_refusal s n f d p ≡ 19
  number_19 e h = rw (passed_last (number_passed (layout_tested s n f d) e), h) refl

  pub passed_none : layout_refusal s n f d ≡ 0 → allowed_passed n d p ≡ true → passed_refusal s n f d p ≡ 0
  passed_none e h = rw (passed_last (number_passed (layout_tested s n f d) e), h) refl

  -- each test of a P that is let pass
  passed_passes : passed_refusal s n f d p ≡ 0 → Pass (layout_tests s n f d) × (allowed_passed n d p ≡ true)
  unfolding passed_tested
  passed_passes e = let q = pass_split (layout_tests s n f d) (allowed_passed n d p or_refuse cause.BadPassed ∷ []) (none_fails (passed_tests s n f d p) e) in (q.0, q.1.0)

  pub passed_layout : passed_refusal s n f d p ≡ 0 → layout_refusal s n f d ≡ 0
  unfolding layout_tested
  passed_layout e = no_refusal (layout_tests s n f d) (passed_passes e).0

  pub passed_facts : passed_tested s n f d p ≡ Ok tt → Layout s n d
  passed_facts e = layout_facts s n f d (passed_layout (passed_number (passed_tested s n f d p) e))

-- ---- tests 1 2 3 7 19 8 12 13 14

module _ (s n f d p : ℕ) (o : List ℕ) (places : ℕ) where
  pub read_early : {r : Refusal} → passed_tested s n f d p ≡ Err r → Err r ≡ read_tested s n f d p o places
  unfolding read_tested passed_tested
  read_early e = sym (refused_before (passed_tests s n f d p) (table_tests s n d o places) e)

  pub read_late : passed_tested s n f d p ≡ Ok tt → read_tested s n f d p o places ≡ tested (table_tests s n d o places)
  unfolding read_tested passed_tested
  read_late e = passed_before (passed_tests s n f d p) (table_tests s n d o places) e

  -- by numbers
  pub number_first : (passed_refusal s n f d p ≡ 0 → ⊥) → read_refusal s n f d p o places ≡ passed_refusal s n f d p
  unfolding read_tested passed_tested
  number_first h = number_before (passed_tests s n f d p) (table_tests s n d o places) h

  pub number_late : passed_refusal s n f d p ≡ 0 → read_refusal s n f d p o places ≡ first_refusal (table_tests s n d o places)
  unfolding read_tested passed_tested
  number_late e = number_after (passed_tests s n f d p) (table_tests s n d o places) e

  -- each test of a call that is not refused
  read_passes : read_refusal s n f d p o places ≡ 0 → Pass (passed_tests s n f d p) × Pass (table_tests s n d o places)
  unfolding read_tested
  read_passes e = pass_split (passed_tests s n f d p) (table_tests s n d o places) (none_fails (read_tests s n f d p o places) e)

  pub read_passed : read_refusal s n f d p o places ≡ 0 → passed_refusal s n f d p ≡ 0
  unfolding passed_tested
  read_passed e = no_refusal (passed_tests s n f d p) (read_passes e).0

  pub read_facts : read_refusal s n f d p o places ≡ 0 → Layout s n d
  read_facts e = layout_facts s n f d (passed_layout s n f d p (read_passed e))

  pub read_enough : read_refusal s n f d p o places ≡ 0 → length (chains s n d) ≤ length o
  read_enough e = leb-true (length (chains s n d)) (length o) (read_passes e).1.1.0

  -- the outcomes needed are a table that some set gives
  pub read_given : read_refusal s n f d p o places ≡ 0 → Given s n d (table_in s n d o) places
  read_given e =
      let q = (read_passes e).1 in
      record {
        table = layout_table s n d (table_in s n d o) (read_facts e) (length-take-le (length (chains s n d)) o (read_enough e));
        bits_ok = q.1.1.0;
        accepted_ok = q.1.1.1.0;
        room = leb-true d places q.0;
      }

-- ---- for theorems above: a table that a set gives is not refused

bits_given : (cs : List (List ℕ)) (S : List ℕ) → bits (table_of cs S) ≡ true
unfolding table_of
bits_given [] S = refl
bits_given (c ∷ cs) S = rw (bits_given cs S) (elim (meets S c) as (λ b. (eqb (cond b 0 1) 0 || eqb (cond b 0 1) 1) && true ≡ true) [ true ↦ refl | false ↦ refl ])

pub set_read : (s n f d p : ℕ) (o : List ℕ) (places : ℕ) (S : List ℕ) → passed_refusal s n f d p ≡ 0 → d ≤ places → length (chains s n d) ≤ length o →
    Gives (chains s n d) d S (table_in s n d o) → read_refusal s n f d p o places ≡ 0
unfolding read_tested passed_tested
set_read s n f d p o places S e l m h =
    no_refusal (read_tests s n f d p o places)
    (pass_both (passed_tests s n f d p) (table_tests s n d o places) (none_fails (passed_tests s n f d p) e) (
      le-leb d places l,
      (le-leb (length (chains s n d)) (length o) m, (rw h.gives at (bits_given (chains s n d) S), ((given_iff_accepted (chains s n d) d (table_in s n d o)).0 (S, h), tt))),
    ))

-- ---- what functions of the code are proved by

pub ruleset given_laws = (given_13, given_passes, given_14, given_done)

pub ruleset table_laws = (table_8, table_12, table_given, table_part, part_length)

pub ruleset passed_laws = (passed_early, passed_last, passed_some)

pub ruleset read_laws = (passed_facts, read_early, read_late)
