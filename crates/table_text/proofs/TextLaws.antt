-- From the tests and from what reading said to the text.
use mathlib.Core.{Path.◌≡◌, Path.refl, Path.sym, Path.ap, Path.◌∙◌, Logic.inl, Logic.inr, Bool.Bool}
use mathlib.Core.{Bool.true, Bool.false, Bool.not, Bool.◌&&◌, Bool.cond, List.List, List.[], List.◌∷◌, List.◌++◌, List.map}
use Prim.Native.Nat.{ℕ, zero, suc, ◌+◌, ◌*◌, ◌≤◌, ◌<◌}
use native.Mathlib.Omega.{arith}
use lib.{Dec.leb, ListN.length, ListN.take, ListN.drop, ListN.length-append, ListN.length-map}
use lib.Seq.{take_at}
use borrow.Author.Tests.{le-leb, lt-leb, leb-true}
use Rattle.lists.specs.Lists.{up_from, keep}
use Rattle.lists.proofs.Laws.{split, and_both, length-up_from}
use Rattle.evidence.specs.Evidence.{days, listing, cleared}
use Rattle.std.specs.Prelude.{Result, Ok, Err}
use Rattle.refusals.specs.Refusals.{Test, ◌or_refuse◌, number, number_of, tested, first_refusal}
use Rattle.refusals.specs.declared.Refusal.{Refusal}
use Rattle.refusals.specs.declared.Refusal.TheVariants as cause
use Rattle.refusals.proofs.TestLaws.{none_fails, no_refusal, pass_split, refused_before, passed_before, number_after, number_stays, passed_number, old_stays}
use Rattle.buffers.specs.Private.{Wrote}
use Rattle.layouts.specs.Layouts.{allowed_scheme, allowed_n, layout_tested, chains}
use Rattle.layouts.proofs.{AllowedLaws.allowed_d_is, AllowedLaws.layout_is, Coverage.divisor_le}
use Rattle.acceptance.proofs.Runs.{keep_length}
use Rattle.reading.specs.Numbers.{validation_before, last_good_day}
use Rattle.reading.specs.Contract.{report_of, table_in, passed_tests, passed_tested, passed_refusal, outcome_tests, read_refusal, listed_in, found, readout}
use Rattle.reading.specs.declared.Reading.{Reading}
use Rattle.reading.specs.declared.Reading.TheVariants.{Clean, Changed, Refused}
use Rattle.reading.specs.Contract as reading
use Rattle.reading.proofs.{RefusalLaws.passed_early, RefusalLaws.passed_facts, RefusalLaws.number_late, Report.readout_found, Statements.refusal_said, Statements.count_found, Statements.case_told}
use Rattle.number_text.specs.Numbers.{digit_of, digits, value_in, decimal}
use Rattle.table_text.specs.Text.{from_n, from_f, from_d, from_passed, has_passed, last_field, last_line, is_formed, scheme_in, n_in, f_in, d_in, passed_in, outcomes_in, form_tests, digit_tests, digits_tested, answer_tests}
use Rattle.table_text.specs.Text.{text_tests, text_refusal, line, no_line, ref_line, day_lines, table_lines, printed, text_of}
use Rattle.table_text.specs.Private.{TypedIs, numbers_in, answered, answered_line}
use Rattle.std.specs.Prelude.{Some, None, unwrap_or}
use Rattle.reading.specs.declared.Numbers.{Numbers}
use Rattle.reading.specs.Private.{NumbersOf}
use Rattle.number_text.proofs.FieldLaws.{digits_most, after_most}
use Rattle.table_text.specs.declared.Typed.{Typed}

-- ---- 1 2 3 7 19, and 15 for extra digits

module _ (s n f d p count : ℕ) where
  pub digits_early : {r : Refusal} → passed_tested s n f d p ≡ Err r → Err r ≡ digits_tested s n f d p count
  unfolding passed_tested digits_tested
  digits_early e = sym (refused_before (passed_tests s n f d p) (leb count (length (chains s n d)) or_refuse cause.BadText ∷ []) e)

  module _ (e : passed_tested s n f d p ≡ Ok tt) where
    pub digits_ask : (allowed_scheme s ≡ true) × (allowed_n n ≡ true) × (d ≤ 65536)
    digits_ask = let L = passed_facts s n f d p e in (L.scheme_ok, L.n_ok, L.most)

    last_test : digits_tested s n f d p count ≡ tested (leb count (length (chains s n d)) or_refuse cause.BadText ∷ [])
    unfolding passed_tested digits_tested
    last_test = passed_before (passed_tests s n f d p) (leb count (length (chains s n d)) or_refuse cause.BadText ∷ []) e

    pub extra_15 : length (chains s n d) < count → Err cause.BadText ≡ digits_tested s n f d p count
    extra_15 h = rw (last_test, lt-leb count (length (chains s n d)) h) refl

    pub extra_none : count ≤ length (chains s n d) → Ok tt ≡ digits_tested s n f d p count
    extra_none h = rw (last_test, le-leb count (length (chains s n d)) h) refl

-- ---- room for the day lines

days_kept : (p : ℕ → Bool) (xs : List ℕ) → length (day_lines (keep p xs)) ≤ length (day_lines xs)
unfolding day_lines
days_kept p [] = omega arith
days_kept p (x ∷ xs) =
    let L = line (68 ∷ 65 ∷ 89 ∷ []) (x ∷ []) in
    let h = days_kept p xs in
    let a = length-append L (day_lines (keep p xs)) in
    let b = length-append L (day_lines xs) in
    elim (split (p x)) [ inl e ↦ rw e (omega arith) | inr e ↦ rw e (omega arith) ]

d_withiner : (i a b : ℕ) → a ≤ b → length (day_lines (up_from i a)) ≤ length (day_lines (up_from i b))
unfolding day_lines
d_withiner i zero b h = omega arith
d_withiner i (suc a) zero h = absurd (omega arith)
d_withiner i (suc a) (suc b) h =
    let L = line (68 ∷ 65 ∷ 89 ∷ []) (i ∷ []) in
    omega (arith, d_withiner (suc i) a b (omega arith), length-append L (day_lines (up_from (suc i) a)), length-append L (day_lines (up_from (suc i) b)))

all_days : length (day_lines (days 256)) ≡ 1940
unfolding day_lines line decimal
all_days = refl

days_most : (s n d : ℕ) (o : List ℕ) → d ≤ 256 → length (day_lines (listed_in s n d o)) ≤ 1940
unfolding listed_in listing
days_most s n d o h = omega (arith, days_kept (λ g. not (cleared g (chains s n d) (table_in s n d o))) (days d), d_withiner 1 d 256 h, all_days)

-- ---- a table's answer

-- an answer that is no refusal
not_refused : (d : ℕ) (v : Reading) → ((x : ℕ) → v ≡ Refused x → ⊥) → (report_of d v).refusal ≡ 0
unfolding report_of
not_refused d Clean h = refl
not_refused d (Changed m) h = refl
not_refused d (Refused x) h = absurd (h x refl)

module _ (s n f d p : ℕ) (o : List ℕ) where
  pub answer_early : {r : Refusal} → digits_tested s n f d p (length o) ≡ Err r → answered s n f d p o ≡ no_line (number r)
  unfolding answered digits_tested
  answer_early e =
      let R = tested (answer_tests s n f d p o) in
      let q = refused_before (digit_tests s n f d p (length o)) (outcome_tests s n d o) e in
      old_stays R (table_lines s n d p o) (no_line (number_of R)) q ∙ ap (λ (t : Result Unit Refusal). no_line (number_of t)) q

  module _ (z : digits_tested s n f d p (length o) ≡ Ok tt) (l : List ℕ) (size : length l ≡ 256) (most : d ≤ 256) (v : Reading) (h : report_of d v ≡ (readout s n f d p o l).report) where
    passed_passes : passed_refusal s n f d p ≡ 0
    unfolding passed_tested digits_tested
    passed_passes =
        no_refusal (passed_tests s n f d p)
        (pass_split (passed_tests s n f d p) (leb (length o) (length (chains s n d)) or_refuse cause.BadText ∷ [])
        (none_fails (digit_tests s n f d p (length o)) (passed_number (tested (digit_tests s n f d p (length o))) z))).0

    -- with places for all days, reading's refusal is that of 12 13 14
    read_refusal_lem : read_refusal s n f d p o (length l) ≡ first_refusal (outcome_tests s n d o)
    read_refusal_lem =
        let places : leb d (length l) ≡ true = le-leb d (length l) (omega arith) in
        number_late s n f d p o (length l) passed_passes ∙ rw places refl

    none_early : first_refusal (digit_tests s n f d p (length o)) ≡ 0
    unfolding digits_tested
    none_early = passed_number (tested (digit_tests s n f d p (length o))) z

    refusal_is : (report_of d v).refusal ≡ first_refusal (answer_tests s n f d p o)
    refusal_is =
        ap (λ (i : reading.Report). i.refusal) h ∙ refusal_said s n f d p o l ∙ read_refusal_lem ∙
        sym (number_after (digit_tests s n f d p (length o)) (outcome_tests s n d o) none_early)

    pub answer_late : {x : ℕ} → v ≡ Refused x → answered s n f d p o ≡ no_line x
    unfolding answered report_of
    answer_late {x} q =
        let R = first_refusal (answer_tests s n f d p o) in
        let k : x ≡ R = ap (λ (w : Reading). (report_of d w).refusal) (sym q) ∙ refusal_is in
        let some = (((case_told s n f d p o l v h).refused x).0 q).1 in
        number_stays R (table_lines s n d p o) (no_line R) (λ e. omega (arith, some, k, e)) ∙ ap no_line (sym k)

    module _ (q : (x : ℕ) → v ≡ Refused x → ⊥) {r : Numbers} (k : NumbersOf (report_of d v) r) {m : List ℕ} (w : m ≡ (readout s n f d p o l).list) where
      none : read_refusal s n f d p o (length l) ≡ 0
      none = sym (ap (λ (i : reading.Report). i.refusal) h ∙ refusal_said s n f d p o l) ∙ not_refused d v q

      found_is : report_of d v ≡ found d p (listed_in s n d o) (last_good_day s n d (table_in s n d o))
      found_is = h ∙ ap (λ (y : reading.Readout). y.report) (readout_found s n f d p o l none)

      listed_is : r.listed ≡ length (listed_in s n d o)
      listed_is = k.listed_is ∙ ap (λ (y : reading.Report). y.listed) found_is ∙ count_found d p (last_good_day s n d (table_in s n d o)) (listed_in s n d o)

      part_is : take r.listed m ≡ listed_in s n d o
      part_is =
          ap (take r.listed) (w ∙ ap (λ (y : reading.Readout). y.list) (readout_found s n f d p o l none)) ∙
          take_at (listed_in s n d o) (drop (length (listed_in s n d o)) l) r.listed (sym listed_is)

      pub part_fits : r.listed ≤ 256
      unfolding listed_in listing
      part_fits = omega (arith, listed_is, keep_length (λ g. not (cleared g (chains s n d) (table_in s n d o))) (days d), length-up_from 1 d)

      pub part_length : r.listed ≡ length (take r.listed m)
      part_length = listed_is ∙ sym (ap length part_is)

      pub part_room : (room : ℕ) → 2048 ≤ room → 85 + length (day_lines (take r.listed m)) ≤ room
      part_room room y = rw part_is (let u = days_most s n d o most in omega arith)

      pub answer_read : answered s n f d p o ≡ line (82 ∷ 69 ∷ 70 ∷ []) (numbers_in s r) ++ day_lines (take r.listed m)
      unfolding answered table_lines ref_line
      answer_read =
          ap (λ (x : ℕ). printed x (table_lines s n d p o)) (sym refusal_is ∙ not_refused d v q) ∙
          sym (rw (part_is, k.listed_is, k.first_is, k.low_is, k.high_is, k.last_good_is, found_is))

-- ---- by the first line

-- tests 1 2 3 7 come before all others, whatever P is
pub answer_layout : (s n f d p : ℕ) (o : List ℕ) {r : Refusal} → layout_tested s n f d ≡ Err r → answered s n f d p o ≡ no_line (number r)
answer_layout s n f d p o e = answer_early s n f d p o (sym (digits_early s n f d p (length o) (sym (passed_early s n f d p e))))

pub validation_within : (s n f d : ℕ) → layout_tested s n f d ≡ Ok tt → f * n ≤ d
validation_within s n f d e =
    let v = allowed_d_is n f d (layout_is s n f d (passed_number (layout_tested s n f d) e)).1 in divisor_le (f * n) d v.some v.whole

-- ---- a text

-- where there is a P it is taken
passed_or : (b : Bool) (x v : ℕ) → unwrap_or (cond b (Some x) None) v ≡ cond b x v
passed_or true x v = refl
passed_or false x v = refl

module _ (s : List ℕ) where
  abbrev rest : List Test
  rest = answer_tests (scheme_in s) (n_in s) (f_in s) (d_in s) (passed_in s) (outcomes_in s)

  -- 15 for form, length and D over 256
  text_15 : tested (form_tests (is_formed s) (length s) (d_in s)) ≡ Err cause.BadText → text_of s ≡ no_line 15
  unfolding text_of text_refusal
  text_15 e =
      let R = tested (text_tests s) in
      let lines = table_lines (scheme_in s) (n_in s) (d_in s) (passed_in s) (outcomes_in s) in
      let q = refused_before (form_tests (is_formed s) (length s) (d_in s)) rest e in
      old_stays R lines (no_line (number_of R)) q ∙ ap (λ (t : Result Unit Refusal). no_line (number_of t)) q

  pub text_unformed : is_formed s ≡ false → text_of s ≡ no_line 15
  text_unformed e = text_15 (rw e refl)

  module _ {t : Typed} (T : TypedIs s t) where
    small_is : {b : Bool} → b ≡ leb (length s) 1024 && leb t.d 256 → b ≡ is_formed s && (leb (length s) 1024 && leb (d_in s) 256)
    small_is e = rw (T.formed, ← T.d_is) e

    pub text_large : {b : Bool} → b ≡ leb (length s) 1024 && leb t.d 256 → b ≡ false → text_of s ≡ no_line 15
    text_large e f = text_15 (rw (sym (small_is e) ∙ f) refl)

    pub sizes : {b : Bool} → b ≡ leb (length s) 1024 && leb t.d 256 → b ≡ true → (length s ≤ 1024) × (t.d ≤ 256)
    sizes e f = let h = and_both (leb (length s) 1024) (leb t.d 256) (sym e ∙ f) in (leb-true (length s) 1024 h.0, leb-true t.d 256 h.1)

    -- P as it is meant
    passed_is : unwrap_or t.passed (validation_before t.n t.f t.d) ≡ passed_in s
    passed_is =
        rw (T.n_is, T.f_is, T.d_is, T.passed_is) (passed_or (has_passed s) (value_in (from_passed s)) (validation_before (n_in s) (f_in s) (d_in s)))

    last_most : length (last_field s) ≤ length s
    last_most =
        let a : length (from_d s) ≤ length s = omega (arith, after_most s, after_most (from_n s), after_most (from_f s)) in
        let b : length (from_passed s) ≤ length s = omega (arith, a, after_most (from_d s)) in
        elim (split (has_passed s)) [ inl e ↦ rw e b | inr e ↦ rw e a ]

    pub digits_fit : {b : Bool} → b ≡ leb (length s) 1024 && leb t.d 256 → b ≡ true → length t.outcomes.now ≤ 1024
    digits_fit e f =
        omega (
          arith,
          (sizes e f).0,
          ap length T.outcomes_are,
          digits_most (last_line s),
          after_most (last_field s),
          last_most,
        )

    -- with its numbers in a table
    module _ (l m : List ℕ) (w : m ≡ map digit_of t.outcomes.now ++ drop (length t.outcomes.now) l) where
      outcomes_are : take (length t.outcomes.now) m ≡ outcomes_in s
      unfolding outcomes_in
      outcomes_are =
          ap (take (length t.outcomes.now)) w ∙
          take_at (map digit_of t.outcomes.now) (drop (length t.outcomes.now) l) (length t.outcomes.now) (length-map t.outcomes.now digit_of) ∙
          ap (map digit_of) T.outcomes_are

      pub outcomes_length : length t.outcomes.now ≡ length (take (length t.outcomes.now) m)
      unfolding outcomes_in
      outcomes_length = sym (ap length outcomes_are ∙ length-map (digits (last_line s)) digit_of ∙ ap length (sym T.outcomes_are))

      pub text_read : {b : Bool} → b ≡ leb (length s) 1024 && leb t.d 256 → b ≡ true → text_of s ≡ answered_line t (take (length t.outcomes.now) m)
      unfolding text_of text_refusal answered
      text_read e f =
          ap (λ (r : ℕ). printed r (table_lines (scheme_in s) (n_in s) (d_in s) (passed_in s) (outcomes_in s)))
          (number_after (form_tests (is_formed s) (length s) (d_in s)) rest (rw (sym (small_is e) ∙ f) refl)) ∙
          sym (rw (outcomes_are, passed_is, T.scheme_is, T.n_is, T.f_is, T.d_is))

-- ---- from the front on

pub front_count : {F l k : List ℕ} {r : ℕ} → Wrote 0 F l r k → r ≡ length F
front_count w = omega (arith, w.count)

pub front_list : {F l k : List ℕ} {r : ℕ} → Wrote 0 F l r k → k ≡ F ++ drop (length F) l
front_list {F} {l} w = w.list ∙ ap (λ (y : ℕ). F ++ drop y l) (front_count w)

-- ---- what functions of the code are proved by

pub ruleset digit_laws = (digits_early, digits_ask, extra_15, extra_none)
