-- What a call of the C interface returns and leaves, from what the call below it ensures.
use mathlib.Core.Path.{◌≡◌, refl, sym, ap, ◌∙◌}
use mathlib.Core.Bool.{true}
use mathlib.Core.List.{List, [], ◌∷◌}
use Prim.Native.Nat.{ℕ, ◌≤◌}
use lib.ListN.{length}
use Rattle.std.specs.Prelude.{Result, Ok, Err}
use Rattle.refusals.specs.Refusals.{book_limit, number, number_of, answered, unless_refused}
use Rattle.refusals.specs.declared.Refusal.{Refusal}
use Rattle.refusals.proofs.TestLaws.{answered_ok, answered_err, passed_number, number_some, number_stays, old_stays}
use Rattle.refusals.proofs.TestLaws.{new_stands}
use Rattle.layouts.specs.Layouts.{allowed_scheme, allowed_n, layout_tested, layout_refusal, chains, value_count}
use Rattle.layouts.proofs.AllowedLaws.{layout_asks, values_counted}
use Rattle.reading.specs.Contract.{Report, report_of, five_numbers}
use Rattle.reading.specs.Private.{NumbersOf}
use Rattle.reading.specs.declared.Numbers.{Numbers}
use Rattle.reading.specs.declared.Reading.{Reading}
use Rattle.record_bytes.specs.Bytes.{bytes_of_record, record_of}
use Rattle.service.specs.Contract.{Added, added, count_of, both_of, Closing, closing}
use Rattle.service.specs.declared.Closed.{Closed}
use Rattle.service.proofs.CallLaws.{both_ok, both_err}
use Rattle.daybook_c.specs.Contract.{added_bytes, closed_bytes, numbers_after, values_after}

-- ---- add

module _ (b piece : List ℕ) (old : ℕ) where
  abbrev A : Added
  A = added (record_of b) piece

  module _ {k : ℕ} (call : answered A.answer A.blocks ≡ Ok k) where
    taken : (A.answer ≡ Ok tt) × (k ≡ A.blocks)
    taken = answered_ok A.answer A.blocks call

    pub add_number : 0 ≡ (added_bytes b piece old).number
    unfolding added_bytes
    add_number = rw taken.0 refl

    pub add_done : {e : List ℕ} → e ≡ bytes_of_record A.state → e ≡ (added_bytes b piece old).state
    unfolding added_bytes
    add_done q = rw taken.0 q

    pub add_blocks : k ≡ (added_bytes b piece old).blocks
    unfolding added_bytes
    add_blocks = rw taken.0 taken.1

  module _ {r : Refusal} (call : answered A.answer A.blocks ≡ Err r) where
    refused : A.answer ≡ Err r
    refused = answered_err A.answer A.blocks call

    pub add_refused : number r ≡ (added_bytes b piece old).number
    unfolding added_bytes
    add_refused = rw refused refl

    pub add_kept : (b ≡ (added_bytes b piece old).state) × (old ≡ (added_bytes b piece old).blocks)
    unfolding added_bytes
    add_kept = (
      sym (old_stays A.answer (bytes_of_record A.state) b refused),
      sym (old_stays A.answer A.blocks old refused),
    )

-- ---- close

-- what stands by the number of an answer
stands : (a : Result ℕ Refusal) {B : Type 0} (new old : B) {k : ℕ} → a ≡ Ok k → new ≡ unless_refused (number_of a) new old
stands a new old e = rw e refl

stays : (a : Result ℕ Refusal) {B : Type 0} (new old : B) {r : Refusal} → a ≡ Err r → old ≡ unless_refused (number_of a) new old
stays (Ok k) new old {r} e = absurd (number_some r (sym (ap number_of e)))
stays (Err x) new old e = sym (number_stays (number x) new old (number_some x))

module _ (b part : List ℕ) (old was : ℕ) where
  abbrev C : Closing
  C = closing (record_of b) part

  pub close_part : {p : List ℕ} → p ≡ C.part → p ≡ (closed_bytes b part old was).part
  unfolding closed_bytes
  close_part q = q

  module _ {c : Closed} (call : both_of C.result.answer C.result.blocks ≡ Ok c) where
    done : (C.result.answer ≡ Ok c.values) × (c.blocks ≡ C.result.blocks)
    done = both_ok C.result.answer C.result.blocks call

    pub close_number : 0 ≡ (closed_bytes b part old was).number
    unfolding closed_bytes
    close_number = rw done.0 refl

    pub close_done : {e : List ℕ} → e ≡ bytes_of_record C.result.state → e ≡ (closed_bytes b part old was).state
    unfolding closed_bytes
    close_done q = q ∙ stands C.result.answer _ b done.0

    pub close_count : c.values ≡ (closed_bytes b part old was).values
    unfolding closed_bytes
    close_count = sym (ap count_of done.0) ∙ stands C.result.answer _ old done.0

    pub close_blocks : c.blocks ≡ (closed_bytes b part old was).blocks
    unfolding closed_bytes
    close_blocks = done.1 ∙ stands C.result.answer _ was done.0

  module _ {r : Refusal} (call : both_of C.result.answer C.result.blocks ≡ Err r) where
    none : C.result.answer ≡ Err r
    none = both_err C.result.answer C.result.blocks call

    pub close_refused : number r ≡ (closed_bytes b part old was).number
    unfolding closed_bytes
    close_refused = rw none refl

    pub close_kept : (b ≡ (closed_bytes b part old was).state) × (old ≡ (closed_bytes b part old was).values) × (was ≡ (closed_bytes b part old was).blocks)
    unfolding closed_bytes
    close_kept = (
      stays C.result.answer (bytes_of_record C.result.state) b none,
      stays C.result.answer (count_of C.result.answer) old none,
      stays C.result.answer C.result.blocks was none,
    )

-- ---- read

module _ (d : ℕ) (report : Report) (a : Reading) (x : ℕ) (call : report_of d a ≡ report) (number : x ≡ (report_of d a).refusal) where
  pub read_number : x ≡ report.refusal
  read_number = number ∙ ap (λ (r : Report). r.refusal) call

  pub read_done : (m : Numbers) (old : List ℕ) → x ≡ 0 → NumbersOf (report_of d a) m →
      m.listed ∷ m.first ∷ m.low ∷ m.high ∷ m.last_good ∷ [] ≡ numbers_after report old
  unfolding numbers_after
  read_done m old z e =
      rw (e.listed_is, e.first_is, e.low_is, e.high_is, e.last_good_is) (ap five_numbers call ∙ sym (ap (λ (n : ℕ). unless_refused n (five_numbers report) old) (sym read_number ∙ z)))

  pub read_kept : (old : List ℕ) → (x ≡ 0 → ⊥) → old ≡ numbers_after report old
  unfolding numbers_after
  read_kept old some = sym (number_stays report.refusal (five_numbers report) old (λ z. some (read_number ∙ z)))

-- ---- values

module _ (scheme n f d old : ℕ) where
  module _ (e : layout_tested scheme n f d ≡ Ok tt) where
    pub values_ask : (allowed_scheme scheme ≡ true) × (allowed_n n ≡ true) × (d ≤ book_limit)
    values_ask = layout_asks scheme n f d e

    pub values_number : 0 ≡ layout_refusal scheme n f d
    values_number = sym (passed_number (layout_tested scheme n f d) e)

    pub values_done : length (chains scheme n d) ≡ values_after scheme n f d old
    unfolding values_after
    values_done =
        sym (values_counted scheme n f d (passed_number (layout_tested scheme n f d) e)) ∙
        sym (new_stands (layout_tested scheme n f d) (value_count scheme n d) old e)

  module _ {r : Refusal} (e : layout_tested scheme n f d ≡ Err r) where
    pub values_refused : number r ≡ layout_refusal scheme n f d
    values_refused = rw e refl

    pub values_kept : old ≡ values_after scheme n f d old
    unfolding values_after
    values_kept = sym (old_stays (layout_tested scheme n f d) (value_count scheme n d) old e)

pub ruleset values_laws = (values_ask, values_number, values_done, values_refused, values_kept)
