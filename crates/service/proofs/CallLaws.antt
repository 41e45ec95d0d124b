-- What the tests of add and close say, and what open, add and close give by it.
use mathlib.Core.Path.{◌≡◌, refl, sym, ap, ap₂, ◌∙◌}
use mathlib.Core.List.{List, [], ◌∷◌}
use Prim.Native.Nat.{ℕ, suc, ◌+◌, ◌-◌, ◌*◌, ◌≤◌, ◌<◌}
use native.Mathlib.Omega.{arith}
use lib.Dec.{leb}
use lib.ListN.{length}
use borrow.Author.Tests.{le-leb, lt-leb, leb-true}
use Rattle.std.specs.Prelude.{Result, Ok, Err}
use Rattle.refusals.specs.declared.Refusal.{Refusal}
use Rattle.refusals.specs.declared.Refusal.TheVariants as cause
use Rattle.refusals.specs.Refusals.{day_limit, ◌or_refuse◌, number_of, tested, answered}
use Rattle.refusals.proofs.TestLaws.{front_stands, none_fails, not_both, number_answered, number_passed, old_stays, passed_before, passed_number, refused_before, value_is, new_stands}
use Rattle.layouts.specs.Layouts.{setup_tested, setup_refusal, chains_of_day}
use Rattle.service.specs.declared.Record.{Record}
use Rattle.service.specs.declared.Opened.{Opened}
use Rattle.service.specs.declared.Closed.{Closed}
use Rattle.service.specs.Contract.{fresh, opened, current, record_tests, add_tests, add_tested, add_refusal, grown, grown_blocks, added, zeros}
use Rattle.service.specs.Contract.{day_count, close_tests, close_tested, close_refusal, day_bytes, count_of, both_of, closing}
use Rattle.service.specs.Private.{record_tested, Open, ClosedDay}
use Rattle.service.proofs.RecordLaws.{record_passes, record_open, current_bytes, current_scheme, current_n}

-- ---- add

module _ (r : Record) (size : ℕ) where
  pub add_early : {x : Refusal} → record_tested r ≡ Err x → Err x ≡ add_tested r size
  unfolding record_tested add_tested
  add_early e = sym (refused_before (record_tests r) (leb ((current r).bytes + size) day_limit or_refuse cause.LongDay ∷ []) e)

  module _ (e : record_tested r ≡ Ok tt) where
    pub bytes_within : r.bytes ≤ day_limit
    bytes_within = (record_passes r e).0.bytes_most

    -- the bytes that are left are those of the record handed in: at a turn it has none open
    same_bytes : (current r).bytes ≡ r.bytes
    same_bytes = current_bytes r (record_passes r e).0

    last_test : add_tested r size ≡ tested (leb ((current r).bytes + size) day_limit or_refuse cause.LongDay ∷ [])
    unfolding record_tested add_tested
    last_test = passed_before (record_tests r) (leb ((current r).bytes + size) day_limit or_refuse cause.LongDay ∷ []) e

    pub add_4 : day_limit - r.bytes < size → Err cause.LongDay ≡ add_tested r size
    add_4 h = rw (last_test, lt-leb ((current r).bytes + size) day_limit (omega (arith, same_bytes))) refl

    pub add_passed : size ≤ day_limit - r.bytes → Ok tt ≡ add_tested r size
    add_passed h =
        rw (last_test, le-leb ((current r).bytes + size) day_limit (omega (arith, same_bytes, bytes_within))) refl

-- what no refusal says, of the record that the call is made on
pub add_fits : (r : Record) (size : ℕ) → add_tested r size ≡ Ok tt → {made : Record} → made ≡ current r → made.bytes + size ≤ day_limit
unfolding add_tested
add_fits r size e m =
    rw m (leb-true ((current r).bytes + size) day_limit (none_fails (add_tests r size) (passed_number (tested (add_tests r size)) e)).1.1.0)

-- ---- close

module _ (r : Record) (size : ℕ) where
  pub close_early : {x : Refusal} → record_tested r ≡ Err x → Err x ≡ close_tested r size
  unfolding record_tested close_tested
  close_early e = sym (refused_before (record_tests r) (leb (32 * day_count (current r)) size or_refuse cause.ShortBuffer ∷ []) e)

  module _ (e : record_tested r ≡ Ok tt) {g k : ℕ} (d : g ≡ suc (current r).days) (c : k ≡ length (chains_of_day r.scheme r.n g)) where
    count_is : k ≡ day_count (current r)
    count_is =
        c ∙ ap (λ (y : ℕ). length (chains_of_day r.scheme r.n y)) d ∙
        ap₂ (λ (s n : ℕ). length (chains_of_day s n (suc (current r).days))) (sym (current_scheme r)) (sym (current_n r))

    last_room : close_tested r size ≡ tested (leb (32 * day_count (current r)) size or_refuse cause.ShortBuffer ∷ [])
    unfolding record_tested close_tested
    last_room = passed_before (record_tests r) (leb (32 * day_count (current r)) size or_refuse cause.ShortBuffer ∷ []) e

    pub close_8 : size < 32 * k → Err cause.ShortBuffer ≡ close_tested r size
    close_8 h = rw (last_room, lt-leb (32 * day_count (current r)) size (omega (arith, count_is))) refl

    pub close_passed : 32 * k ≤ size → Ok tt ≡ close_tested r size
    close_passed h = rw (last_room, le-leb (32 * day_count (current r)) size (omega (arith, count_is))) refl

-- what no refusal says, of the record that the call is made on
module _ (r : Record) (size : ℕ) (e : close_tested r size ≡ Ok tt) {made : Record} (m : made ≡ current r) where
  pub close_open : Open made
  unfolding record_tested close_tested
  close_open =
      let p = none_fails (close_tests r size) (passed_number (tested (close_tests r size)) e) in
      rw m (record_open r (rw (p.0, p.1.0) refl))

  pub close_room : 32 * day_count made ≤ size
  unfolding close_tested
  close_room =
      let p = none_fails (close_tests r size) (passed_number (tested (close_tests r size)) e) in
      rw m (leb-true (32 * day_count (current r)) size p.1.1.0)

-- ---- what a call gives, refused and not

module _ (s n f : ℕ) where
  pub opened_refused : {x : Refusal} {a : Result Unit Refusal} → a ≡ setup_tested s n f → a ≡ Err x → record { answer = a; state = zeros } ≡ opened s n f
  unfolding opened
  opened_refused {a = a} e q =
      ap₂ {C = Opened} (λ (y : Result Unit Refusal) (t : Record). record { answer = y; state = t }) e
      (sym (old_stays (setup_tested s n f) (fresh s n f) zeros (sym e ∙ q)))

  pub opened_done : {a : Result Unit Refusal} → a ≡ setup_tested s n f → a ≡ Ok tt → record { answer = a; state = fresh s n f } ≡ opened s n f
  unfolding opened
  opened_done {a = a} e q =
      ap₂ {C = Opened} (λ (y : Result Unit Refusal) (t : Record). record { answer = y; state = t }) e
      (sym (new_stands (setup_tested s n f) (fresh s n f) zeros (sym e ∙ q)))

module _ (r : Record) (piece : List ℕ) where
  module _ {x : Refusal} (e : add_tested r (length piece) ≡ Err x) where
    pub added_refused : Err x ≡ answered (added r piece).answer (added r piece).blocks
    unfolding added
    added_refused = rw e refl

    pub added_left : r ≡ (added r piece).state
    unfolding added
    added_left = sym (old_stays (add_tested r (length piece)) (grown (current r) piece) r e)

  module _ (e : add_tested r (length piece) ≡ Ok tt) {made : Record} (m : made ≡ current r) where
    pub added_done : {k : ℕ} → k ≡ grown_blocks made piece → Ok k ≡ answered (added r piece).answer (added r piece).blocks
    unfolding added
    added_done q = rw (e, q, m) refl

    pub added_state : {state : Record} → state ≡ grown made piece → state ≡ (added r piece).state
    unfolding added
    added_state q = rw (e, q, m) refl

module _ (r : Record) (part : List ℕ) where
  module _ {x : Refusal} (e : close_tested r (length part) ≡ Err x) where
    pub closing_refused : Err x ≡ both_of (closing r part).result.answer (closing r part).result.blocks
    unfolding closing
    closing_refused = rw e refl

    pub closing_left : r ≡ (closing r part).result.state
    unfolding closing
    closing_left = sym (old_stays (close_tested r (length part)) _ r e)

    pub closing_part : part ≡ (closing r part).part
    unfolding closing
    closing_part = sym (old_stays (close_tested r (length part)) _ part e)

  module _ (e : close_tested r (length part) ≡ Ok tt) {made : Record} (m : made ≡ current r) {c : Closed} {state : Record} {next : List ℕ} (d : ClosedDay made part c state next) where
    pub closing_done : Ok c ≡ both_of (closing r part).result.answer (closing r part).result.blocks
    unfolding closing
    closing_done = rw (e, d.result_is, m) refl

    pub closing_state : state ≡ (closing r part).result.state
    unfolding closing
    closing_state = rw (e, d.state_is, m) refl

    pub closing_written : next ≡ (closing r part).part
    unfolding closing
    closing_written =
        let w = rw m at d.part_is in
        front_stands (close_tested r (length part)) (day_bytes (current r)) part next (32 * day_count (current r)) e (omega (arith, w.count)) w.list

-- ---- the number of each answer is the refusal's

pub opened_number : (s n f : ℕ) → number_of (opened s n f).answer ≡ setup_refusal s n f
unfolding opened
opened_number s n f = refl

pub added_number : (r : Record) (piece : List ℕ) → number_of (added r piece).answer ≡ add_refusal r (length piece)
unfolding added
added_number r piece = refl

pub closing_number : (r : Record) (part : List ℕ) → number_of (closing r part).result.answer ≡ close_refusal r (length part)
unfolding closing
closing_number r part = number_answered (close_tested r (length part)) (day_count (current r))

-- ---- the values of a close that is not refused, and of one that is

count_refused : (t : Result Unit Refusal) (k : ℕ) {x : ℕ} → number_of t ≡ suc x → count_of (answered t k) ≡ 0
count_refused (Ok u) k e = absurd (omega arith)
count_refused (Err r) k e = refl

module _ (r : Record) (part : List ℕ) where
  pub closing_taken : close_refusal r (length part) ≡ 0 → count_of (closing r part).result.answer ≡ day_count (current r)
  unfolding closing
  closing_taken e = rw (number_passed (close_tested r (length part)) e) refl

  pub closing_none : {x : ℕ} → close_refusal r (length part) ≡ suc x → count_of (closing r part).result.answer ≡ 0
  unfolding closing
  closing_none e = count_refused (close_tested r (length part)) (day_count (current r)) e

-- ---- what a call that is not refused returns

pub added_ok : (r : Record) (piece : List ℕ) → add_refusal r (length piece) ≡ 0 → answered (added r piece).answer (added r piece).blocks ≡ Ok (added r piece).blocks
unfolding added
added_ok r piece e = rw (number_passed (add_tested r (length piece)) e) refl

pub closing_ok : (r : Record) (part : List ℕ) → close_refusal r (length part) ≡ 0 →
    both_of (closing r part).result.answer (closing r part).result.blocks ≡
    Ok (record { values = count_of (closing r part).result.answer; blocks = (closing r part).result.blocks })
unfolding closing
closing_ok r part e = rw (number_passed (close_tested r (length part)) e) refl

-- ---- what a call that returned a value, or a refusal, leaves

pub both_ok : (a : Result ℕ Refusal) (b : ℕ) {c : Closed} → both_of a b ≡ Ok c → (a ≡ Ok c.values) × (c.blocks ≡ b)
both_ok (Ok k) b e = let q = value_is e refl in (ap (λ (x : Closed). Ok x.values) (sym q), ap (λ (x : Closed). x.blocks) q)
both_ok (Err r) b e = absurd (not_both e refl)

pub both_err : (a : Result ℕ Refusal) (b : ℕ) {r : Refusal} → both_of a b ≡ Err r → a ≡ Err r
both_err (Ok k) b e = absurd (not_both refl e)
both_err (Err x) b e = ap cause_of e
  where
    cause_of : Result Closed Refusal → Result ℕ Refusal
    cause_of (Ok y) = Ok 0
    cause_of (Err y) = Err y

-- ---- what functions of the code are proved by

pub ruleset open_laws = (opened_refused, opened_done)

pub ruleset add_laws = (add_early, bytes_within, add_4, add_passed)

pub ruleset close_laws = (close_8, close_passed)
