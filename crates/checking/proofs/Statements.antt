-- The statements of specs/Statements.antt, proved.
use mathlib.Core.Path.{◌≡◌, refl, sym, ap, ap₂, ◌∙◌}
use mathlib.Core.Logic.{◌↔◌}
use mathlib.Core.Bool.{Bool, true, false, cond}
use mathlib.Core.List.{List, [], ◌∷◌, ◌++◌}
use Prim.Native.Nat.{ℕ, zero, suc, ◌+◌, ◌-◌, ◌*◌, ◌≤◌, ◌<◌}
use native.Mathlib.Nat.{le_trans}
use native.Mathlib.Omega.{arith}
use lib.ListN.{length, get_or, take, drop, length-take, get_or-append}
use lib.Seq.{take-take, take-nil, drop-drop}
use Rattle.lists.specs.Lists.{same}
use Rattle.lists.proofs.Laws.{enough_read, bool_ext, same_eq, same_refl, true_or_false}
use Rattle.evidence.specs.Evidence.{value, check_outcomes}
use Rattle.std.specs.Prelude.{Result, Ok, Err}
use Rattle.refusals.specs.declared.Refusal.{Refusal}
use Rattle.refusals.specs.Refusals.{day_limit, first_refusal, number_of, front_written}
use Rattle.refusals.proofs.TestLaws.{passed_number, same_refusal, same_tested, old_stays}
use Rattle.layouts.specs.Layouts.{layout_tests, chains}
use Rattle.ledger.specs.Ledger.{start_of, end_of, good_ends, ends_tests, ends_tested, days_of}
use Rattle.ledger.specs.Private.{EndsHold}
use Rattle.ledger.proofs.EndLaws.{good_at, at_good, good_end_lem, end_good, refusal_read, start_ascends}
use Rattle.ledger.proofs.DayLaws.{days_read}
use Rattle.sha256.specs.Sha256.{sha256}
use Rattle.chains.specs.Book.{start}
use Rattle.checking.specs.Contract.{room_tests, check_tested, check_refusal, digests_of, outcomes_of, Checked, checked}
use Rattle.checking.specs.Statements.{PassesIfStored, ReadsOnly}
use Rattle.checking.proofs.RefusalLaws.{check_ready}
use Rattle.checking.proofs.Through.{outcomes_length}

-- ---- the outcomes

-- the outcome at a place compares the value at that place
outcome_at : (first : List ℕ) (L cs : List (List ℕ)) (book : List ℕ) (i : ℕ) → i < length cs →
    get_or (check_outcomes sha256 first L cs book) i 0 ≡ cond (same (take 32 (drop (32 * i) book)) (value sha256 first L (get_or cs i []))) 1 0
outcome_at first L [] book i h = absurd (omega arith)
outcome_at first L (c ∷ cs) book zero h = refl
outcome_at first L (c ∷ cs) book (suc i) h =
    let e : 32 + 32 * i ≡ 32 * suc i = omega arith in
    outcome_at first L cs (drop 32 book) i (omega arith) ∙
    ap (λ (b : List ℕ). cond (same (take 32 b) (value sha256 first L (get_or cs i []))) 1 0) (drop-drop (32 * i) 32 book ∙ ap (λ (k : ℕ). drop k book) e)

-- 1 exactly if two lists are equal, 0 exactly if not
compares : (xs ys : List ℕ) (o : ℕ) → o ≡ cond (same xs ys) 1 0 → ((o ≡ 1) ↔ (xs ≡ ys)) × ((o ≡ 0) ↔ (xs ≡ ys → ⊥))
compares xs ys o e = go (same xs ys) refl
  where
    go : (b : Bool) → same xs ys ≡ b → ((o ≡ 1) ↔ (xs ≡ ys)) × ((o ≡ 0) ↔ (xs ≡ ys → ⊥))
    go true h =
        let one : o ≡ 1 = e ∙ rw h in
        ((λ q. same_eq xs ys h, λ q. one), (λ q. absurd (omega arith), λ n. absurd (n (same_eq xs ys h))))
    go false h =
        let none : o ≡ 0 = e ∙ rw h in
        let differ : xs ≡ ys → ⊥ = λ q. true_or_false (rw q (same_refl ys)) h in
        ((λ q. absurd (omega arith), λ q. absurd (differ q)), (λ q. differ, λ n. none))

pub passes_if_stored : PassesIfStored
unfolding checked outcomes_of
passes_if_stored s n f d ledger ends book work outcomes done i h =
    let t = check_tested s n f d ends (length ledger) (length book) (length work) (length outcomes) in
    let r = number_of t in
    let O = outcomes_of s n d ledger ends book in
    let z : r ≡ 0 = passed_number t done in
    let l = outcomes_length s n d ledger ends book in
    let at : get_or (front_written r O outcomes) i 0 ≡ get_or O i 0 = rw z (get_or-append O (drop (length O) outcomes) 0 i (omega arith)) in
    compares (take 32 (drop (32 * i) book)) (value sha256 (start s n) (days_of ledger ends d) (get_or (chains s n d) i []))
    (get_or (front_written r O outcomes) i 0) (at ∙ outcome_at (start s n) (days_of ledger ends d) (chains s n d) book i h)

-- ---- what is read

-- the outcomes: of the needed front of the book

drop_take_add : (a k : ℕ) (l : List ℕ) → drop a (take (a + k) l) ≡ take k (drop a l)
drop_take_add zero k l = let e : 0 + k ≡ k = omega arith in rw e
drop_take_add (suc a) k [] = let e : suc a + k ≡ suc (a + k) = omega arith in rw e (sym (take-nil k))
drop_take_add (suc a) k (x ∷ l) = let e : suc a + k ≡ suc (a + k) = omega arith in rw e (drop_take_add a k l)

front_read : (first : List ℕ) (L cs : List (List ℕ)) (book : List ℕ) → check_outcomes sha256 first L cs book ≡ check_outcomes sha256 first L cs (take (32 * length cs) book)
front_read first L [] book = refl
front_read first L (c ∷ cs) book =
    let k : 32 * suc (length cs) ≡ 32 + 32 * length cs = omega arith in
    ap₂ (λ (b r : List ℕ). cond (same b (value sha256 first L c)) 1 0 ∷ r) (sym (take-take 32 (32 * suc (length cs)) book (omega arith)))
    (front_read first L cs (drop 32 book) ∙ ap (check_outcomes sha256 first L cs) (sym (ap (λ (x : ℕ). drop 32 (take x book)) k ∙ drop_take_add 32 (32 * length cs) book)))

-- the refusal: of the ledger up to end d

take_most : (k : ℕ) (l : List ℕ) → (length (take k l) ≤ k) × (length (take k l) ≤ length l) × ((m : ℕ) → m ≤ k → m ≤ length l → m ≤ length (take k l))
take_most k l = let e = length-take k l in (omega arith, omega arith, λ m p q. omega arith)

ends_read : (d : ℕ) (ends ledger : List ℕ) → good_ends d ends (length ledger) ≡ good_ends d ends (length (take (start_of ends d) ledger))
ends_read d ends ledger = bool_ext (good_ends d ends L) (good_ends d ends M) forth back
  where
    L : ℕ
    L = length ledger

    M : ℕ
    M = length (take (start_of ends d) ledger)

    most : (M ≤ start_of ends d) × (M ≤ L) × ((m : ℕ) → m ≤ start_of ends d → m ≤ L → m ≤ M)
    most = take_most (start_of ends d) ledger

    at : (size : ℕ) → good_ends d ends size ≡ true → (i : ℕ) → i < d → (start_of ends i ≤ end_of ends i) × (end_of ends i ≤ size) × (end_of ends i - start_of ends i ≤ day_limit)
    at size e i l = good_end_lem (start_of ends i) (end_of ends i) size (good_at d ends size i e l)

    forth : good_ends d ends L ≡ true → good_ends d ends M ≡ true
    forth e =
        at_good d ends M
        (λ i l.
        let g = at L e i l in
        end_good (start_of ends i) (end_of ends i) M g.0 (most.2 (end_of ends i) (start_ascends d ends (λ k m. (at L e k m).0) (suc i) l) g.1) g.2)

    back : good_ends d ends M ≡ true → good_ends d ends L ≡ true
    back e =
        at_good d ends L
        (λ i l. let g = at M e i l in end_good (start_of ends i) (end_of ends i) L g.0 (le_trans g.1 most.1) g.2)

ends_refusal_read : (d : ℕ) (ends ledger : List ℕ) → first_refusal (ends_tests d ends (length ledger)) ≡ first_refusal (ends_tests d (take d ends) (length (take (start_of ends d) ledger)))
unfolding ends_tested
ends_refusal_read d ends ledger = rw (ends_read d ends ledger) (refusal_read d ends (length (take (start_of ends d) ledger)))

module _ (s n f d : ℕ) (ledger ends book work outcomes : List ℕ) where
  abbrev front : List ℕ
  front = take (32 * length (chains s n d)) book

  abbrev read : List ℕ
  read = take (start_of ends d) ledger

  refusal_same : check_refusal s n f d ends (length ledger) (length book) (length work) (length outcomes) ≡ check_refusal s n f d (take d ends) (length read) (length front) (length work)
      (length outcomes)
  unfolding check_tested
  refusal_same =
      same_refusal (layout_tests s n f d) (layout_tests s n f d) (ends_tests d ends (length ledger) ++ room_tests s n d (length book) (length work) (length outcomes))
      (ends_tests d (take d ends) (length read) ++ room_tests s n d (length front) (length work) (length outcomes)) refl
      (same_refusal (ends_tests d ends (length ledger)) (ends_tests d (take d ends) (length read)) (room_tests s n d (length book) (length work) (length outcomes))
      (room_tests s n d (length front) (length work) (length outcomes)) (ends_refusal_read d ends ledger) (rw (enough_read (32 * length (chains s n d)) book)))

  written_same : EndsHold d ends (length ledger) →
      (digests_of ledger ends d ≡ digests_of read (take d ends) d) × (outcomes_of s n d ledger ends book ≡ outcomes_of s n d read (take d ends) front)
  unfolding digests_of outcomes_of
  written_same h =
      let e = days_read ledger ends d (length ledger) h in
      (rw (← e), front_read (start s n) (days_of ledger ends d) (chains s n d) book ∙ rw (← e))

abbrev leaves : Result Unit Refusal → List ℕ → List ℕ → List ℕ → List ℕ → Checked
leaves answer digests found work outcomes =
    record { answer = answer; work = front_written (number_of answer) digests work; outcomes = front_written (number_of answer) found outcomes }

-- a refusal leaves the same, whatever was to be written
same_left : (t : Result Unit Refusal) (r : Refusal) (a b x y work outcomes : List ℕ) → t ≡ Err r → leaves t a b work outcomes ≡ leaves t x y work outcomes
same_left t r a b x y work outcomes e =
    ap₂ (λ (u v : List ℕ). record { answer = t; work = u; outcomes = v })
    (old_stays t (a ++ drop (length a) work) work e ∙ sym (old_stays t (x ++ drop (length x) work) work e))
    (old_stays t (b ++ drop (length b) outcomes) outcomes e ∙ sym (old_stays t (y ++ drop (length y) outcomes) outcomes e))

pub reads_only : ReadsOnly
unfolding checked
reads_only s n f d ledger ends book work outcomes =
    let t = check_tested s n f d ends (length ledger) (length book) (length work) (length outcomes) in
    go t refl ∙
    ap (λ (r : Result Unit Refusal). leaves r (digests_of (take (start_of ends d) ledger) (take d ends) d) (outcomes_of s n d (take (start_of ends d) ledger) (take d ends) (take (32 * length (chains s n d)) book)) work
    outcomes)
    (same_tested t _ (refusal_same s n f d ledger ends book work outcomes))
  where
    go : (r : Result Unit Refusal) → check_tested s n f d ends (length ledger) (length book) (length work) (length outcomes) ≡ r →
        leaves r (digests_of ledger ends d) (outcomes_of s n d ledger ends book) work outcomes ≡
        leaves r (digests_of (take (start_of ends d) ledger) (take d ends) d) (outcomes_of s n d (take (start_of ends d) ledger) (take d ends) (take (32 * length (chains s n d)) book)) work outcomes
    go (Ok u) e =
        let w = written_same s n f d ledger ends book work outcomes (check_ready s n f d ends (length ledger) (length book) (length work) (length outcomes) (passed_number _ e)).ends_hold in
        ap₂ (λ (x y : List ℕ). leaves (Ok u) x y work outcomes) w.0 w.1
    go (Err r) e = same_left (Err r) r _ _ _ _ work outcomes refl
