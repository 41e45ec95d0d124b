-- Laws of the ends of days, and of the refusals 9 and 10.
use mathlib.Core.{Path.◌≡◌, Path.refl, Logic.inl, Logic.inr, Bool.true, Bool.false, Bool.◌&&◌}
use mathlib.Core.Path.{sym, ap}
use mathlib.Core.List.{List}
use Prim.Native.Nat.{ℕ, zero, suc, ◌+◌, ◌-◌, ◌≤◌, ◌<◌}
use native.Mathlib.{Nat.eq-or-lt_of_le, Nat.le_refl, Numerals.add-one, Omega.arith}
use lib.{Dec.leb, ListN.length, ListN.take, Seq.get_or-take, Seq.take_all, Seq.length-take-le}
use borrow.Author.Tests.{leb-true, leb-false, le-leb, lt-leb}
use Rattle.std.specs.Prelude.{Ok, Err}
use Rattle.refusals.specs.Refusals.{day_limit, number_of}
use Rattle.refusals.specs.declared.Refusal.TheVariants as cause
use Rattle.lists.proofs.Laws.{split, true_or_false, and_both}
use Rattle.refusals.proofs.TestLaws.{none_fails}
use Rattle.ledger.specs.Ledger.{start_of, end_of, good_end, good_ends, ends_tests, ends_tested, ends_refusal}
use Rattle.ledger.specs.Private.{EndsHold}

-- ---- one end

-- what the test of one end says
pub good_end_lem : (s e size : ℕ) → good_end s e size ≡ true → (s ≤ e) × (e ≤ size) × (e - s ≤ day_limit)
good_end_lem s e size h =
    let b = and_both (leb s e && leb e size) (leb (e - s) day_limit) h in
    let a = and_both (leb s e) (leb e size) b.0 in
    (leb-true s e a.0, leb-true e size a.1, leb-true (e - s) day_limit b.1)

pub end_good : (s e size : ℕ) → s ≤ e → e ≤ size → e - s ≤ day_limit → good_end s e size ≡ true
end_good s e size p q r = rw (le-leb s e p, le-leb e size q, le-leb (e - s) day_limit r)

-- ---- the first d ends

-- the test of the first d ends is the test of each
pub good_at : (d : ℕ) (ends : List ℕ) (size i : ℕ) → good_ends d ends size ≡ true → i < d → good_end (start_of ends i) (end_of ends i) size ≡ true
good_at zero ends size i h l = absurd (omega arith)
good_at (suc d) ends size i h l =
    let b = and_both (good_ends d ends size) (good_end (start_of ends d) (end_of ends d) size) h in
    elim (eq-or-lt_of_le l) [ inl e ↦ let q : i ≡ d = omega arith in rw q b.1 | inr m ↦ good_at d ends size i b.0 (omega arith) ]

pub at_good : (d : ℕ) (ends : List ℕ) (size : ℕ) → ((i : ℕ) → i < d → good_end (start_of ends i) (end_of ends i) size ≡ true) → good_ends d ends size ≡ true
at_good zero ends size f = refl
at_good (suc d) ends size f = rw (at_good d ends size (λ i l. f i (omega arith)), f d (omega arith))

-- one more end that is good
pub good_more : (ends : List ℕ) (size i : ℕ) → good_ends i ends size ≡ true → good_end (start_of ends i) (end_of ends i) size ≡ true → good_ends (i + 1) ends size ≡ true
good_more ends size i p q = rw (add-one, p, q)

-- one that is not, among the first d
pub bad_at : (d : ℕ) (ends : List ℕ) (size i : ℕ) → i < d → good_end (start_of ends i) (end_of ends i) size ≡ false → good_ends d ends size ≡ false
bad_at d ends size i l e = elim (split (good_ends d ends size)) [ inl h ↦ absurd (true_or_false (good_at d ends size i h l) e) | inr h ↦ h ]

-- ---- the tests

pub few_ends : (d : ℕ) (ends : List ℕ) (size : ℕ) → length ends < d → Err cause.FewEnds ≡ ends_tested d ends size
unfolding ends_tested
few_ends d ends size l = rw (lt-leb d (length ends) l) refl

pub bad_end : (d : ℕ) (ends : List ℕ) (size i : ℕ) → d ≤ length ends → i < d → good_end (start_of ends i) (end_of ends i) size ≡ false → Err cause.BadEnd ≡ ends_tested d ends size
unfolding ends_tested
bad_end d ends size i m l e = rw (le-leb d (length ends) m, bad_at d ends size i l e) refl

pub all_good : (d : ℕ) (ends : List ℕ) (size i : ℕ) → good_ends i ends size ≡ true → i ≡ d → d ≤ length ends → Ok tt ≡ ends_tested d ends size
unfolding ends_tested
all_good d ends size i e q m = rw (le-leb d (length ends) m, ← q, e) refl

-- what the test of the ends goes by
pub ruleset end_tests = (good_more, few_ends, bad_end, all_good)

-- ---- no refusal

-- there are d ends, and each of the first d is good
pub refusal_none : (d : ℕ) (ends : List ℕ) (size : ℕ) → ends_refusal d ends size ≡ 0 → EndsHold d ends size
unfolding ends_tested
refusal_none d ends size e =
    let t = none_fails (ends_tests d ends size) e in
    let g : (i : ℕ) → i < d → (start_of ends i ≤ end_of ends i) × (end_of ends i ≤ size) × (end_of ends i - start_of ends i ≤ day_limit) =
    λ i l. good_end_lem (start_of ends i) (end_of ends i) size (good_at d ends size i t.1.0 l) in
    record { enough = leb-true d (length ends) t.0; ascend = λ i l. (g i l).0; within = λ i l. (g i l).1; limited = λ i l. (g i l).2 }

pub none_refusal : (d : ℕ) (ends : List ℕ) (size : ℕ) → EndsHold d ends size → ends_refusal d ends size ≡ 0
none_refusal d ends size h =
    ap number_of
    (sym (all_good d ends size d
    (at_good d ends size (λ i l. end_good (start_of ends i) (end_of ends i) size (h.ascend i l) (h.within i l) (h.limited i l))) refl h.enough))

-- ---- starts

-- starts ascend
pub start_ascends : (d : ℕ) (ends : List ℕ) → ((i : ℕ) → i < d → start_of ends i ≤ end_of ends i) → (i : ℕ) → i ≤ d → start_of ends i ≤ start_of ends d
start_ascends zero ends a i l = let e : i ≡ 0 = omega arith in rw e (omega arith)
start_ascends (suc d) ends a i l = elim (eq-or-lt_of_le l) [
  | inl e ↦ rw e (le_refl (start_of ends (suc d)))
  | inr m ↦ let p = start_ascends d ends (λ k n. a k (omega arith)) i (omega arith) in let q = a d (omega arith) in omega arith
]

-- ---- what is read

pub start_front : (d : ℕ) (ends : List ℕ) (i : ℕ) → i ≤ d → start_of (take d ends) i ≡ start_of ends i
start_front d ends zero l = refl
start_front d ends (suc i) l = get_or-take d ends i 0 l

good_front : (d : ℕ) (ends : List ℕ) (size k : ℕ) → k ≤ d → good_ends k (take d ends) size ≡ good_ends k ends size
good_front d ends size zero l = refl
good_front d ends size (suc k) l =
    let m : k ≤ d = omega arith in
    rw (good_front d ends size k m, start_front d ends k m, get_or-take d ends k 0 l)

read_enough : (d : ℕ) (ends : List ℕ) (size : ℕ) → d ≤ length ends → ends_refusal d ends size ≡ ends_refusal d (take d ends) size
unfolding ends_tested
read_enough d ends size l =
    let m : d ≤ length (take d ends) = rw (length-take-le d ends l) (le_refl d) in
    rw (le-leb d (length ends) l, le-leb d (length (take d ends)) m, good_front d ends size d (le_refl d))

-- the refusal looks at the first d ends only
pub refusal_read : (d : ℕ) (ends : List ℕ) (size : ℕ) → ends_refusal d ends size ≡ ends_refusal d (take d ends) size
refusal_read d ends size = elim (split (leb d (length ends))) [
  | inl e ↦ read_enough d ends size (leb-true d (length ends) e)
  | inr e ↦ let l = leb-false d (length ends) e in rw (take_all d ends (omega arith))
]
