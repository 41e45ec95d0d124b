-- Laws of the tests of a call: the first that fails, none that fails; and of what a refusal leaves.
use mathlib.Core.{Path.◌≡◌, Path.refl, Path.sym, Path.ap, Path.◌∙◌, Bool.Bool, Bool.true, Bool.false, Bool.not, Bool.◌&&◌}
use mathlib.Core.List.{List, [], ◌∷◌, ◌++◌}
use Prim.Native.Nat.{ℕ, zero, suc, pred}
use native.Mathlib.{Decide.ℕ_discrete, Omega.arith}
use borrow.Author.Tests.{not-true, not-false, eq-eqb}
use lib.{Dec.eqb, ListN.length, ListN.drop, ListN.get_or}
use Rattle.std.specs.Prelude.{Result, Ok, Err, is_err}
use Rattle.lists.proofs.Laws.{true_or_false, and_both}
use Rattle.refusals.specs.declared.Refusal.{Refusal}
use Rattle.refusals.specs.declared.Refusal.TheVariants as cause
use Rattle.refusals.specs.Refusals.{Test, ◌or_refuse◌, number, number_of, tested, first_refusal, answered, unless_refused, front_written}

-- a test by the answer that a function gave
pub passed : {r x : Bool} → r ≡ x → not r ≡ false → x ≡ true
passed {r} e f = sym e ∙ not-false r f

pub failed : {r x : Bool} → r ≡ x → not r ≡ true → x ≡ false
failed {r} e f = sym e ∙ not-true r f

-- each test passes
abbrev pub Pass : List Test → Type 0
Pass [] = Unit {0}
Pass (passes or_refuse refusal ∷ tests) = (passes ≡ true) × Pass tests

-- no cause has the number 0
pub number_some : (r : Refusal) → number r ≡ 0 → ⊥
number_some cause.BadScheme e = omega arith
number_some cause.BadN e = omega arith
number_some cause.BadF e = omega arith
number_some cause.LongDay e = omega arith
number_some cause.LastSeasonFull e = omega arith
number_some cause.BadRecord e = omega arith
number_some cause.BadD e = omega arith
number_some cause.ShortBuffer e = omega arith
number_some cause.FewEnds e = omega arith
number_some cause.BadEnd e = omega arith
number_some cause.ShortBook e = omega arith
number_some cause.FewOutcomes e = omega arith
number_some cause.BadOutcome e = omega arith
number_some cause.NoSet e = omega arith
number_some cause.BadText e = omega arith
number_some cause.FewLengths e = omega arith
number_some cause.LongLength e = omega arith
number_some cause.NotInBook e = omega arith
number_some cause.BadPassed e = omega arith
number_some cause.NotTree e = omega arith
number_some cause.BadCount e = omega arith

-- a number says its cause
causes : List Refusal
causes =
    cause.BadScheme ∷
    cause.BadN ∷
    cause.BadF ∷
    cause.LongDay ∷
    cause.LastSeasonFull ∷
    cause.BadRecord ∷
    cause.BadD ∷
    cause.ShortBuffer ∷
    cause.FewEnds ∷
    cause.BadEnd ∷
    cause.ShortBook ∷
    cause.FewOutcomes ∷
    cause.BadOutcome ∷
    cause.NoSet ∷
    cause.BadText ∷
    cause.FewLengths ∷
    cause.LongLength ∷
    cause.NotInBook ∷
    cause.BadPassed ∷
    cause.NotTree ∷
    cause.BadCount ∷
    []

at_cause : (r : Refusal) → get_or causes (pred (number r)) cause.BadScheme ≡ r
unfolding causes
at_cause cause.BadScheme = refl
at_cause cause.BadN = refl
at_cause cause.BadF = refl
at_cause cause.LongDay = refl
at_cause cause.LastSeasonFull = refl
at_cause cause.BadRecord = refl
at_cause cause.BadD = refl
at_cause cause.ShortBuffer = refl
at_cause cause.FewEnds = refl
at_cause cause.BadEnd = refl
at_cause cause.ShortBook = refl
at_cause cause.FewOutcomes = refl
at_cause cause.BadOutcome = refl
at_cause cause.NoSet = refl
at_cause cause.BadText = refl
at_cause cause.FewLengths = refl
at_cause cause.LongLength = refl
at_cause cause.NotInBook = refl
at_cause cause.BadPassed = refl
at_cause cause.NotTree = refl
at_cause cause.BadCount = refl

pub number_same : (a b : Refusal) → number a ≡ number b → a ≡ b
number_same a b e = sym (at_cause a) ∙ ap (λ (x : ℕ). get_or causes (pred x) cause.BadScheme) e ∙ at_cause b

-- ---- none fails

pub none_fails : (tests : List Test) → first_refusal tests ≡ 0 → Pass tests
none_fails [] e = tt
none_fails (true or_refuse refusal ∷ tests) e = (refl, none_fails tests e)
none_fails (false or_refuse refusal ∷ tests) e = absurd (number_some refusal e)

pub all_pass : (tests : List Test) → Pass tests → tested tests ≡ Ok tt
all_pass [] p = refl
all_pass (passes or_refuse refusal ∷ tests) p = rw p.0 (all_pass tests p.1)

pub no_refusal : (tests : List Test) → Pass tests → first_refusal tests ≡ 0
no_refusal tests p = rw (all_pass tests p)

-- ---- the first that fails

pub first_fails : (before : List Test) (refusal : Refusal) (after : List Test) → Pass before → tested (before ++ (false or_refuse refusal ∷ after)) ≡ Err refusal
first_fails [] refusal after p = refl
first_fails (passes or_refuse x ∷ before) refusal after p = rw p.0 (first_fails before refusal after p.1)

-- ---- some tests, then others

pub pass_split : (a b : List Test) → Pass (a ++ b) → Pass a × Pass b
pass_split [] b p = (tt, p)
pass_split (passes or_refuse refusal ∷ a) b p = let q = pass_split a b p.1 in ((p.0, q.0), q.1)

pub pass_both : (a b : List Test) → Pass a → Pass b → Pass (a ++ b)
pass_both [] b p q = q
pass_both (passes or_refuse refusal ∷ a) b p q = (p.0, pass_both a b p.1 q)

-- a value is no refusal
pub not_both : {A : Type 0} {r : Refusal} {value : A} {a : Result A Refusal} → a ≡ Ok value → a ≡ Err r → ⊥
not_both {A} {r} {value} {a} e f = number_some r (sym (ap number_of (sym e ∙ f)))

pub refused_before : (a b : List Test) {r : Refusal} → tested a ≡ Err r → tested (a ++ b) ≡ Err r
refused_before [] b e = absurd (not_both refl e)
refused_before (true or_refuse x ∷ a) b e = refused_before a b e
refused_before (false or_refuse x ∷ a) b e = e

pub passed_before : (a b : List Test) {u : Unit {0}} → tested a ≡ Ok u → tested (a ++ b) ≡ tested b
passed_before [] b e = refl
passed_before (true or_refuse x ∷ a) b e = passed_before a b e
passed_before (false or_refuse x ∷ a) b e = absurd (not_both e refl)

-- ---- the same by numbers

pub number_before : (a b : List Test) → (first_refusal a ≡ 0 → ⊥) → first_refusal (a ++ b) ≡ first_refusal a
number_before [] b h = absurd (h refl)
number_before (true or_refuse x ∷ a) b h = number_before a b h
number_before (false or_refuse x ∷ a) b h = refl

pub number_after : (a b : List Test) → first_refusal a ≡ 0 → first_refusal (a ++ b) ≡ first_refusal b
number_after [] b e = refl
number_after (true or_refuse x ∷ a) b e = number_after a b e
number_after (false or_refuse x ∷ a) b e = absurd (number_some x e)

-- a number that no test has is not said: computed for the tests of a call
abbrev pub unsaid : ℕ → List Test → Bool
unsaid x [] = true
unsaid x (passes or_refuse refusal ∷ tests) = not (eqb (number refusal) x) && unsaid x tests

pub never_said : (x : ℕ) (tests : List Test) → unsaid x tests ≡ true → (x ≡ 0 → ⊥) → first_refusal tests ≡ x → ⊥
never_said x [] k h e = h (sym e)
never_said x (true or_refuse r ∷ tests) k h e = never_said x tests (and_both (not (eqb (number r) x)) (unsaid x tests) k).1 h e
never_said x (false or_refuse r ∷ tests) k h e = true_or_false (and_both (not (eqb (number r) x)) (unsaid x tests) k).0 (rw (eq-eqb (number r) x e))

-- a last test that passes says nothing
pub last_nothing : (r : Refusal) (a : List Test) → first_refusal (a ++ (true or_refuse r ∷ [])) ≡ first_refusal a
last_nothing r [] = refl
last_nothing r (true or_refuse x ∷ a) = last_nothing r a
last_nothing r (false or_refuse x ∷ a) = refl

-- tests whose parts find the same find the same
pub same_refusal : (a b c e : List Test) → first_refusal a ≡ first_refusal b → first_refusal c ≡ first_refusal e → first_refusal (a ++ c) ≡ first_refusal (b ++ e)
same_refusal a b c e p q = elim (ℕ_discrete (first_refusal a) 0) [
  | yes z ↦ number_after a c z ∙ q ∙ sym (number_after b e (sym p ∙ z))
  | no h ↦ number_before a c h ∙ p ∙ sym (number_before b e (λ z. h (p ∙ z)))
]

pub same_tested : (a b : Result Unit Refusal) → number_of a ≡ number_of b → a ≡ b
same_tested (Ok u) (Ok w) e = refl
same_tested (Ok u) (Err r) e = absurd (number_some r (sym e))
same_tested (Err r) (Ok u) e = absurd (number_some r e)
same_tested (Err r) (Err x) e = ap (λ (y : Refusal). Err y) (number_same r x e)

-- ---- what a call answers and leaves, by what its tests said

-- the number of an answer is that of its tests
pub number_answered : {A : Type 0} (t : Result Unit Refusal) (value : A) → number_of (answered t value) ≡ number_of t
number_answered (Ok u) value = refl
number_answered (Err r) value = refl

pub passed_number : {u : Unit {0}} (t : Result Unit Refusal) → t ≡ Ok u → number_of t ≡ 0
passed_number t e = rw e

pub number_passed : (t : Result Unit Refusal) → number_of t ≡ 0 → t ≡ Ok tt
number_passed (Ok u) e = refl
number_passed (Err r) e = absurd (number_some r e)

pub number_stays : {A : Type 0} (x : ℕ) (new old : A) → (x ≡ 0 → ⊥) → unless_refused x new old ≡ old
number_stays zero new old h = absurd (h refl)
number_stays (suc x) new old h = refl

pub old_stays : {A : Type 0} {r : Refusal} (t : Result Unit Refusal) (new old : A) → t ≡ Err r → unless_refused (number_of t) new old ≡ old
old_stays {r = r} (Ok u) new old e = absurd (not_both refl e)
old_stays {r = r} (Err x) new old e = number_stays (number x) new old (number_some x)

pub new_stands : {A : Type 0} {u : Unit {0}} (t : Result Unit Refusal) (new old : A) → t ≡ Ok u → unless_refused (number_of t) new old ≡ new
new_stands t new old e = rw e

pub front_stands : {u : Unit {0}} (t : Result Unit Refusal) (new buffer next : List ℕ) (k : ℕ) → t ≡ Ok u → length new ≡ k →
    next ≡ new ++ drop k buffer → next ≡ front_written (number_of t) new buffer
front_stands t new buffer next k e l q = rw (e, l) q

-- a test of what tests said
pub no_err : (t : Result Unit Refusal) → is_err t ≡ false → t ≡ Ok tt
no_err (Ok u) e = refl
no_err (Err r) e = absurd (true_or_false refl e)

pub some_err : (t : Result Unit Refusal) → is_err t ≡ true → number_of t ≡ 0 → ⊥
some_err (Ok u) e z = true_or_false e refl
some_err (Err r) e z = number_some r z

-- two values of one answer are the same
pub value_is : {A : Type 0} {answer : Result A Refusal} {a b : A} → answer ≡ Ok a → answer ≡ Ok b → a ≡ b
value_is {A} {answer} {a} {b} e f = ap value (sym e ∙ f)
  where
    value : Result A Refusal → A
    value (Ok x) = x
    value (Err r) = a

-- a value that is answered, and a refusal
pub answered_ok : {A : Type 0} (t : Result Unit Refusal) (value : A) {k : A} → answered t value ≡ Ok k → (t ≡ Ok tt) × (k ≡ value)
answered_ok (Ok u) value e = (refl, sym (value_is refl e))
answered_ok (Err r) value e = absurd (not_both e refl)

pub answered_err : {A : Type 0} (t : Result Unit Refusal) (value : A) {r : Refusal} → answered t value ≡ Err r → t ≡ Err r
answered_err (Ok u) value e = absurd (not_both refl e)
answered_err {A} (Err x) value e = ap cause_of e
  where
    cause_of : Result A Refusal → Result Unit Refusal
    cause_of (Ok y) = Ok tt
    cause_of (Err y) = Err y
