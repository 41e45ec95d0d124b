-- From the code to the figures: refusals, powers, sums over sets; a tile read by any call.
use mathlib.Core.{Path.◌≡◌, Path.refl, Path.sym, Path.ap, Path.◌∙◌, Logic.inl, Logic.inr}
use mathlib.Core.Bool.{true, false, ◌&&◌, cond, and-false}
use Prim.Native.Nat.{ℕ, zero, suc, ◌+◌, ◌-◌, ◌*◌, ◌/◌, ◌^◌, ◌≤◌, ◌<◌}
use native.Mathlib.{Nat.pow-le-pow_left, Nat.pow-le-pow_right, Nat.mul-le-mul, Decide.dec_le, Omega.arith}
use lib.{Dec.leb, Pow.pow-lt}
use borrow.Author.Tests.{le-leb, lt-leb, leb-true}
use Rattle.lists.proofs.Laws.{split, and_both}
use Rattle.std.specs.Prelude.{Ok, Err}
use Rattle.refusals.specs.Refusals.{number_of}
use Rattle.refusals.specs.declared.Refusal.{Refusal}
use Rattle.refusals.specs.declared.Refusal.TheVariants as cause
use Rattle.refusals.proofs.TestLaws.{none_fails, not_both, number_answered, passed_number}
use Rattle.layouts.specs.Layouts.{allowed_n, lg, setup_tested}
use Rattle.layouts.proofs.AllowedLaws.{allowed_n_is}
use Rattle.ambiguity.specs.Ambiguity.{sets, listed, count_tests, count_tested, count_refusal, counted}
use Rattle.ambiguity.specs.Statements.{SaysNotCounted}
use Rattle.ambiguity.specs.Private.{Countable, Tuples, of_tuples}
use Rattle.ambiguity.proofs.Figures.{BySums, listed_sums, sets_sums}

-- ---- refusals

module _ (n k : ℕ) where
  by_n : setup_tested 2 n 1 ≡ cond (allowed_n n) (Ok tt) (Err cause.BadN)
  unfolding setup_tested
  by_n = refl

  pub n_refused : {r : Refusal} → setup_tested 2 n 1 ≡ Err r → Err r ≡ count_tested n k
  unfolding count_tested
  n_refused e = elim (split (allowed_n n)) [
    | inl q ↦ let h : setup_tested 2 n 1 ≡ Ok tt = by_n ∙ rw q refl in absurd (not_both h e)
    | inr q ↦ rw q (sym e ∙ by_n ∙ rw q refl)
  ]

  pub n_allowed : setup_tested 2 n 1 ≡ Ok tt → allowed_n n ≡ true
  n_allowed e = elim (split (allowed_n n)) [
    | inl q ↦ q
    | inr q ↦ let h : setup_tested 2 n 1 ≡ Err cause.BadN = by_n ∙ rw q refl in absurd (not_both e h)
  ]

  module _ (ok : allowed_n n ≡ true) where
    not_counted : leb n 64 && (leb 1 k && leb k 3) ≡ false → Err cause.BadCount ≡ count_tested n k
    unfolding count_tested
    not_counted q = rw (ok, q) refl

    pub large_refused : 64 < n → Err cause.BadCount ≡ count_tested n k
    large_refused l = not_counted (rw (lt-leb n 64 l) refl)

    pub none_refused : k ≡ 0 → Err cause.BadCount ≡ count_tested n k
    none_refused q = not_counted (rw q (and-false (leb n 64)))

    pub many_refused : 3 < k → Err cause.BadCount ≡ count_tested n k
    many_refused l = not_counted (rw (lt-leb k 3 l, and-false (leb 1 k)) (and-false (leb n 64)))

    pub count_passed : n ≤ 64 → (k ≡ 0 → ⊥) → k ≤ 3 → Ok tt ≡ count_tested n k
    unfolding count_tested
    count_passed a b c = rw (ok, le-leb n 64 a, le-leb 1 k (omega arith), le-leb k 3 c) refl

    pub not_refused : n ≤ 64 → (k ≡ 0 → ⊥) → k ≤ 3 → 0 ≡ count_refusal n k
    not_refused a b c = ap number_of (count_passed a b c)

  pub countable : count_refusal n k ≡ 0 → Countable n k
  unfolding count_tested
  countable e =
      let p = none_fails (count_tests n k) e in
      let q = and_both (leb n 64) (leb 1 k && leb k 3) p.1.0 in
      let r = and_both (leb 1 k) (leb k 3) q.1 in
      record { n_ok = p.0; small = leb-true n 64 q.0; some = leb-true 1 k r.0; most = leb-true k 3 r.1 }

  pub passed_countable : count_tested n k ≡ Ok tt → Countable n k
  passed_countable e = countable (passed_number (count_tested n k) e)

  pub counted_refused : {r : Refusal} → count_tested n k ≡ Err r → Err r ≡ counted n k
  unfolding counted
  counted_refused e = rw e refl

  pub counted_done : {s l : ℕ} → count_tested n k ≡ Ok tt → s ≡ sets n k → l ≡ listed n k → Ok (record { sets = s; listed = l }) ≡ counted n k
  unfolding counted
  counted_done e a b = rw (e, a, b) refl

pub ruleset count_laws = (n_refused, n_allowed, large_refused, none_refused, many_refused, count_passed)

pub ruleset counted_laws = (passed_countable, counted_refused, counted_done)

number_is : (n k : ℕ) → number_of (counted n k) ≡ count_refusal n k
unfolding counted
number_is n k = number_answered (count_tested n k) (record { sets = sets n k; listed = listed n k })

refused_2 : (n k : ℕ) → allowed_n n ≡ false → count_refusal n k ≡ 2
unfolding count_tested
refused_2 n k e = rw e refl

pub says_not_counted : SaysNotCounted
says_not_counted n k = (
  λ e. let r : count_refusal n k ≡ 21 = sym (number_is n k) ∙ e in elim (split (allowed_n n)) [
    | inr q ↦ absurd (omega (arith, refused_2 n k q))
    | inl q ↦ (
      q,
      elim (dec_le n 64) [
        | no h ↦ inl (omega arith)
        | yes h ↦ inr (elim (dec_le 1 k) [
          | no l ↦ inl (omega arith)
          | yes l ↦ inr (elim (dec_le k 3) [ no m ↦ omega arith | yes m ↦ absurd (omega (arith, not_refused n k q h (λ z. absurd (omega arith)) m)) ])
        ])
      ],
    )
  ],
  λ p. number_is n k ∙ sym (elim p.1 [
    | inl l ↦ ap number_of (large_refused n k p.0 l)
    | inr m ↦ elim m [ inl z ↦ ap number_of (none_refused n k p.0 z) | inr l ↦ ap number_of (many_refused n k p.0 l) ]
  ]),
)

-- ---- powers

lg_small : (n k : ℕ) → Countable n k → lg n ≤ 6
lg_small n k c = elim (dec_le (lg n) 6) [
  | yes h ↦ h
  | no h ↦ let p = pow-lt {i = 6} {j = lg n} (omega arith) in let w = (allowed_n_is n c.n_ok).power in absurd (omega (arith, c.small))
]

pub exponent_small : (n k : ℕ) {m : ℕ} → Countable n k → m ≡ lg n → m ≤ 6
exponent_small n k c e = rw e (lg_small n k c)

pub power_small : (n k b : ℕ) {m : ℕ} → Countable n k → m ≡ lg n → b ≤ 15 → b ^ m < 2 ^ 32
power_small n k b {m} c e h =
    let a = pow-le-pow_left h m in
    let d = pow-le-pow_right {n = 15} (omega arith) {i = m} {j = 6} (exponent_small n k c e) in
    omega arith

pub n_some : (n k : ℕ) → Countable n k → 1 ≤ n
n_some n k c = (allowed_n_is n c.n_ok).some

-- ---- sums over sets

pub of_1 : (k one two three : ℕ) → k ≡ 1 → one ≡ of_tuples k one two three
unfolding of_tuples
of_1 k one two three e = rw e

pub of_2 : (k one two three : ℕ) → k ≡ 2 → (two - one) / 2 ≡ of_tuples k one two three
unfolding of_tuples
of_2 k one two three e = rw e

pub of_3 : (k one two three : ℕ) → 1 ≤ k → (k ≡ 1 → ⊥) → (k ≡ 2 → ⊥) → (three + 2 * one - 3 * two) / 6 ≡ of_tuples k one two three
unfolding of_tuples
of_3 zero one two three a b c = absurd (omega arith)
of_3 (suc zero) one two three a b c = absurd (b refl)
of_3 (suc (suc zero)) one two three a b c = absurd (c refl)
of_3 (suc (suc (suc k))) one two three a b c = refl

pub ruleset tuple_laws = (of_1, of_2, of_3)

of_sums : (f : ℕ → ℕ) (k one two three : ℕ) → BySums f one two three → 1 ≤ k → k ≤ 3 → of_tuples k one two three ≡ f k
unfolding of_tuples
of_sums f zero one two three s a b = absurd (omega arith)
of_sums f (suc zero) one two three s a b = sym s.single
of_sums f (suc (suc zero)) one two three s a b = omega (arith, s.pair)
of_sums f (suc (suc (suc zero))) one two three s a b = omega (arith, s.pair, s.triple)
of_sums f (suc (suc (suc (suc k)))) one two three s a b = absurd (omega arith)

sums_tuples : (f : ℕ → ℕ) (one two three : ℕ) → BySums f one two three → three ≤ 16777216 → Tuples one two three
sums_tuples f one two three s h = record { pairs = f 2; triples = f 3; two_is = s.pair; three_is = s.triple; small = h }

module _ (n k : ℕ) (c : Countable n k) where
  square_small : n * n ≤ 4096
  square_small = mul-le-mul c.small c.small

  pub cube_small : (n * n ≤ 4096) × (n * n * n ≤ 262144)
  cube_small = (square_small, mul-le-mul square_small c.small)

  pub sets_tuples : Tuples n (n * n) (n * n * n)
  sets_tuples = sums_tuples (sets n) n (n * n) (n * n * n) (sets_sums n) (omega (arith, cube_small.1))

  pub sets_of : {r : ℕ} → r ≡ of_tuples k n (n * n) (n * n * n) → r ≡ sets n k
  sets_of e = e ∙ of_sums (sets n) k n (n * n) (n * n * n) (sets_sums n) c.some c.most

  module _ {m a b d : ℕ} (l : m ≡ lg n) (p : a ≡ 3 ^ m) (q : b ≡ 7 ^ m) (r : d ≡ 15 ^ m) where
    powers : BySums (listed n) a b d
    powers = rw (p, q, r, l) (listed_sums n c.n_ok)

    pub listed_tuples : Tuples a b d
    listed_tuples =
        sums_tuples (listed n) a b d powers
        (rw (r, l) (let h = pow-le-pow_right {n = 15} (omega arith) {i = lg n} {j = 6} (lg_small n k c) in omega arith))

    pub listed_of : {x : ℕ} → x ≡ of_tuples k a b d → x ≡ listed n k
    listed_of e = e ∙ of_sums (listed n) k a b d powers c.some c.most
