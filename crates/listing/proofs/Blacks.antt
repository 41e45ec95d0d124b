-- Scheme 1: all days from the first interval on whose black fails are listed, and no other.
use mathlib.Core.{Path.◌≡◌, Path.refl, Path.ap, Path.◌∙◌, Bool.Bool, Bool.true, Bool.false, Bool.not, Bool.◌||◌, List.List, List.[]}
use Rattle.std.proofs.Common.{ℕ, zero, suc, pred, ◌+◌, ◌-◌, ◌*◌, ◌/◌, ◌<◌, ◌≤◌}
use native.Mathlib.{Nat.le-div_iff_mul-le, Nat.div-lt_iff_lt-mul, Nat.add-zero, Nat.add-suc, Nat.mul-pos, Numerals.add-one, Omega.arith}
use Rattle.lists.specs.Lists.{up_from, keep}
use Rattle.lists.proofs.Laws.{up_from_mem, up_from_bounds, up_from-append, keep_append, every_at, true_or_false}
use Rattle.evidence.specs.Evidence.{days}
use Rattle.layouts.specs.Layouts.{black}
use Rattle.layouts.proofs.AllowedLaws.{allowed_n_is}
use Rattle.acceptance.specs.Private.{Table, passes, prior, block_rule, rules, end_of, is_listed}
use Rattle.acceptance.proofs.{Runs.keep_all, Runs.keep_none, Runs.divides_multiple, Runs.div_whole, Runs.days_bounds, Given.prior_next, Listed.rule_at, Listed.is_listed_1, Steps.interval_end}
use Rattle.listing.specs.Private.{black_passes, FirstFailed}

only_if : (a b : Bool) → not a || b ≡ true → b ≡ false → a ≡ false
only_if true b e f = absurd (true_or_false e f)
only_if false b e f = refl

module _ (n d : ℕ) (t : List ℕ) (T : Table 1 n d t) (r : rules 1 n d t ≡ true) where
  some : 1 ≤ n
  some = (allowed_n_is n T.n_ok).some

  -- no black passes after one that fails
  stays : (k i : ℕ) → suc (k + i) ≤ d / n → passes 1 n t (black (suc k * n)) ≡ false → passes 1 n t (black (suc (k + i) * n)) ≡ false
  unfolding block_rule
  stays k zero l f = rw add-zero f
  stays k (suc i) l f =
      let e : k + suc i ≡ suc (k + i) = add-suc k i in
      let p = stays k i (omega arith) f in
      let b = rule_at 1 n d t some r (suc (k + i))
      (record { some = mul-pos (omega arith) some; most = interval_end n d (suc (suc (k + i))) (omega arith); whole = divides_multiple (suc (suc (k + i))) n some }) in
      rw e (only_if (passes 1 n t (black (suc (suc (k + i)) * n))) (prior 1 n t (suc (suc (k + i)) * n)) b (prior_next 1 n (k + i) t some ∙ p))

  module _ (k : ℕ) (F : FirstFailed n d t k) where
    within : k * n ≤ d
    within = interval_end n d k F.few

    none_before : keep (is_listed 1 n t) (days (k * n)) ≡ []
    unfolding black_passes
    none_before = keep_none (is_listed 1 n t) (days (k * n)) (λ g m.
        let b = days_bounds (k * n) g m in
        let l : pred g / n < k = (div-lt_iff_lt-mul {x = pred g} {y = k} some).1 (omega arith) in
        let p : passes 1 n t (black (end_of n g)) ≡ true = every_at (black_passes n t) {g = suc (pred g / n)} {xs = up_from 1 k}
        (up_from_mem 1 k (suc (pred g / n)) (omega arith) (omega arith)) F.pass in
        is_listed_1 n t g ∙ ap not p)

    all_after : keep (is_listed 1 n t) (up_from (suc (k * n)) (d - k * n)) ≡ up_from (suc (k * n)) (d - k * n)
    unfolding black_passes
    all_after = keep_all (is_listed 1 n t) (up_from (suc (k * n)) (d - k * n)) (λ g m.
        let b = up_from_bounds (suc (k * n)) (d - k * n) g m in
        let w = div_whole n d T.whole in
        let l : k ≤ pred g / n = (le-div_iff_mul-le some).1 (omega arith) in
        let h : pred g / n < d / n = (div-lt_iff_lt-mul {x = pred g} {y = d / n} some).1 (omega (arith, within)) in
        let e : k + (pred g / n - k) ≡ pred g / n = omega arith in
        let f : passes 1 n t (black (suc k * n)) ≡ false = rw add-one at (F.fails (omega arith)) in
        let p : passes 1 n t (black (end_of n g)) ≡ false = rw e at (stays k (pred g / n - k) (omega arith) f) in
        is_listed_1 n t g ∙ ap not p)

    pub black_run : keep (is_listed 1 n t) (days d) ≡ up_from (k * n + 1) (d + 1 - (k * n + 1))
    black_run =
        let e : d ≡ k * n + (d - k * n) = omega (arith, within) in
        let f : 1 + k * n ≡ suc (k * n) = omega arith in
        let h : k * n + 1 ≡ suc (k * n) = omega arith in
        let g : d + 1 - suc (k * n) ≡ d - k * n = omega arith in
        ap (λ x. keep (is_listed 1 n t) (up_from 1 x)) e ∙ ap (keep (is_listed 1 n t)) (up_from-append 1 (k * n) (d - k * n)) ∙
        keep_append (is_listed 1 n t) (days (k * n)) (up_from (1 + k * n) (d - k * n)) ∙ rw (f, none_before, all_after, h, g)
