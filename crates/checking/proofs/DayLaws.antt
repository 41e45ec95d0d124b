-- What a day gives, from the running hashes with the day linked.
use mathlib.Core.Path.{◌≡◌, sym, ap, ap₂, ◌∙◌}
use mathlib.Core.List.{List, ◌++◌}
use Prim.Native.Nat.{ℕ, ◌*◌, ◌≤◌}
use native.Mathlib.Omega.{arith}
use lib.{ListN.length, ListN.take, ListN.drop, ListN.replicate}
use Rattle.layouts.specs.Layouts.{names_of_day}
use Rattle.chains.specs.declared.Value.{Value}
use Rattle.chains.specs.declared.DayStep.{DayStep}
use Rattle.chains.specs.Step.{start_value, linked, day_values}
use Rattle.chains.specs.Private.{DayLinked}
use Rattle.chains.proofs.Slots.{black_kept}
use Rattle.chains.proofs.Values.{day_few, day_quiet, quiet_values, black_values, first_are}
use Rattle.comparing.specs.Private.{compared}
use Rattle.checking.specs.Private.{State, DayReady, black_alone, linked_of, after, compared_day}

-- the room that the day's values and their outcomes need
pub day_fits : {r : State} {g size places k : ℕ} → DayReady r g size places → k ≡ length (names_of_day r.scheme r.n g) → (k ≤ 17) × (32 * k ≤ size) × (k ≤ places)
day_fits {r} {g} p e =
    let w = day_few r.scheme r.n g p.scheme_ok p.n_ok p.some p.most in
    (omega (arith, e, w), omega (arith, e, p.book_long), omega (arith, e, p.outcomes_long))

-- the first k of seventeen values
module _ (values : List Value) {k : ℕ} (n : length values ≡ 17) (m : k ≤ 17) where
  pub first_fit : {size places : ℕ} → (32 * k ≤ size) × (k ≤ places) → (32 * length (take k values) ≤ size) × (length (take k values) ≤ places)
  first_fit f = rw (← first_are values n m) f

  pub first_compared : (book outs : List ℕ) {o : List ℕ} → o ≡ compared (take k values) book ++ drop (length (take k values)) outs → o ≡ compared (take k values) book ++ drop k outs
  first_compared book outs e = e ∙ ap (λ (x : ℕ). compared (take k values) book ++ drop x outs) (sym (first_are values n m))

-- ---- black and the slots

module _ (r : State) (g : ℕ) (h : List ℕ) (d : DayStep) (e : DayLinked r.scheme r.n g r.black r.slots h d) where
  pub quiet_after : d.count ≡ 0 → 1 ≤ g → record { scheme = r.scheme; n = r.n; start = r.start; black = d.black; slots = d.slots } ≡ after r g h
  quiet_after z p =
      ap₂ {C = State} (λ b l. record { scheme = r.scheme; n = r.n; start = r.start; black = b; slots = l }) e.black_is
      (day_quiet r.scheme r.n g r.start r.black r.slots h d e z p)

  pub day_compared : (book outs : List ℕ) (values : List Value) {o : List ℕ} → take d.count values ≡ day_values r.scheme r.n g d.black d.slots →
      o ≡ compared (take d.count values) book ++ drop d.count outs → o ≡ compared_day r g h book ++ drop d.count outs
  day_compared book outs values q w =
      w ∙ ap (λ (l : List Value). compared l book ++ drop d.count outs) (q ∙ ap₂ (day_values r.scheme r.n g) e.black_is e.slots_are)

  pub quiet_compared : (book outs : List ℕ) → d.count ≡ 0 → outs ≡ compared_day r g h book ++ drop d.count outs
  unfolding compared
  quiet_compared book outs z =
      let q = quiet_values r.scheme r.n g (linked r.black h) (linked_of r g h) (sym e.count_is ∙ z) in
      rw (z, q)

-- ---- black alone

module _ (n g : ℕ) (b : Value) (h : List ℕ) {v : Value} (ev : v ≡ linked b h) where
  pub black_after : black_alone n v ≡ after (black_alone n b) g h
  black_after =
      ap₂ {C = State} (λ x l. record { scheme = 1; n = n; start = start_value 1 n; black = x; slots = l }) ev
      (black_kept n g (start_value 1 n) h (replicate 17 (start_value 1 n)))

  module _ (book outs : List ℕ) {k : ℕ} (ek : k ≡ length (names_of_day 1 n g)) where
    pub black_compared : {o : List ℕ} → o ≡ compared (take k (replicate 17 v)) book ++ drop k outs → o ≡ compared_day (black_alone n b) g h book ++ drop k outs
    black_compared eo =
        eo ∙ ap (λ (l : List Value). compared l book ++ drop k outs)
        (ap₂ (λ (x : ℕ) (y : Value). take x (replicate 17 y)) ek ev ∙ sym (black_values n g (linked b h) (linked_of (black_alone n b) g h)))

    pub black_quiet : k ≡ 0 → outs ≡ compared_day (black_alone n b) g h book ++ drop k outs
    unfolding compared
    black_quiet z = black_compared (rw z)
