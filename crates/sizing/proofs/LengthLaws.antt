-- Laws of the days' lengths, of the refusals 16 and 17, and of the blocks forecast.
use mathlib.Core.Path.{◌≡◌, refl, sym, ap, ◌∙◌}
use mathlib.Core.Bool.{Bool, true, false}
use mathlib.Core.List.{List, [], ◌∷◌, ◌++◌}
use Prim.Native.Nat.{ℕ, zero, suc, ◌+◌, ◌*◌, ◌^◌, ◌≤◌, ◌<◌}
use native.Mathlib.Omega.{arith}
use lib.ListN.{length, get_or, take}
use lib.Seq.{get_or-take, take_all}
use borrow.Author.Tests.{leb-true, le-leb, lt-leb}
use Rattle.lists.specs.Lists.{every}
use Rattle.lists.proofs.Laws.{bool_ext, and_both}
use Rattle.refusals.specs.Refusals.{book_limit, day_limit}
use Rattle.std.specs.Prelude.{Ok, Err}
use Rattle.refusals.specs.Refusals.{tested}
use Rattle.refusals.specs.declared.Refusal.{Refusal}
use Rattle.refusals.specs.declared.Refusal.TheVariants as cause
use Rattle.refusals.proofs.TestLaws.{none_fails, no_refusal, pass_split, refused_before, passed_before, number_after, number_passed, passed_number}
use Rattle.layouts.specs.Layouts.{allowed_scheme, allowed_n, layout_tests, layout_tested, layout_refusal, chains}
use Rattle.layouts.proofs.AllowedLaws.{layout_asks, chains_few}
use Rattle.chains.specs.Step.{links_of}
use Rattle.chains.proofs.BlockLaws.{links_most}
use Rattle.sizing.specs.Sizing.{day_blocks, blocks_through, short_day, lengths_tests, lengths_tested, sizing_tested, sizing_refusal, forecasted}

-- ---- the first d lengths

pub short_at : (d : ℕ) (l : List ℕ) (i : ℕ) → every short_day (take d l) ≡ true → i < d → get_or l i 0 ≤ day_limit
short_at zero l i h m = absurd (omega arith)
short_at (suc d) [] i h m = omega arith
short_at (suc d) (x ∷ l) zero h m = leb-true x day_limit (and_both (short_day x) (every short_day (take d l)) h).0
short_at (suc d) (x ∷ l) (suc i) h m = short_at d l i (and_both (short_day x) (every short_day (take d l)) h).1 (omega arith)

pub all_short : (l : List ℕ) (r : Bool) → (r ≡ true → (i : ℕ) → i < length l → get_or l i 0 ≤ day_limit) → (((i : ℕ) → i < length l → get_or l i 0 ≤ day_limit) → r ≡ true) → r ≡ every short_day l
all_short l r f g = bool_ext r (every short_day l) (λ e. each l (f e)) (λ e. g (λ i m. short_at (length l) l i (rw (take_all (length l) l (omega arith)) e) m))
  where
    each : (l : List ℕ) → ((i : ℕ) → i < length l → get_or l i 0 ≤ day_limit) → every short_day l ≡ true
    each [] h = refl
    each (x ∷ l) h = rw (le-leb x day_limit (h 0 (omega arith))) (each l (λ i m. h (suc i) (omega arith)))

-- ---- the tests

pub lengths_16 : (d : ℕ) (l : List ℕ) → length l < d → Err cause.FewLengths ≡ lengths_tested d l
unfolding lengths_tested
lengths_16 d l m = rw (lt-leb d (length l) m) refl

pub lengths_17 : (d : ℕ) (l : List ℕ) → d ≤ length l → every short_day (take d l) ≡ false → Err cause.LongLength ≡ lengths_tested d l
unfolding lengths_tested
lengths_17 d l enough h = rw (le-leb d (length l) enough, h) refl

pub lengths_short : (d : ℕ) (l : List ℕ) → d ≤ length l → every short_day (take d l) ≡ true → Ok tt ≡ lengths_tested d l
unfolding lengths_tested
lengths_short d l enough h = rw (le-leb d (length l) enough, h) refl

-- what the test of the lengths goes by
pub ruleset length_tests = (lengths_16, lengths_17, lengths_short)

module _ (s n f d : ℕ) (l : List ℕ) where
  pub sizing_early : {r : Refusal} → layout_tested s n f d ≡ Err r → Err r ≡ sizing_tested s n f d l
  unfolding layout_tested sizing_tested
  sizing_early e = sym (refused_before (layout_tests s n f d) (lengths_tests d l) e)

  pub sizing_late : layout_tested s n f d ≡ Ok tt → lengths_tested d l ≡ sizing_tested s n f d l
  unfolding layout_tested lengths_tested sizing_tested
  sizing_late e = sym (passed_before (layout_tests s n f d) (lengths_tests d l) e)

  -- what no refusal says
  pub record Passed : Type 0 where
    pub layout : layout_refusal s n f d ≡ 0
    pub enough : d ≤ length l
    pub short : every short_day (take d l) ≡ true

  pub sizing_passes : sizing_tested s n f d l ≡ Ok tt → Passed
  unfolding layout_tested sizing_tested
  sizing_passes e =
      let all = layout_tests s n f d ++ lengths_tests d l in
      let p = pass_split (layout_tests s n f d) (lengths_tests d l) (none_fails all (passed_number (tested all) e)) in
      record { layout = no_refusal (layout_tests s n f d) p.0; enough = leb-true d (length l) p.1.0; short = p.1.1.0 }

  pub passes_sizing : Passed → sizing_refusal s n f d l ≡ 0
  unfolding layout_tested sizing_tested
  passes_sizing p =
      number_after (layout_tests s n f d) (lengths_tests d l) p.layout ∙ rw (le-leb d (length l) p.enough, p.short) refl

  -- ---- what forecast gives

  module _ (e : sizing_tested s n f d l ≡ Ok tt) where
    pub sizing_asks : (allowed_scheme s ≡ true) × (allowed_n n ≡ true) × (d ≤ book_limit)
    sizing_asks = layout_asks s n f d (number_passed (layout_tested s n f d) (sizing_passes e).layout)

    pub blocks_ask : (allowed_n n ≡ true) × (d ≤ book_limit) × (d ≤ length l) × (every short_day (take d l) ≡ true)
    blocks_ask = let p = sizing_passes e in (sizing_asks.1, sizing_asks.2, p.enough, p.short)

    pub values_few : {v : ℕ} → v ≡ length (chains s n d) → 32 * v < 2 ^ 32
    values_few h = omega (arith, h, chains_few s n d sizing_asks.0 sizing_asks.1 sizing_asks.2)

    pub forecast_sized : {v b : ℕ} → v ≡ length (chains s n d) → b ≡ blocks_through s n l d →
        Ok (record { values = v; bytes = 32 * v; blocks = b }) ≡ forecasted s n f d l
    unfolding forecasted
    forecast_sized q k = rw (e, q, k) refl

  pub forecast_refused : {r : Refusal} → sizing_tested s n f d l ≡ Err r → Err r ≡ forecasted s n f d l
  unfolding forecasted
  forecast_refused e = rw e refl

pub ruleset sizing_laws = (sizing_early, sizing_late)

pub ruleset forecast_laws = (sizing_asks, blocks_ask, values_few, forecast_sized, forecast_refused)

-- ---- blocks

-- a day of the limit takes 262,145 and 36 for its links
day_most : (s n g b : ℕ) → b ≤ day_limit → day_blocks b + 2 * links_of s n g ≤ 262181
day_most s n g b m = omega (arith, links_most s n g)

pub blocks_most : (s n : ℕ) (l : List ℕ) (d : ℕ) → every short_day (take d l) ≡ true → (i : ℕ) → i ≤ d → blocks_through s n l i ≤ i * 262181
blocks_most s n l d h zero m = omega arith
blocks_most s n l d h (suc i) m = omega (arith, blocks_most s n l d h i (omega arith), day_most s n (suc i) (get_or l i 0) (short_at d l i h m))

-- what the loop over the days adds up stays small
pub record Small (sum own k : ℕ) : Type 0 where
  pub sum_most : sum ≤ 17182294016
  pub own_most : own ≤ 262145
  pub links_few : k ≤ 18

pub loop_small : (s n : ℕ) (l : List ℕ) (d i : ℕ) {sum own k : ℕ} → every short_day (take d l) ≡ true → d ≤ book_limit → i < d → sum ≡ blocks_through s n l i →
    own ≡ day_blocks (get_or l i 0) → k ≡ links_of s n (i + 1) → Small sum own k
loop_small s n l d i {sum} {own} {k} h m o e eo ek =
    let a = blocks_most s n l d h i (omega arith) in
    let b : get_or l i 0 ≤ day_limit = short_at d l i h o in
    record {
      sum_most = omega (arith, a, e);
      own_most = omega (arith, eo, b);
      links_few = omega (arith, ek, links_most s n (i + 1));
    }

-- the first d lengths are all that counts
pub blocks_front : (s n : ℕ) (l m : List ℕ) (d : ℕ) → take d l ≡ take d m → (i : ℕ) → i ≤ d → blocks_through s n l i ≡ blocks_through s n m i
blocks_front s n l m d e zero o = refl
blocks_front s n l m d e (suc i) o =
    let q : get_or l i 0 ≡ get_or m i 0 = sym (get_or-take d l i 0 o) ∙ ap (λ (x : List ℕ). get_or x i 0) e ∙ get_or-take d m i 0 o in
    rw (blocks_front s n l m d e i (omega arith), q)
