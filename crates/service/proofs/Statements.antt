-- What is proved of add and close beside their contracts.
use mathlib.Core.Path.{◌≡◌, refl, ap}
use mathlib.Core.Logic.{◌↔◌, inl, inr}
use mathlib.Core.Bool.{Bool, true, false}
use mathlib.Core.List.{List, [], ◌∷◌, ◌++◌}
use Prim.Native.Nat.{ℕ, ◌+◌, ◌*◌}
use native.Mathlib.Omega.{arith}
use lib.Dec.{leb, ltb}
use lib.ListN.{length}
use borrow.Author.Tests.{le-ltb, ltb-true, ltb-false}
use Rattle.lists.proofs.Laws.{split, true_or_false}
use Rattle.refusals.specs.Refusals.{book_limit, day_limit, last_season, ◌or_refuse◌, number, first_refusal}
use Rattle.refusals.specs.declared.Refusal.{Refusal}
use Rattle.refusals.specs.declared.Refusal.TheVariants as cause
use Rattle.service.specs.declared.Record.{Record}
use Rattle.service.specs.Contract.{allowed_record, turns, current, record_tests, add_tested, grown_blocks, added}
use Rattle.service.specs.Contract.{day_count, close_tested, closed_blocks, closing}
use Rattle.service.specs.Statements.{LastFull, SaysLastFull, RefusedHasNoBlocks}
use Rattle.refusals.proofs.TestLaws.{old_stays}
use Rattle.service.proofs.RecordLaws.{allowed_is, turns_full, stays_last, current_same, current_days}

module _ (r : Record) where
  -- at the last season's end, and nowhere else, no day is left
  day_none : allowed_record r ≡ true → ltb (current r).days book_limit ≡ false → LastFull r
  day_none a e =
      let w = allowed_is r a in
      let h = ltb-false (current r).days book_limit e in
      elim (split (turns r)) [
        | inl t ↦ absurd (let z = current_days r t in omega (arith, z))
        | inr t ↦
            let d = ap (λ (q : Record). q.days) (current_same r refl t) in
            elim (split (ltb r.season last_season)) [
              | inl l ↦ absurd (true_or_false (turns_full r (omega (arith, d)) (ltb-true r.season last_season l)) t)
              | inr l ↦
                  let s = ltb-false r.season last_season l in
                  record { allowed = a; last = omega (arith, w.season_most); full = omega (arith, d, w.days_most) }
            ]
      ]

  last_none : LastFull r → ltb (current r).days book_limit ≡ false
  last_none f =
      let d = ap (λ (q : Record). q.days) (current_same r refl (stays_last r (omega (arith, f.last)))) in
      le-ltb (current r).days book_limit (omega (arith, d, f.full))

  -- whatever the last test is, if its number is another
  five_told : (b : Bool) (x : Refusal) → (number x ≡ 5 → ⊥) → (first_refusal (record_tests r ++ (b or_refuse x ∷ [])) ≡ 5) ↔ LastFull r
  five_told b x other = (
    λ e. elim (split (allowed_record r)) [
      | inl a ↦ elim (split (ltb (current r).days book_limit)) [
        | inl l ↦ absurd (passed b (rw (a, l) at e))
        | inr l ↦ day_none a l
      ]
      | inr a ↦ absurd (let z : ◌≡◌ {A = ℕ} 6 5 = rw a at e in omega arith)
    ],
    λ f. rw (f.allowed, last_none f),
  )
    where
      passed : (b : Bool) → first_refusal (b or_refuse x ∷ []) ≡ 5 → ⊥
      passed true e = let z : ◌≡◌ {A = ℕ} 0 5 = e in omega arith
      passed false e = other e

pub says_last_full : SaysLastFull
unfolding add_tested close_tested
says_last_full r size = (
  five_told r (leb ((current r).bytes + size) day_limit) cause.LongDay (λ e. omega arith),
  five_told r (leb (32 * day_count (current r)) size) cause.ShortBuffer (λ e. omega arith),
)

pub refused_has_no_blocks : RefusedHasNoBlocks
unfolding added closing
refused_has_no_blocks r lent x = (
  λ e. old_stays (add_tested r (length lent)) (grown_blocks (current r) lent) 0 e,
  λ e. old_stays (close_tested r (length lent)) (closed_blocks (current r)) 0 e,
)
