-- Tests 6 and 5 of a record: what they say, and which of them refuses; the turn to the next season.
use mathlib.Core.Path.{◌≡◌, refl, sym, ap, ◌∙◌}
use mathlib.Core.Logic.{inl, inr}
use Rattle.std.specs.Prelude.{Ok, Err, is_err}
use mathlib.Core.Bool.{Bool, true, false, ◌&&◌, ◌||◌, cond}
use Prim.Native.Nat.{ℕ, ◌≤◌, ◌<◌}
use native.Mathlib.Omega.{arith}
use lib.Dec.{eqb, leb, ltb}
use lib.ListN.{length}
use borrow.Author.Tests.{leb-true, le-leb, lt-leb, ltb-true, ltb-false, lt-ltb, le-ltb, eqb-true, eq-eqb}
use Rattle.lists.proofs.Laws.{split, and_both, or_split}
use Rattle.refusals.specs.Refusals.{book_limit, day_limit, last_season, tested}
use Rattle.refusals.specs.declared.Refusal.TheVariants as cause
use Rattle.refusals.proofs.TestLaws.{none_fails, no_refusal, no_err, some_err, passed_number, number_passed}
use Rattle.hasher.specs.Hasher.{rest, filled, onward, begun}
use Rattle.layouts.specs.Layouts.{allowed_scheme, allowed_n, allowed_f, setup_tests, setup_tested, setup_refusal, chains}
use Rattle.layouts.proofs.AllowedLaws.{setup_is}
use Rattle.service.specs.declared.Record.{Record}
use Rattle.service.specs.Contract.{at_start, allowed_record, turns, turned, current, record_tests, written_so_far}
use Rattle.service.specs.Private.{record_tested, Open}

-- ---- test 6

pub record Allowed (r : Record) : Type 0 where
  pub setup : setup_refusal r.scheme r.n r.f ≡ 0
  pub days_most : r.days ≤ book_limit
  pub bytes_most : r.bytes ≤ day_limit
  pub season_most : r.season ≤ last_season
  pub full_empty : book_limit ≤ r.days → r.bytes ≡ 0

pub allowed_is : (r : Record) → allowed_record r ≡ true → Allowed r
unfolding setup_tested
allowed_is r e =
    let s = allowed_scheme r.scheme in
    let n = allowed_n r.n in
    let f = allowed_f r.scheme r.f in
    let d = leb r.days book_limit in
    let b = leb r.bytes day_limit in
    let t = leb r.season last_season in
    let o = ltb r.days book_limit || eqb r.bytes 0 in
    let p₆ = and_both (s && n && f && d && b && t) o e in
    let p₅ = and_both (s && n && f && d && b) t p₆.0 in
    let p₄ = and_both (s && n && f && d) b p₅.0 in
    let p₃ = and_both (s && n && f) d p₄.0 in
    let p₂ = and_both (s && n) f p₃.0 in
    let p₁ = and_both s n p₂.0 in
    record {
      setup = no_refusal (setup_tests r.scheme r.n r.f) (p₁.0, (p₁.1, (p₂.1, tt)));
      days_most = leb-true r.days book_limit p₃.1;
      bytes_most = leb-true r.bytes day_limit p₄.1;
      season_most = leb-true r.season last_season p₅.1;
      full_empty = λ h. elim (or_split (ltb r.days book_limit) (eqb r.bytes 0) p₆.1) [
        | inl l ↦ absurd (let w = ltb-true r.days book_limit l in omega arith)
        | inr z ↦ eqb-true r.bytes 0 z
      ];
    }

-- with all limits tested, the last test decides
module _ (r : Record) (z : is_err (setup_tested r.scheme r.n r.f) ≡ false) (d : r.days ≤ book_limit) (b : r.bytes ≤ day_limit) (t : r.season ≤ last_season) where
  last_decides : (ltb r.days book_limit || eqb r.bytes 0) ≡ allowed_record r
  last_decides =
      let u = setup_is r.scheme r.n r.f (passed_number (setup_tested r.scheme r.n r.f) (no_err (setup_tested r.scheme r.n r.f) z)) in
      rw (u.scheme_ok, u.n_ok, u.f_ok, le-leb r.days book_limit d, le-leb r.bytes day_limit b, le-leb r.season last_season t)

  pub allowed_before : r.days < book_limit → true ≡ allowed_record r
  allowed_before l = ap (λ (y : Bool). y || eqb r.bytes 0) (sym (lt-ltb r.days book_limit l)) ∙ last_decides

  pub before_decides : r.days < book_limit → ltb r.days book_limit ≡ allowed_record r
  before_decides l = lt-ltb r.days book_limit l ∙ allowed_before l

  pub allowed_full : book_limit ≤ r.days → eqb r.bytes 0 ≡ allowed_record r
  allowed_full l = ap (λ (y : Bool). y || eqb r.bytes 0) (sym (le-ltb r.days book_limit l)) ∙ last_decides

set_up : {r : Record} → Allowed r → is_err (setup_tested r.scheme r.n r.f) ≡ false
set_up {r} a = rw (number_passed (setup_tested r.scheme r.n r.f) a.setup) refl

pub is_allowed : (r : Record) → Allowed r → allowed_record r ≡ true
is_allowed r a = elim (split (ltb r.days book_limit)) [
  | inl l ↦ sym (allowed_before r (set_up a) a.days_most a.bytes_most a.season_most (ltb-true r.days book_limit l))
  | inr l ↦
      let full = ltb-false r.days book_limit l in
      sym (allowed_full r (set_up a) a.days_most a.bytes_most a.season_most full) ∙ eq-eqb r.bytes 0 (a.full_empty full)
]

pub not_allowed : (r : Record) → (Allowed r → ⊥) → false ≡ allowed_record r
not_allowed r h = go (allowed_record r) refl
  where
    go : (b : Bool) → allowed_record r ≡ b → false ≡ b
    go true e = absurd (h (allowed_is r e))
    go false e = refl

module _ (r : Record) where
  pub setup_refused : is_err (setup_tested r.scheme r.n r.f) ≡ true → allowed_record r ≡ false
  setup_refused h = sym (not_allowed r (λ a. some_err (setup_tested r.scheme r.n r.f) h a.setup))

  pub days_refused : book_limit < r.days → allowed_record r ≡ false
  days_refused h = sym (not_allowed r (λ a. omega (arith, a.days_most)))

  pub bytes_refused : day_limit < r.bytes → allowed_record r ≡ false
  bytes_refused h = sym (not_allowed r (λ a. omega (arith, a.bytes_most)))

  pub season_refused : last_season < r.season → allowed_record r ≡ false
  season_refused h = sym (not_allowed r (λ a. omega (arith, a.season_most)))

pub ruleset test_6 = (before_decides, allowed_full, setup_refused, days_refused, bytes_refused, season_refused)

-- ---- the turn

pub turns_full : (r : Record) → book_limit ≤ r.days → r.season < last_season → turns r ≡ true
turns_full r d t = rw (le-leb book_limit r.days d, lt-ltb r.season last_season t)

pub turns_is : (r : Record) → turns r ≡ true → (book_limit ≤ r.days) × (r.season < last_season)
turns_is r e =
    let p = and_both (leb book_limit r.days) (ltb r.season last_season) e in
    (leb-true book_limit r.days p.0, ltb-true r.season last_season p.1)

pub stays_before : (r : Record) → r.days < book_limit → turns r ≡ false
stays_before r d = rw (lt-leb book_limit r.days d)

pub stays_last : (r : Record) → last_season ≤ r.season → turns r ≡ false
stays_last r t = rw (le-ltb r.season last_season t) (and_false (leb book_limit r.days))
  where
    and_false : (b : Bool) → (b && false) ≡ false
    and_false true = refl
    and_false false = refl

module _ (r : Record) {b : Bool} (e : b ≡ turns r) where
  pub current_turned : b ≡ true → current r ≡ turned r
  unfolding current
  current_turned t = rw (← e, t)

  pub current_same : b ≡ false → current r ≡ r
  unfolding current
  current_same t = rw (← e, t)

-- with a day left the record stays
pub current_before : (r : Record) → r.days < book_limit → current r ≡ r
current_before r d = current_same r refl (stays_before r d)

module _ (r : Record) (a : Allowed r) where
  turned_allowed : turns r ≡ true → Allowed (turned r)
  unfolding turned at_start
  turned_allowed t =
      let p = turns_is r t in
      record { setup = a.setup; days_most = omega arith; bytes_most = omega arith; season_most = omega (arith, p.1); full_empty = λ h. refl }

  -- the record that a call is made on passes 6, and has the open bytes of the one handed in
  pub current_allowed : Allowed (current r)
  current_allowed = elim (split (turns r)) [
    | inl t ↦ rw (current_turned r refl t) (turned_allowed t)
    | inr t ↦ rw (current_same r refl t) a
  ]

  turned_bytes : (turned r).bytes ≡ 0
  unfolding turned at_start
  turned_bytes = refl

  pub current_bytes : (current r).bytes ≡ r.bytes
  current_bytes = elim (split (turns r)) [
    | inl t ↦ rw (current_turned r refl t) (turned_bytes ∙ sym (a.full_empty (turns_is r t).0))
    | inr t ↦ rw (current_same r refl t)
  ]

-- scheme, n and f stay
pub current_scheme : (r : Record) → (current r).scheme ≡ r.scheme
unfolding current turned at_start
current_scheme r = elim (turns r) as (λ b. (cond b (turned r) r).scheme ≡ r.scheme) [ true ↦ refl | false ↦ refl ]

pub current_n : (r : Record) → (current r).n ≡ r.n
unfolding current turned at_start
current_n r = elim (turns r) as (λ b. (cond b (turned r) r).n ≡ r.n) [ true ↦ refl | false ↦ refl ]

-- and a block has its size
pub current_block : (r : Record) → length r.block ≡ 64 → length (current r).block ≡ 64
unfolding current turned at_start begun onward filled rest
current_block r e = elim (turns r) as (λ b. length (cond b (turned r) r).block ≡ 64) [ true ↦ refl | false ↦ e ]

turned_days : (r : Record) → (turned r).days ≡ 0
unfolding turned at_start
turned_days r = refl

pub current_days : (r : Record) → turns r ≡ true → (current r).days ≡ 0
current_days r t = ap (λ (q : Record). q.days) (current_turned r refl t) ∙ turned_days r

-- ---- tests 6 5

pub refused_6 : (r : Record) → allowed_record r ≡ false → Err cause.BadRecord ≡ record_tested r
unfolding record_tested
refused_6 r e = rw e refl

module _ (r : Record) (e : allowed_record r ≡ true) where
  pub refused_5 : book_limit ≤ r.days → last_season ≤ r.season → Err cause.LastSeasonFull ≡ record_tested r
  unfolding record_tested
  refused_5 d l = rw (e, current_same r refl (stays_last r l), le-ltb r.days book_limit d) refl

  passes : (current r).days < book_limit → Ok tt ≡ record_tested r
  unfolding record_tested
  passes h = rw (e, lt-ltb (current r).days book_limit h) refl

  pub turns_on : book_limit ≤ r.days → r.season < last_season → Ok tt ≡ record_tested r
  turns_on d l = passes (let q = current_days r (turns_full r d l) in omega (arith, q))

  pub refused_0 : r.days < book_limit → Ok tt ≡ record_tested r
  refused_0 h = passes (rw (current_before r h) h)

pub ruleset tests_6_5 = (refused_6, refused_5, turns_on, refused_0)

-- what no refusal says
pub record_passes : (r : Record) → record_tested r ≡ Ok tt → Allowed r × ((current r).days < book_limit)
unfolding record_tested
record_passes r e =
    let p = none_fails (record_tests r) (passed_number (tested (record_tests r)) e) in
    (allowed_is r p.0, ltb-true (current r).days book_limit p.1.0)

-- the day of the call can be closed
pub record_open : (r : Record) → record_tested r ≡ Ok tt → Open (current r)
record_open r e =
    let p = record_passes r e in
    record { allowed = is_allowed (current r) (current_allowed r p.0); day_left = p.1 }

-- ---- the values so far: test 6, and what it leaves

pub so_far_6 : (r : Record) → allowed_record r ≡ false → Err cause.BadRecord ≡ written_so_far r
unfolding written_so_far
so_far_6 r e = rw e refl

pub so_far_asks : (r : Record) → allowed_record r ≡ true → (allowed_scheme r.scheme ≡ true) × (allowed_n r.n ≡ true) × (r.days ≤ book_limit)
so_far_asks r e =
    let a = allowed_is r e in
    let u = setup_is r.scheme r.n r.f a.setup in (u.scheme_ok, u.n_ok, a.days_most)

pub so_far_0 : (r : Record) → allowed_record r ≡ true → (k : ℕ) → k ≡ length (chains r.scheme r.n r.days) → Ok k ≡ written_so_far r
unfolding written_so_far
so_far_0 r e k q = rw (e, q) refl

pub ruleset so_far = (so_far_6, so_far_asks, so_far_0)
