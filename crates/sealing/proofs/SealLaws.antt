-- Sealing: the refusal by its tests, what stands in the book after i days, what the call gives.
use mathlib.Core.{Path.◌≡◌, Path.refl, Path.sym, Path.ap, Path.ap₂, Path.◌∙◌, Bool.true, List.List, List.[], List.◌∷◌, List.◌++◌}
use Prim.Native.Nat.{ℕ, suc, ◌+◌, ◌-◌, ◌*◌, ◌≤◌, ◌<◌}
use native.Mathlib.{Numerals.add-one, Omega.arith}
use lib.{Dec.leb, Dec.ltb, ListN.length, ListN.drop, ListN.length-append, ListN.length-drop}
use borrow.Author.Tests.{leb-true, le-leb, lt-leb, lt-ltb}
use borrow.Rule.Slice.PartMut.{mid_of, put_mid}
use Rattle.evidence.specs.Evidence.{values}
use Rattle.std.specs.Prelude.{Ok, Err}
use Rattle.refusals.specs.declared.Refusal.{Refusal}
use Rattle.refusals.specs.declared.Refusal.TheVariants as cause
use Rattle.refusals.specs.Refusals.{book_limit, day_limit, Test, ◌or_refuse◌, tested, front_written}
use Rattle.refusals.proofs.TestLaws.{none_fails, no_refusal, pass_split, refused_before, passed_before, old_stays, new_stands}
use Rattle.buffers.proofs.Lent.{lent_is, lent_put, lent_length}
use Rattle.sha256.specs.Sha256.{sha256}
use Rattle.layouts.specs.Layouts.{allowed_scheme, allowed_n, allowed_d, setup_tests, layout_tests, setup_tested, setup_refusal, chains, chains_of_day}
use Rattle.layouts.proofs.{AllowedLaws.layout_passed, AllowedLaws.allowed_d_is, Coverage.chains_front}
use Rattle.ledger.specs.Ledger.{day_at, days_of, ends_tests, ends_tested, ledger_tests, ledger_tested}
use Rattle.ledger.proofs.LedgerLaws.{ledger_asks}
use Rattle.ledger.specs.Private.{EndsHold}
use Rattle.ledger.proofs.{EndLaws.refusal_none, DayLaws.days_none, DayLaws.days_snoc, DayLaws.days_length, DayLaws.day_length}
use Rattle.chains.specs.Book.{start, book_of}
use Rattle.chains.proofs.BookLaws.{book_none, book_suc, book_length, values_of_length}
use Rattle.service.specs.{declared.Record.Record}
use Rattle.service.specs.Contract.{count_of, opened, add_refusal, added, close_refusal, closing}
use Rattle.journal.specs.Journal.{Journal, adds, closes, refusal_of}
use Rattle.journal.proofs.RunLaws.{Keeps, keeps_open, add_passes, close_passes, taken_add, taken_close, taken_count, taken_part}
use Rattle.sealing.specs.Contract.{seal_tests, seal_tested, seal_refusal, sealed_book}

-- ---- the tests

module _ (s n f d : ℕ) (ends : List ℕ) (size room : ℕ) where
  abbrev last_test : List Test
  last_test = leb (32 * length (chains s n d)) room or_refuse cause.ShortBuffer ∷ []

  pub seal_early : {r : Refusal} → ledger_tested s n f d ends size ≡ Err r → Err r ≡ seal_tested s n f d ends size room
  unfolding ledger_tested seal_tested
  seal_early e = sym (refused_before (ledger_tests s n f d ends size) last_test e)

  module _ (e : ledger_tested s n f d ends size ≡ Ok tt) where
    last_says : seal_tested s n f d ends size room ≡ tested last_test
    unfolding ledger_tested seal_tested
    last_says = passed_before (ledger_tests s n f d ends size) last_test e

    pub seal_asks : (allowed_scheme s ≡ true) × (allowed_n n ≡ true) × (d ≤ book_limit)
    seal_asks = ledger_asks s n f d ends size e

    pub book_short : room < 32 * length (chains s n d) → Err cause.ShortBuffer ≡ seal_tested s n f d ends size room
    book_short h = rw (last_says, lt-leb (32 * length (chains s n d)) room h) refl

    pub seal_passed : 32 * length (chains s n d) ≤ room → Ok tt ≡ seal_tested s n f d ends size room
    seal_passed h = rw (last_says, le-leb (32 * length (chains s n d)) room h) refl

-- what no refusal says
pub record Sealable (s n f d : ℕ) (ledger ends book : List ℕ) : Type 0 where
  pub setup : setup_refusal s n f ≡ 0
  pub days_most : d ≤ book_limit
  pub ends_hold : EndsHold d ends (length ledger)
  pub room : 32 * length (chains s n d) ≤ length book

pub sealable : (s n f d : ℕ) (ledger ends book : List ℕ) → seal_refusal s n f d ends (length ledger) (length book) ≡ 0 → Sealable s n f d ledger ends book
unfolding setup_tested ends_tested seal_tested
sealable s n f d ledger ends book e =
    let last = last_test s n f d ends (length ledger) (length book) in
    let p = pass_split (layout_tests s n f d) (ends_tests d ends (length ledger) ++ last) (none_fails (seal_tests s n f d ends (length ledger) (length book)) e) in
    let q = pass_split (ends_tests d ends (length ledger)) last p.1 in
    record {
      setup = no_refusal (setup_tests s n f) (pass_split (setup_tests s n f) (allowed_d n f d or_refuse cause.BadD ∷ []) p.0).0;
      days_most = (allowed_d_is n f d (layout_passed s n f d p.0).1).most;
      ends_hold = refusal_none d ends (length ledger) (no_refusal (ends_tests d ends (length ledger)) q.0);
      room = leb-true (32 * length (chains s n d)) (length book) q.1.0;
    }

-- ---- after i days

pub record Through (s n f : ℕ) (ledger ends old : List ℕ) (i at : ℕ) (r : Record) (book : List ℕ) : Type 0 where
  pub keeps : Keeps s n f (record { entries = days_of ledger ends i; day = [] }) r
  pub at_is : at ≡ length (book_of s n (days_of ledger ends i))
  pub book_is : book ≡ book_of s n (days_of ledger ends i) ++ drop at old
  pub same_length : length book ≡ length old

module _ {s n f d : ℕ} {ledger ends old : List ℕ} (ok : Sealable s n f d ledger ends old) where
  abbrev sealed : ℕ → List (List ℕ)
  sealed i = days_of ledger ends i

  pub no_day_sealed : (r : Record) → r ≡ (opened s n f).state → Through s n f ledger ends old 0 0 r old
  no_day_sealed r e =
      record {
        keeps = rw (days_none ledger ends, e) (keeps_open s n f ok.setup);
        at_is = rw (days_none ledger ends, book_none s n);
        book_is = rw (days_none ledger ends, book_none s n);
        same_length = refl;
      }

  sealed_length : (i : ℕ) → length (book_of s n (sealed i)) ≡ 32 * length (chains s n i)
  sealed_length i = book_length s n (sealed i) ∙ ap (λ (x : ℕ). 32 * length (chains s n x)) (days_length ledger ends i)

  sealed_fits : (i : ℕ) → i ≤ d → length (book_of s n (sealed i)) ≤ length old
  sealed_fits i h =
      let r = chains_front s n i d h in
      let c : length (chains s n d) ≡ length (chains s n i) + length r.0 = ap length r.1 ∙ length-append (chains s n i) r.0 in
      omega (arith, sealed_length i, ok.room)

  module _ {i at : ℕ} {r : Record} {book : List ℕ} (t : Through s n f ledger ends old i at r book) where
    pub all_sealed : i ≡ d → book ≡ front_written 0 (book_of s n (sealed d)) old
    all_sealed e =
        t.book_is ∙ ap₂ (λ (x y : ℕ). book_of s n (sealed x) ++ drop y old) e (t.at_is ∙ ap (λ (x : ℕ). length (book_of s n (sealed x))) e)

    module _ (h : i < d) where
      abbrev rest : List ℕ
      rest = mid_of at (length book - at) book

      abbrev day : List ℕ
      day = day_at ledger ends i

      abbrev before : Journal
      before = record { entries = sealed i; day = [] }

      abbrev during : Journal
      during = record { entries = sealed i; day = day }

      abbrev day_count : ℕ
      day_count = length (chains_of_day s n (suc (length (sealed i))))

      abbrev day_values : List ℕ
      day_values = values sha256 (start s n) (sealed i ++ (day ∷ [])) (chains_of_day s n (suc (length (sealed i))))

      book_more : book_of s n (sealed (suc i)) ≡ book_of s n (sealed i) ++ day_values
      book_more = ap (book_of s n) (days_snoc ledger ends i) ∙ book_suc s n (sealed i) day

      values_length : length day_values ≡ 32 * day_count
      values_length = values_of_length s n (sealed i ++ (day ∷ [])) (chains_of_day s n (suc (length (sealed i))))

      length_more : length (book_of s n (sealed (suc i))) ≡ at + 32 * day_count
      length_more = ap length book_more ∙ length-append (book_of s n (sealed i)) day_values ∙ omega (arith, values_length, t.at_is)

      room_left : at + 32 * day_count ≤ length old
      room_left = let b = sealed_fits (suc i) h in omega (arith, length_more)

      days_left : ltb (length (sealed i)) book_limit ≡ true
      days_left = lt-ltb (length (sealed i)) book_limit (omega (arith, days_length ledger ends i, ok.days_most))

      add_taken : refusal_of s n before (adds day) ≡ 0
      add_taken =
          let l : length day ≤ day_limit = omega (arith, day_length ledger ends i (ok.ends_hold.ascend i h) (ok.ends_hold.within i h), ok.ends_hold.limited i h) in
          rw (days_left, le-leb (0 + length day) day_limit (omega arith))

      rest_is : rest ≡ drop at old
      rest_is = lent_is (book_of s n (sealed i)) old book at t.book_is (sym t.at_is) t.same_length

      close_taken : refusal_of s n during (closes (length rest)) ≡ 0
      close_taken =
          let l : 32 * day_count ≤ length rest = rw rest_is (omega (arith, room_left, length-drop at old)) in
          rw (days_left, le-leb (32 * day_count) (length rest) l)

      during_kept : Keeps s n f during (added r day).state
      during_kept = taken_add t.keeps day add_taken

      -- neither call is refused
      pub add_passed : add_refusal r (length day) ≡ 0
      add_passed = add_passes t.keeps day add_taken

      pub close_passed : close_refusal (added r day).state (length rest) ≡ 0
      close_passed = close_passes during_kept rest close_taken

      pub day_sealed : {after : Record} (next : List ℕ) (k : ℕ) → after ≡ (closing (added r day).state rest).result.state →
          next ≡ (closing (added r day).state rest).part → k ≡ count_of (closing (added r day).state rest).result.answer →
          Through s n f ledger ends old (i + 1) (at + 32 * k) after (put_mid at (length book - at) book next)
      day_sealed {after} next k ec en ek = rw (count_is, add-one i) through
        where
          count_is : k ≡ day_count
          count_is = ek ∙ taken_count during_kept rest close_taken

          next_is : next ≡ day_values ++ drop (32 * day_count) rest
          next_is = en ∙ taken_part during_kept rest close_taken

          through : Through s n f ledger ends old (suc i) (at + 32 * day_count) after (put_mid at (length book - at) book next)
          through =
              record {
                keeps = rw (ec, days_snoc ledger ends i) (taken_close during_kept rest close_taken);
                at_is = sym length_more;
                book_is =
                    lent_put (book_of s n (sealed i)) old book at t.book_is (sym t.at_is) t.same_length next day_values (32 * day_count) next_is ∙
                    ap (λ (x : List ℕ). x ++ drop (at + 32 * day_count) old) (sym book_more);
                same_length =
                    lent_length (book_of s n (sealed i)) old book at t.book_is (sym t.at_is) t.same_length next day_values (32 * day_count) next_is values_length room_left;
              }

-- ---- what the call gives, refused and not

module _ (s n f d : ℕ) (ledger ends book : List ℕ) where
  module _ {r : Refusal} (e : seal_tested s n f d ends (length ledger) (length book) ≡ Err r) where
    pub sealed_refused : Err r ≡ (sealed_book s n f d ledger ends book).answer
    unfolding sealed_book
    sealed_refused = sym e

    pub sealed_left : book ≡ (sealed_book s n f d ledger ends book).book
    unfolding sealed_book
    sealed_left = sym (old_stays (seal_tested s n f d ends (length ledger) (length book)) _ book e)

  module _ (e : seal_tested s n f d ends (length ledger) (length book) ≡ Ok tt) where
    pub sealed_done : Ok tt ≡ (sealed_book s n f d ledger ends book).answer
    unfolding sealed_book
    sealed_done = sym e

    pub sealed_written : {next : List ℕ} → next ≡ front_written 0 (book_of s n (days_of ledger ends d)) book → next ≡ (sealed_book s n f d ledger ends book).book
    unfolding sealed_book
    sealed_written q = q ∙ sym (new_stands (seal_tested s n f d ends (length ledger) (length book)) _ book e)

-- ---- what functions of the code are proved by

pub ruleset seal_laws = (seal_early, seal_asks, book_short, seal_passed)
