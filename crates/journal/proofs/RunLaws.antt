-- One season: the record holds what the journal says, and goes on holding it by each call that is made on it.
use mathlib.Core.Path.{◌≡◌, refl, sym, ap, ap₂, ◌∙◌}
use mathlib.Core.Bool.{true}
use mathlib.Core.List.{List, [], ◌∷◌, ◌++◌, append-nil}
use Prim.Native.Nat.{ℕ, suc, ◌+◌, ◌*◌, ◌%◌, ◌≤◌, ◌<◌}
use native.Mathlib.Omega.{arith}
use lib.ListN.{length, drop, length-append}
use lib.Seq.{take_at}
use borrow.Author.Tests.{leb-true, ltb-true}
use Rattle.evidence.specs.Evidence.{digest, values}
use Rattle.refusals.specs.Refusals.{book_limit, day_limit, last_season}
use Rattle.refusals.proofs.TestLaws.{none_fails}
use Rattle.sha256.specs.Sha256.{sha256}
use Rattle.sha256_words.specs.Words.{bytes_of}
use Rattle.hasher.specs.declared.Hasher.{Hasher}
use Rattle.hasher.specs.Hasher.{begun, absorbed, finished}
use Rattle.hasher.proofs.Laws.{absorbed_begun, finished_begun}
use Rattle.layouts.specs.Layouts.{allowed_n, setup_refusal, chains_of_day}
use Rattle.layouts.proofs.AllowedLaws.{setup_is}
use Rattle.chains.specs.Book.{start, book_of}
use Rattle.chains.specs.Step.{start_value}
use Rattle.chains.proofs.Running.{Holds, holds_fresh, holds_next, day_values_are}
use Rattle.chains.proofs.BookLaws.{book_suc, values_of_length}
use Rattle.service.specs.declared.Record.{Record}
use Rattle.service.specs.Contract.{at_start, fresh, opened, allowed_record, current, add_tested, add_refusal, open_day, grown, added, day_count, close_tested, close_refusal, digest_of, day_bytes, next_day, count_of, closing}
use Rattle.journal.specs.Journal.{Journal, empty, Argument, adds, closes, tests_of, refusal_of, entered}
use Rattle.journal.specs.Run.{Call, add, close, argument_of, called}
use Rattle.service.proofs.RecordLaws.{is_allowed, current_before}
use Rattle.service.proofs.CallLaws.{added_number, closing_number, closing_taken}

-- ---- the record holds what the journal says

pub record Keeps (s n f : ℕ) (j : Journal) (r : Record) : Type 0 where
  pub setup_ok : setup_refusal s n f ≡ 0
  pub scheme_is : r.scheme ≡ s
  pub n_is : r.n ≡ n
  pub f_is : r.f ≡ f
  pub days_are : r.days ≡ length j.entries
  pub bytes_are : r.bytes ≡ length j.day
  pub days_most : length j.entries ≤ book_limit
  pub bytes_most : length j.day ≤ day_limit
  pub season_most : r.season ≤ last_season
  pub full_empty : book_limit ≤ length j.entries → length j.day ≡ 0
  pub open_day_lem : open_day r ≡ begun (0 ∷ j.day)
  pub start_is : r.start ≡ start_value s n
  pub chains_hold : Holds s n j.entries r.black r.running

-- day 1 of a season, with no entry and an empty open day
pub keeps_start : (s n f season : ℕ) → setup_refusal s n f ≡ 0 → season ≤ last_season → Keeps s n f empty (at_start s n f (start_value s n) season)
unfolding at_start
keeps_start s n f season e l =
    record {
      setup_ok = e;
      scheme_is = refl;
      n_is = refl;
      f_is = refl;
      days_are = refl;
      bytes_are = refl;
      days_most = omega arith;
      bytes_most = omega arith;
      season_most = l;
      full_empty = λ h. refl;
      open_day_lem = refl;
      start_is = refl;
      chains_hold = holds_fresh s n (setup_is s n f e).n_ok;
    }

-- a call that is taken finds a day left
day_left : (s n : ℕ) (j : Journal) (a : Argument) → refusal_of s n j a ≡ 0 → length j.entries < book_limit
day_left s n j (adds piece) e = ltb-true (length j.entries) book_limit (none_fails (tests_of s n j (adds piece)) e).0
day_left s n j (closes size) e = ltb-true (length j.entries) book_limit (none_fails (tests_of s n j (closes size)) e).0

pub keeps_open : (s n f : ℕ) → setup_refusal s n f ≡ 0 → Keeps s n f empty (opened s n f).state
unfolding opened fresh
keeps_open s n f e = rw e (keeps_start s n f 0 e (omega arith))

module _ {s n f : ℕ} {j : Journal} {r : Record} (k : Keeps s n f j r) where
  n_allowed : allowed_n n ≡ true
  n_allowed = (setup_is s n f k.setup_ok).n_ok

  pub record_allowed : allowed_record r ≡ true
  record_allowed =
      is_allowed r (record {
        setup = rw (k.scheme_is, k.n_is, k.f_is) k.setup_ok;
        days_most = rw k.days_are k.days_most;
        bytes_most = rw k.bytes_are k.bytes_most;
        season_most = k.season_most;
        full_empty = λ h. k.bytes_are ∙ k.full_empty (rw k.days_are at h);
      })

  -- the journal's number of values for the open day is the record's
  count_kept : day_count r ≡ length (chains_of_day s n (suc (length j.entries)))
  count_kept = rw (k.scheme_is, k.n_is, k.days_are)

  -- ---- an add that is taken

  hashed_count : r.bytes + 1 ≡ length (0 ∷ j.day)
  hashed_count = omega (arith, k.bytes_are)

  pub keeps_grown : (piece : List ℕ) → refusal_of s n j (adds piece) ≡ 0 → Keeps s n f (entered j (adds piece)) (grown r piece)
  unfolding grown
  keeps_grown piece e =
      let passed = none_fails (tests_of s n j (adds piece)) e in
      let left = ltb-true (length j.entries) book_limit passed.0 in
      let fits = leb-true (length j.day + length piece) day_limit passed.1.0 in
      record {
        setup_ok = k.setup_ok;
        scheme_is = k.scheme_is;
        n_is = k.n_is;
        f_is = k.f_is;
        days_are = k.days_are;
        bytes_are = ap (λ (x : ℕ). x + length piece) k.bytes_are ∙ sym (length-append j.day piece);
        days_most = k.days_most;
        bytes_most = rw (length-append j.day piece) fits;
        season_most = k.season_most;
        full_empty = λ h. absurd (omega arith);
        open_day_lem =
            ap (λ (h : Hasher). absorbed h (r.bytes + 1) piece) k.open_day_lem ∙
            absorbed_begun (0 ∷ j.day) piece (r.bytes + 1) (ap (λ (x : ℕ). x % 64) hashed_count);
        start_is = k.start_is;
        chains_hold = k.chains_hold;
      }

  -- ---- a close that is taken

  digest_is : bytes_of (digest_of r) ≡ digest sha256 j.day
  unfolding sha256
  digest_is = ap bytes_of (ap₂ finished k.open_day_lem hashed_count ∙ finished_begun (0 ∷ j.day))

  pub keeps_next : (size : ℕ) → refusal_of s n j (closes size) ≡ 0 → Keeps s n f (entered j (closes size)) (next_day r)
  unfolding next_day
  keeps_next size e =
      let more = length-append j.entries (j.day ∷ []) in
      let left = day_left s n j (closes size) e in
      record {
        setup_ok = k.setup_ok;
        scheme_is = k.scheme_is;
        n_is = k.n_is;
        f_is = k.f_is;
        days_are = omega (arith, k.days_are);
        bytes_are = refl;
        days_most = omega arith;
        bytes_most = omega arith;
        season_most = k.season_most;
        full_empty = λ h. refl;
        open_day_lem = refl;
        start_is = k.start_is;
        chains_hold =
            holds_next s n j.entries j.day n_allowed r.black r.running (digest_of r) k.chains_hold digest_is refl
            (rw (k.scheme_is, k.n_is, k.days_are, k.start_is));
      }

  -- what it writes: 01's values of the day
  pub day_bytes_are : (size : ℕ) → refusal_of s n j (closes size) ≡ 0 →
      day_bytes r ≡ values sha256 (start s n) (j.entries ++ (j.day ∷ [])) (chains_of_day s n (suc (length j.entries)))
  unfolding day_bytes
  day_bytes_are size e =
      rw (k.scheme_is, k.n_is, k.days_are)
      (day_values_are s n j.entries j.day n_allowed r.black r.running (digest_of r) k.chains_hold digest_is (day_left s n j (closes size) e))

  pub day_bytes_length : (size : ℕ) → refusal_of s n j (closes size) ≡ 0 → length (day_bytes r) ≡ 32 * day_count r
  day_bytes_length size e =
      ap length (day_bytes_are size e) ∙ values_of_length s n (j.entries ++ (j.day ∷ [])) (chains_of_day s n (suc (length j.entries))) ∙
      ap (λ (x : ℕ). 32 * x) (sym count_kept)

-- ---- a call of the service: tested by 6 on its record, and made on the current one, which holds the journal

module _ {s n f : ℕ} {j : Journal} (r : Record) (a : allowed_record r ≡ true) (k : Keeps s n f j (current r)) where
  -- the same refusals
  pub add_same : (piece : List ℕ) → add_refusal r (length piece) ≡ refusal_of s n j (adds piece)
  unfolding add_tested
  add_same piece = rw (a, k.days_are, k.bytes_are)

  pub close_same : (size : ℕ) → close_refusal r size ≡ refusal_of s n j (closes size)
  unfolding close_tested
  close_same size = rw (a, count_kept k, k.days_are)

  pub number_called : (c : Call) → (called r c).number ≡ refusal_of s n j (argument_of c)
  number_called (add piece) = added_number r piece ∙ add_same piece
  number_called (close part) = closing_number r part ∙ close_same (length part)

  -- the record after a call that is taken
  pub keeps_called : (c : Call) → refusal_of s n j (argument_of c) ≡ 0 → Keeps s n f (entered j (argument_of c)) (called r c).state
  unfolding added closing
  keeps_called (add piece) e = rw (add_same piece, e) (keeps_grown k piece e)
  keeps_called (close part) e = rw (close_same (length part), e) (keeps_next k (length part) e)

  -- the book of the season with what it wrote
  pub book_called : (c : Call) → refusal_of s n j (argument_of c) ≡ 0 → book_of s n j.entries ++ (called r c).wrote ≡ book_of s n (entered j (argument_of c)).entries
  unfolding closing
  book_called (add piece) e = append-nil (book_of s n j.entries)
  book_called (close part) e =
      let made = current r in
      rw (closing_taken r part (close_same (length part) ∙ e), close_same (length part), e)
      (ap (λ (l : List ℕ). book_of s n j.entries ++ l)
      (take_at (day_bytes made) (drop (length (day_bytes made)) part) (32 * day_count made) (day_bytes_length k (length part) e) ∙ day_bytes_are k (length part) e) ∙
      sym (book_suc s n j.entries j.day))

-- ---- with a day left in the season

module _ {s n f : ℕ} {j : Journal} {r : Record} (k : Keeps s n f j r) where
  stays : (a : Argument) → refusal_of s n j a ≡ 0 → current r ≡ r
  stays a e = current_before r (rw k.days_are (day_left s n j a e))

  keeps_current : (a : Argument) → refusal_of s n j a ≡ 0 → Keeps s n f j (current r)
  keeps_current a e = rw (stays a e) k

  pub taken_add : (piece : List ℕ) → refusal_of s n j (adds piece) ≡ 0 → Keeps s n f (entered j (adds piece)) (added r piece).state
  taken_add piece e = keeps_called r (record_allowed k) (keeps_current (adds piece) e) (add piece) e

  pub add_passes : (piece : List ℕ) → refusal_of s n j (adds piece) ≡ 0 → add_refusal r (length piece) ≡ 0
  add_passes piece e = add_same r (record_allowed k) (keeps_current (adds piece) e) piece ∙ e

  module _ (part : List ℕ) (e : refusal_of s n j (closes (length part)) ≡ 0) where
    pub close_passes : close_refusal r (length part) ≡ 0
    close_passes = close_same r (record_allowed k) (keeps_current (closes (length part)) e) (length part) ∙ e

    made_on : Keeps s n f j (current r)
    made_on = keeps_current (closes (length part)) e

    pub taken_close : Keeps s n f (entered j (closes (length part))) (closing r part).result.state
    taken_close = keeps_called r (record_allowed k) made_on (close part) e

    pub taken_count : count_of (closing r part).result.answer ≡ length (chains_of_day s n (suc (length j.entries)))
    taken_count = closing_taken r part (close_same r (record_allowed k) made_on (length part) ∙ e) ∙ count_kept made_on

    pub taken_part : (closing r part).part ≡ values sha256 (start s n) (j.entries ++ (j.day ∷ [])) (chains_of_day s n (suc (length j.entries))) ++ drop
        (32 * length (chains_of_day s n (suc (length j.entries)))) part
    unfolding closing
    taken_part =
        rw (close_same r (record_allowed k) made_on (length part), e)
        (ap₂ (λ (x : List ℕ) (y : ℕ). x ++ drop y part) (day_bytes_are made_on (length part) e) (day_bytes_length made_on (length part) e ∙ ap (λ (x : ℕ). 32 * x) (count_kept made_on)))
