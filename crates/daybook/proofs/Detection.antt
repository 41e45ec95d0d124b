-- What checking and reading find out, over the sealed days and the book written for them.
use mathlib.Core.{Path.◌≡◌, Path.refl, Path.sym, Path.ap, Path.ap₂, Path.◌∙◌, Logic.◌↔◌, Logic.◌⊎◌, Logic.inl, Logic.inr, Bool.true, List.List, List.[], List.◌∷◌, List.◌++◌}
use Prim.Native.Nat.{ℕ, ◌*◌, ◌≤◌}
use native.Mathlib.Omega.{arith}
use lib.ListN.{length, take, drop, length-append, length-map, take-append-drop}
use lib.Seq.{take_at, drop_at}
use borrow.Author.Tests.{le-leb}
use Rattle.lists.specs.Lists.{◌among◌}
use Rattle.std.specs.Prelude.{Ok}
use Rattle.refusals.specs.Refusals.{◌or_refuse◌}
use Rattle.refusals.specs.declared.Refusal.TheVariants as cause
use Rattle.refusals.proofs.TestLaws.{none_fails, no_refusal, number_passed, pass_both}
use Rattle.evidence.specs.Evidence.{days, Within, set_outcome, table_of, Gives, listing, accepted, day_of, values, check_outcomes, Collision}
use Rattle.evidence.proofs.TableLaws.{listing_ascends, listed_iff, given_iff_accepted, lists_none}
use Rattle.evidence.proofs.ValueLaws.{changed_within, changed_listed, listed_changed, none_listed}
use Rattle.evidence.proofs.Collisions.{collide_or_not}
use Rattle.layouts.specs.Layouts.{divides, allowed_d, setup_tests, setup_tested, setup_refusal, layout_tests, layout_tested, layout_refusal, chains}
use Rattle.layouts.proofs.AllowedLaws.{Setup, setup_is, allowed_scheme_is, allowed_n_is, allowed_d_is, divides_factor}
use Rattle.layouts.proofs.Coverage.{chains_cover, tree_single}
use Rattle.ledger.specs.Ledger.{ends_tests, ends_tested}
use Rattle.sha256.specs.Sha256.{sha256}
use Rattle.chains.specs.Book.{start, book_of, inputs_of}
use Rattle.chains.proofs.BookLaws.{book_front, values_of_length, check_finds, check_passes}
use Rattle.checking.specs.Contract.{room_tests, check_tests, check_tested, check_refusal, digests_of, outcomes_of, checked}
use Rattle.checking.proofs.Through.{digests_length, outcomes_length}
use Rattle.reading.specs.Numbers.{last_good_day}
use Rattle.reading.specs.Contract.{Report, Readout, table_in, passed_refusal, read_refusal, listed_in, found}
use Rattle.reading.proofs.{LastGood.good_given, RefusalLaws.passed_none, RefusalLaws.set_read, Report.readout_found, Statements.count_found}
use Rattle.daybook.specs.Detection.{Handed, ledger_days, changed_days, checking, reading, listed_days, table_of_changes, SealedApart, Premises, Detected}
use Rattle.daybook.specs.Claim.{ReadsClean}

pub layout_ok : (s n f d : ℕ) → setup_refusal s n f ≡ 0 → allowed_d n f d ≡ true → layout_refusal s n f d ≡ 0
unfolding setup_tested layout_tested
layout_ok s n f d e a =
    no_refusal (layout_tests s n f d) (pass_both (setup_tests s n f) (allowed_d n f d or_refuse cause.BadD ∷ []) (none_fails (setup_tests s n f) e) (a, tt))

-- ---- a list of days, its number, its first

found_refusal : (d p good : ℕ) (l : List ℕ) → (found d p l good).refusal ≡ 0
unfolding found
found_refusal d p good [] = refl
found_refusal d p good (g ∷ gs) = refl

clean_empty : (d p good : ℕ) (l : List ℕ) → ((found d p l good).clean ≡ true) ↔ (l ≡ [])
unfolding found
clean_empty d p good [] = (λ e. refl, λ e. refl)
clean_empty d p good (g ∷ gs) = (λ e. let z : ◌≡◌ {A = ℕ} 0 1 = cc in absurd (omega arith), λ e. let z : ◌≡◌ {A = ℕ} 0 1 = cc in absurd (omega arith))

module _ (s n f : ℕ) (opens : setup_refusal s n f ≡ 0) (E : List (List ℕ)) (W : List ℕ) (book_is : W ≡ book_of s n E) (d : ℕ) (x : Handed) (fit : Premises s n f E W d x) where
  abbrev C : List (List ℕ)
  C = chains s n d

  abbrev B : List (List ℕ)
  B = ledger_days d x

  setup : Setup s n f
  setup = setup_is s n f opens

  layout : layout_refusal s n f d ≡ 0
  layout = layout_ok s n f d opens fit.allowed

  -- n divides d
  intervals : divides n d ≡ true
  intervals = divides_factor n f d (allowed_n_is n setup.n_ok).some (allowed_d_is n f d fit.allowed).whole

  -- the book begins with the values of the days 1 to d
  front_of_book : (rest : List ℕ) × (x.book ≡ values sha256 (start s n) E C ++ rest)
  front_of_book =
      let r = book_front s n d E fit.days_sealed in
      let t : take (32 * length C) W ≡ values sha256 (start s n) E C =
      ap (take (32 * length C)) (book_is ∙ r.1) ∙ take_at (values sha256 (start s n) E C) r.0 (32 * length C) (values_of_length s n E C) in (
        drop (32 * length C) x.book,
        sym (take-append-drop (32 * length C) x.book) ∙ ap (λ (p : List ℕ). p ++ drop (32 * length C) x.book) (fit.begins ∙ t),
      )

  book_long : 32 * length C ≤ length x.book
  book_long =
      let r = front_of_book in
      omega (arith, ap length r.1, length-append (values sha256 (start s n) E C) r.0, values_of_length s n E C)

  -- ---- check

  not_refused : check_refusal s n f d x.ends (length x.ledger) (length x.book) (length x.work) (length x.outcomes) ≡ 0
  unfolding layout_tested ends_tested check_tested
  not_refused =
      let room = room_tests s n d (length x.book) (length x.work) (length x.outcomes) in
      no_refusal (check_tests s n f d x.ends (length x.ledger) (length x.book) (length x.work) (length x.outcomes))
      (pass_both (layout_tests s n f d) (ends_tests d x.ends (length x.ledger) ++ room) (none_fails (layout_tests s n f d) layout)
      (pass_both (ends_tests d x.ends (length x.ledger)) room (none_fails (ends_tests d x.ends (length x.ledger)) fit.ends_pass) (
        le-leb (32 * length C) (length x.book) book_long,
        (rw (le-leb (32 * d) (length x.work) fit.work_long, le-leb (length C) (length x.outcomes) fit.outcomes_long), tt),
      )))

  done : (checking s n f d x).answer ≡ Ok tt
  unfolding checked
  done = number_passed (check_tested s n f d x.ends (length x.ledger) (length x.book) (length x.work) (length x.outcomes)) not_refused

  digests_left : (checking s n f d x).work ≡ digests_of x.ledger x.ends d ++ drop (32 * d) x.work
  unfolding checked
  digests_left = rw (not_refused, digests_length x.ledger x.ends d)

  outcomes_left : (checking s n f d x).outcomes ≡ outcomes_of s n d x.ledger x.ends x.book ++ drop (length C) x.outcomes
  unfolding checked
  outcomes_left = rw (not_refused, outcomes_length s n d x.ledger x.ends x.book)

  -- the outcomes against the book, over the values at its front
  against : (rest : List ℕ) → x.book ≡ values sha256 (start s n) E C ++ rest →
      outcomes_of s n d x.ledger x.ends x.book ≡ check_outcomes sha256 (start s n) B C (values sha256 (start s n) E C ++ rest)
  unfolding outcomes_of
  against rest e = ap (check_outcomes sha256 (start s n) B C) e

  -- ---- read, of an outcome buffer that begins with the table of the days X

  module _ (X : List ℕ) (within : Within d X) (starts : (checking s n f d x).outcomes ≡ table_of C X ++ drop (length C) x.outcomes) where
    abbrev T : List ℕ
    T = table_of C X

    abbrev O : List ℕ
    O = (checking s n f d x).outcomes

    abbrev L : List ℕ
    L = listing C d T

    table_length : length T ≡ length C
    unfolding table_of
    table_length = length-map C (set_outcome X)

    table_in_lem : table_in s n d O ≡ T
    table_in_lem = ap (take (length C)) starts ∙ take_at T (drop (length C) x.outcomes) (length C) table_length

    outcomes_enough : length C ≤ length O
    outcomes_enough = omega (arith, ap length starts, length-append T (drop (length C) x.outcomes), table_length)

    gives : Gives C d X T
    gives = record { within = within; gives = refl }

    passes : passed_refusal s n f d x.passed ≡ 0
    passes = passed_none s n f d x.passed layout fit.passed_ok

    read_ok : read_refusal s n f d x.passed O (length x.list) ≡ 0
    read_ok = set_read s n f d x.passed O (length x.list) X passes fit.list_long outcomes_enough (rw table_in_lem gives)

    readout_is : reading s n f d x ≡ record { report = found d x.passed L (last_good_day s n d T); list = L ++ drop (length L) x.list }
    unfolding listed_in
    readout_is =
        readout_found s n f d x.passed O x.list read_ok ∙
        ap (λ (t : List ℕ). record { report = found d x.passed (listing C d t) (last_good_day s n d t); list = listing C d t ++ drop (length (listing C d t)) x.list }) table_in_lem

    report_is : (reading s n f d x).report ≡ found d x.passed L (last_good_day s n d T)
    report_is = ap (λ (r : Readout). r.report) readout_is

    list_is : (reading s n f d x).list ≡ L ++ drop (length L) x.list
    list_is = ap (λ (r : Readout). r.list) readout_is

    count_is : (reading s n f d x).report.listed ≡ length L
    count_is = ap (λ (r : Report). r.listed) report_is ∙ count_found d x.passed (last_good_day s n d T) L

    days_are : listed_days s n f d x ≡ L
    days_are = ap₂ take count_is list_is ∙ take_at L (drop (length L) x.list) (length L) refl

    behind : drop (reading s n f d x).report.listed (reading s n f d x).list ≡ drop (reading s n f d x).report.listed x.list
    behind = ap₂ drop count_is list_is ∙ drop_at L (drop (length L) x.list) (length L) refl ∙ ap (λ (k : ℕ). drop k x.list) (sym count_is)

    accepts : accepted C d T ≡ true
    accepts = (given_iff_accepted C d T).0 (X, gives)

  covered : (g : ℕ) → g among days d → (c : List ℕ) × (c among C) × (g among c)
  covered = let r = allowed_scheme_is s setup.scheme_ok in chains_cover s n d r.0 r.1 intervals

  -- ---- under the premise on collisions

  pub detects : SealedApart s n E d x → Detected s n f E d x
  detects nc =
      record {
        check_done = done;
        digests_written = digests_left;
        table_written = t;
        read_done = ap (λ (r : Report). r.refusal) (report_is X w t) ∙ found_refusal d x.passed (last_good_day s n d (table_of C X)) (listing C d (table_of C X));
        counted = ap length (days_are X w t) ∙ sym (count_is X w t);
        ascending = rw (days_are X w t) (listing_ascends C d (table_of C X));
        listed = rw (days_are X w t) (listed_iff C d (table_of C X) (accepts X w t));
        rest_left = behind X w t;
        complete = λ g m. rw (days_are X w t) (changed_listed C d E B g m);
        exact = λ e g m. rw (tree_list e) at (rw (days_are X w t) at m);
        clean = rw (report_is X w t) (both (clean_empty d x.passed (last_good_day s n d (table_of C X)) (listing C d (table_of C X))) (none_listed C d E B covered));
        numbers = report_is X w t ∙ ap (λ (l : List ℕ). found d x.passed l (last_good_day s n d (table_of C X))) (sym (days_are X w t));
        last_good = let r = allowed_scheme_is s setup.scheme_ok in good_given s n d X (table_of C X) r.0 r.1 (gives X w t);
      }
    where
      X : List ℕ
      X = changed_days E d x

      w : Within d (changed_days E d x)
      w = changed_within d E B

      t : (checking s n f d x).outcomes ≡ table_of_changes s n E d x ++ drop (length C) x.outcomes
      t = let r = front_of_book in outcomes_left ∙ ap (λ (p : List ℕ). p ++ drop (length C) x.outcomes) (against r.0 r.1 ∙ check_finds s n d E B r.0 nc)

      tree_list : s ≡ 3 → listing C d (table_of_changes s n E d x) ≡ changed_days E d x
      tree_list e = listed_changed C d E B (rw e (tree_single n d))

      both : {P Q R : Type 0} → P ↔ Q → Q ↔ R → P ↔ R
      both a b = (λ p. b.0 (a.0 p), λ r. a.1 (b.1 r))

  -- ---- without it: detected, or a collision

  pub detects_or_collides : Detected s n f E d x ⊎ Collision sha256 (inputs_of s n d E) (inputs_of s n d B)
  detects_or_collides = elim (collide_or_not sha256 (inputs_of s n d E) (inputs_of s n d B)) [ inl nc ↦ inl (detects nc) | inr c ↦ inr c ]

  -- ---- with no day changed, without it too

  pub unchanged_clean : ((g : ℕ) → g among days d → day_of E g ≡ day_of B g) → ReadsClean s n f d x
  unchanged_clean same =
      record {
        check_done = done;
        read_done = ap (λ (r : Report). r.refusal) (report_is [] w t) ∙ found_refusal d x.passed (last_good_day s n d (table_of C [])) (listing C d (table_of C []));
        clean = rw (report_is [] w t) ((clean_empty d x.passed (last_good_day s n d (table_of C [])) (listing C d (table_of C []))).1 none);
        list_left = list_is [] w t ∙ rw none;
      }
    where
      w : Within d []
      w g m = elim m [ ]

      t : (checking s n f d x).outcomes ≡ table_of C [] ++ drop (length C) x.outcomes
      t = let r = front_of_book in outcomes_left ∙ ap (λ (p : List ℕ). p ++ drop (length C) x.outcomes) (against r.0 r.1 ∙ check_passes s n d E B r.0 same)

      none : listing C d (table_of C []) ≡ []
      none = (lists_none C d covered [] w).1 refl
