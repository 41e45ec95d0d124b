-- Demand 3 for a book written by seal: the calls that it stands for seal the ledger's days, and write its book.
use mathlib.Core.Path.{◌≡◌, sym, ap, ◌∙◌}
use mathlib.Core.List.{List, [], ◌∷◌, ◌++◌, map, flat_map, map-append, append-nil}
use Prim.Native.Nat.{ℕ, zero, suc, ◌+◌, ◌*◌, ◌≤◌, ◌<◌}
use native.Mathlib.Omega.{arith}
use lib.ListN.{length, drop, length-append, length-drop}
use borrow.Author.Tests.{le-leb, lt-ltb}
use Rattle.lists.proofs.Laws.{up_from_snoc, flat_map_append}
use Rattle.std.specs.Prelude.{Ok}
use Rattle.refusals.specs.Refusals.{book_limit, day_limit}
use Rattle.refusals.proofs.TestLaws.{no_refusal, passed_number}
use Rattle.evidence.specs.Evidence.{days, day_of}
use Rattle.layouts.specs.Layouts.{chains, chains_of_day}
use Rattle.layouts.proofs.Coverage.{chains_suc, chains_front}
use Rattle.ledger.specs.Ledger.{day_at, days_of}
use Rattle.ledger.proofs.DayLaws.{days_none, days_snoc, days_length, days_at, days_at_length}
use Rattle.chains.specs.Book.{book_of}
use Rattle.journal.specs.Journal.{Journal, Argument, adds, closes, tests_of, refusal_of}
use Rattle.journal.specs.Seasons.{Seasons, first, kept_in, seasons_after, entries_of}
use Rattle.journal.specs.Run.{argument_of}
use Rattle.journal.proofs.SeasonLaws.{seasons_append, only, taken_only}
use Rattle.service.proofs.CallLaws.{opened_number}
use Rattle.sealing.specs.Contract.{seal_tested, seal_refusal, sealed_book}
use Rattle.sealing.proofs.SealLaws.{Sealable, sealable}
use Rattle.daybook.specs.Claim.{sealed, wrote, day_calls, seal_calls, SealClaim}
use Rattle.daybook.proofs.Claim.{demand_3}

module _ (s n f d : ℕ) (ledger ends book : List ℕ) (ok : Sealable s n f d ledger ends book) where
  abbrev D : List (List ℕ)
  D = days_of ledger ends d

  abbrev sealed_to : ℕ → Journal
  sealed_to i = record { entries = days_of ledger ends i; day = [] }

  abbrev arguments_to : ℕ → List Argument
  arguments_to i = map argument_of (flat_map (day_calls s n D book) (days i))

  abbrev rest : ℕ → List ℕ
  rest i = drop (32 * length (chains s n i)) book

  module _ (i : ℕ) (h : i < d) where
    abbrev day : List ℕ
    day = day_of D (suc i)

    day_is : day_of D (suc i) ≡ day_at ledger ends i
    day_is = days_at ledger ends d i h

    day_fits : length (day_of D (suc i)) ≤ day_limit
    day_fits = let e = days_at_length ledger ends d i ok.ends_hold h in omega (arith, ok.ends_hold.limited i h)

    count_is : length (days_of ledger ends i) ≡ i
    count_is = days_length ledger ends i

    add_taken : refusal_of s n (sealed_to i) (adds day) ≡ 0
    add_taken = no_refusal (tests_of s n (sealed_to i) (adds day))
        (lt-ltb (length (days_of ledger ends i)) book_limit (omega (arith, count_is, ok.days_most)), (le-leb (0 + length day) day_limit (let w = day_fits in omega arith), tt))

    room : 32 * length (chains_of_day s n (suc (length (days_of ledger ends i)))) ≤ length (rest i)
    room =
        let c : length (chains s n (suc i)) ≡ length (chains s n i) + length (chains_of_day s n (suc i)) = rw (chains_suc s n i, length-append) in
        let r = chains_front s n (suc i) d h in
        let l : length (chains s n d) ≡ length (chains s n (suc i)) + length r.0 = rw (r.1, length-append) in
        rw (count_is, length-drop) (omega (arith, ok.room))

    abbrev grown : Journal
    grown = record { entries = days_of ledger ends i; day = day }

    close_taken : refusal_of s n grown (closes (length (rest i))) ≡ 0
    close_taken = no_refusal (tests_of s n grown (closes (length (rest i)))) (
      lt-ltb (length (days_of ledger ends i)) book_limit (omega (arith, count_is, ok.days_most)),
      (le-leb (32 * length (chains_of_day s n (suc (length (days_of ledger ends i))))) (length (rest i)) room, tt),
    )

    day_more : seasons_after s n (only (sealed_to i)) (map argument_of (day_calls s n D book (suc i))) ≡ only (sealed_to (suc i))
    day_more =
        ap (λ (d : Seasons). kept_in s n d (closes (length (rest i)))) (taken_only s n (sealed_to i) (adds day) add_taken) ∙ taken_only s n grown (closes (length (rest i))) close_taken ∙
        ap (λ (l : List (List ℕ)). only (record { entries = l; day = [] })) (ap (λ (b : List ℕ). days_of ledger ends i ++ (b ∷ [])) day_is ∙ sym (days_snoc ledger ends i))

  calls_more : (i : ℕ) → arguments_to (suc i) ≡ arguments_to i ++ map argument_of (day_calls s n D book (suc i))
  unfolding flat_map
  calls_more i =
      let e : 1 + i ≡ suc i = omega arith in
      ap (λ l. map argument_of (flat_map (day_calls s n D book) l)) (up_from_snoc 1 i ∙ ap (λ x. days i ++ (x ∷ [])) e) ∙
      ap (map argument_of) (flat_map_append (day_calls s n D book) (days i) (suc i ∷ []) ∙ ap (λ l. flat_map (day_calls s n D book) (days i) ++ l) (append-nil (day_calls s n D book (suc i)))) ∙
      map-append argument_of (flat_map (day_calls s n D book) (days i)) (day_calls s n D book (suc i))

  sealed_to_lem : (i : ℕ) → i ≤ d → seasons_after s n first (arguments_to i) ≡ only (sealed_to i)
  unfolding flat_map
  sealed_to_lem zero h = ap (λ (l : List (List ℕ)). only (record { entries = l; day = [] })) (sym (days_none ledger ends))
  sealed_to_lem (suc i) h =
      ap (seasons_after s n first) (calls_more i) ∙ seasons_append s n (arguments_to i) (map argument_of (day_calls s n D book (suc i))) first ∙
      ap (λ (e : Seasons). seasons_after s n e (map argument_of (day_calls s n D book (suc i)))) (sealed_to_lem i (omega arith)) ∙ day_more i h

  days_are : sealed s n (seal_calls s n d D book) 0 ≡ D
  days_are = ap (λ (e : Seasons). entries_of e 0) (sealed_to_lem d (omega arith))

not_refused : (s n f d : ℕ) (ledger ends book : List ℕ) → (sealed_book s n f d ledger ends book).answer ≡ Ok tt → seal_refusal s n f d ends (length ledger) (length book) ≡ 0
unfolding sealed_book
not_refused s n f d ledger ends book e = passed_number (seal_tested s n f d ends (length ledger) (length book)) e

book_of_seal : (s n f d : ℕ) (ledger ends book : List ℕ) → seal_refusal s n f d ends (length ledger) (length book) ≡ 0 →
    (sealed_book s n f d ledger ends book).book ≡ book_of s n (days_of ledger ends d) ++ drop (length (book_of s n (days_of ledger ends d))) book
unfolding sealed_book
book_of_seal s n f d ledger ends book e = rw e

pub seal_claim : SealClaim
seal_claim s n f d ledger ends book e =
    let z = not_refused s n f d ledger ends book e in
    let ok = sealable s n f d ledger ends book z in
    let cs = seal_calls s n d (days_of ledger ends d) book in
    let g = demand_3 s n f (opened_number s n f ∙ ok.setup) cs in
    let days_are = days_are s n f d ledger ends book ok in
    let w : wrote s n f cs 0 ≡ book_of s n (days_of ledger ends d) = (g.season 0).book ∙ ap (book_of s n) days_are in
    record { days_sealed = days_are; book_is_written = book_of_seal s n f d ledger ends book z ∙ ap (λ (b : List ℕ). b ++ drop (length b) book) (sym w); guarantee = g }
