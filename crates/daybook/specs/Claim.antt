-- Demand 3 (SPEC 9.3): one claim on every list of calls, crossing any number of seasons (SPEC 23.5), every way of
-- altering the ledger of a season, and checking and reading after it; and what stands beside it. The calls stand in it
-- by the functions of their contracts: opened, added, closing (open, add, close), checked (check), readout (read),
-- sealed_book (seal). docs/CLAIM.md goes through it.
use Rattle.std.specs.Prelude.{◌≡◌, ◌⊎◌, true, ℕ, pred, ◌-◌, ◌*◌, ◌%◌, ◌≤◌, ◌<◌, length, take, drop, Ok}
use mathlib.Core.List.{List, [], ◌∷◌, ◌++◌, map, flat_map}
use Rattle.lists.specs.Lists.{◌among◌}
use Rattle.refusals.specs.Refusals.{book_limit, last_season, number_of}
use Rattle.evidence.specs.Evidence.{days, day_of, Collision}
use Rattle.layouts.specs.Layouts.{allowed_d, chains}
use Rattle.ledger.specs.Ledger.{days_of, ends_refusal}
use Rattle.sha256.specs.Sha256.{sha256}
use Rattle.chains.specs.Book.{book_of, inputs_of}
use Rattle.service.specs.Contract.{opened}
use Rattle.journal.specs.Seasons.{first, refusals_in, all_entries, entries_of}
use Rattle.journal.specs.Run.{Call, add, close, argument_of, state_after, answers, book_written, called_all, made_in}
use Rattle.journal.specs.Run.{wrote_all, seasons_of}
use Rattle.sealing.specs.Contract.{sealed_book}
use Rattle.reading.specs.Contract.{allowed_passed}
use Rattle.daybook.specs.Detection.{Handed, ledger_days, checking, reading, Premises, SealedApart, Detected}

-- the days that the calls sealed in season t, the diary's entries of it (SPEC 23.3); and the book that the season's own
-- calls wrote (SPEC 23.4)
abbrev pub sealed : ℕ → ℕ → List Call → ℕ → List (List ℕ)
sealed scheme n cs t = entries_of (seasons_of scheme n cs) t

abbrev pub wrote : ℕ → ℕ → ℕ → List Call → ℕ → List ℕ
wrote scheme n f cs t = wrote_all (made_in t (called_all (opened scheme n f).state cs))

-- 02's D for a full season (SPEC 23.5): 65,536 less its remainder by f · n
abbrev pub largest_d : ℕ → ℕ → ℕ
largest_d n f = book_limit - book_limit % (f * n)

-- ---- the claim

module _ (scheme n f : ℕ) (cs : List Call) (t : ℕ) where
  -- the premises p to s and u for the first d days of season t, in the request's words: the book begins with the one
  -- that the season's calls wrote
  pub record AllPremises (d : ℕ) (x : Handed) : Type 0 where
    pub allowed : allowed_d n f d ≡ true
    pub begins : take (length (wrote scheme n f cs t)) x.book ≡ wrote scheme n f cs t
    pub ends_pass : ends_refusal d x.ends (length x.ledger) ≡ 0
    pub work_long : 32 * d ≤ length x.work
    pub outcomes_long : length (chains scheme n d) ≤ length x.outcomes
    pub list_long : d ≤ length x.list
    pub passed_ok : allowed_passed n d x.passed ≡ true

  -- of a full season: the largest number of days that 01 allows, whose values are the front of its book
  pub record FullSeason : Type 0 where
    pub allowed : allowed_d n f (largest_d n f) ≡ true
    pub largest : (d : ℕ) → allowed_d n f d ≡ true → d ≤ largest_d n f
    pub front : take (32 * length (chains scheme n (largest_d n f))) (wrote scheme n f cs t) ≡
        book_of scheme n (take (largest_d n f) (sealed scheme n cs t))
    pub detected : (x : Handed) → AllPremises (largest_d n f) x →
        SealedApart scheme n (sealed scheme n cs t) (largest_d n f) x →
        Detected scheme n f (sealed scheme n cs t) (largest_d n f) x

  -- season t by itself
  pub record OfSeason : Type 0 where
    -- b: the book that its calls wrote is 01's values over the diary's entries of it, in book order
    pub book : wrote scheme n f cs t ≡ book_of scheme n (sealed scheme n cs t)
    -- for every number of days that 01 allows, up to all days sealed
    pub every : (d : ℕ) (x : Handed) → Premises scheme n f (sealed scheme n cs t) (wrote scheme n f cs t) d x →
        SealedApart scheme n (sealed scheme n cs t) d x → Detected scheme n f (sealed scheme n cs t) d x
    -- for all days sealed
    pub all : (x : Handed) → AllPremises (length (sealed scheme n cs t)) x →
        SealedApart scheme n (sealed scheme n cs t) (length (sealed scheme n cs t)) x →
        Detected scheme n f (sealed scheme n cs t) (length (sealed scheme n cs t)) x
    -- for a full season
    pub full : length (sealed scheme n cs t) ≡ book_limit → FullSeason

pub record Guarantee (scheme n f : ℕ) (cs : List Call) : Type 0 where
  -- a: the service refuses exactly the calls that the diary refuses, with the same number
  pub refused : answers (opened scheme n f).state cs ≡ refusals_in scheme n first (map argument_of cs)
  -- every season by itself
  pub season : (t : ℕ) → OfSeason scheme n f cs t
  -- all that the closes wrote is the books of the seasons, end to end
  pub end_to_end : book_written (opened scheme n f).state cs ≡
      flat_map (book_of scheme n) (all_entries (seasons_of scheme n cs))
  -- the record is in the diary's season, one of 0 to 65,535, and every past season is full
  pub present : (state_after (opened scheme n f).state cs).season ≡ length (seasons_of scheme n cs).past
  pub within : length (seasons_of scheme n cs).past ≤ last_season
  pub past_full : (t : ℕ) → t < length (seasons_of scheme n cs).past → length (sealed scheme n cs t) ≡ book_limit

-- the customer's third demand: from the record of an accepted open, for every list of calls
abbrev pub Claim : Type 0
Claim = (scheme n f : ℕ) → number_of (opened scheme n f).answer ≡ 0 → (cs : List Call) → Guarantee scheme n f cs

-- ---- beside it, without the premise on collisions: what demand 3 concludes, or a collision, given explicitly

abbrev pub DetectedOrCollided : Type 0
DetectedOrCollided =
    (scheme n f : ℕ) → number_of (opened scheme n f).answer ≡ 0 → (cs : List Call) (t d : ℕ) (x : Handed) →
    Premises scheme n f (sealed scheme n cs t) (wrote scheme n f cs t) d x →
    Detected scheme n f (sealed scheme n cs t) d x ⊎
    Collision sha256 (inputs_of scheme n d (sealed scheme n cs t)) (inputs_of scheme n d (ledger_days d x))

-- ---- an unaltered ledger reads clean, with no premise on collisions

pub record ReadsClean (scheme n f d : ℕ) (x : Handed) : Type 0 where
  pub check_done : (checking scheme n f d x).answer ≡ Ok tt
  pub read_done : (reading scheme n f d x).report.refusal ≡ 0
  pub clean : (reading scheme n f d x).report.clean ≡ true
  pub list_left : (reading scheme n f d x).list ≡ x.list

abbrev pub Unaltered : Type 0
Unaltered =
    (scheme n f : ℕ) → number_of (opened scheme n f).answer ≡ 0 → (cs : List Call) (t d : ℕ) (x : Handed) →
    Premises scheme n f (sealed scheme n cs t) (wrote scheme n f cs t) d x →
    ((g : ℕ) → g among days d → day_of (sealed scheme n cs t) g ≡ day_of (ledger_days d x) g) →
    ReadsClean scheme n f d x

-- ---- the premises can be met: for whatever was sealed in a season and each d up to it that 01 allows, by a ledger of
-- the same days and with each P that 19 lets pass

pub record SameDays (scheme n f : ℕ) (cs : List Call) (t d passed : ℕ) (x : Handed) : Type 0 where
  pub premises : Premises scheme n f (sealed scheme n cs t) (wrote scheme n f cs t) d x
  pub whole_book : x.book ≡ wrote scheme n f cs t
  pub same_days : ledger_days d x ≡ take d (sealed scheme n cs t)
  pub same_passed : x.passed ≡ passed
  pub reads_clean : ReadsClean scheme n f d x

abbrev pub PremisesMet : Type 0
PremisesMet =
    (scheme n f : ℕ) → number_of (opened scheme n f).answer ≡ 0 → (cs : List Call) (t d : ℕ) →
    d ≤ length (sealed scheme n cs t) → allowed_d n f d ≡ true →
    (passed : ℕ) → allowed_passed n d passed ≡ true →
    (x : Handed) × SameDays scheme n f cs t d passed x

-- ---- every season can be reached: for each t and each number of its days some list of calls seals so many in it

abbrev pub SeasonsReached : Type 0
SeasonsReached =
    (scheme n f : ℕ) → number_of (opened scheme n f).answer ≡ 0 → (t k : ℕ) → t ≤ last_season → 1 ≤ k → k ≤ book_limit →
    (cs : List Call) × (length (seasons_of scheme n cs).past ≡ t) × (length (sealed scheme n cs t) ≡ k)

-- ---- a book written by seal

-- the calls that seal stands for (SPEC 15.2): for each day, its bytes in one piece, and a close lent the book's rest
abbrev pub day_calls : ℕ → ℕ → List (List ℕ) → List ℕ → ℕ → List Call
day_calls scheme n ledger book g =
    add (day_of ledger g) ∷ close (drop (32 * length (chains scheme n (pred g))) book) ∷ []

abbrev pub seal_calls : ℕ → ℕ → ℕ → List (List ℕ) → List ℕ → List Call
seal_calls scheme n d ledger book = flat_map (day_calls scheme n ledger book) (days d)

pub record SealedSo (scheme n f d : ℕ) (ledger ends book : List ℕ) (cs : List Call) : Type 0 where
  -- they seal the ledger's days in season 0, and write what seal writes; the book's rest stays
  pub days_sealed : sealed scheme n cs 0 ≡ days_of ledger ends d
  pub book_is_written : (sealed_book scheme n f d ledger ends book).book ≡
      wrote scheme n f cs 0 ++ drop (length (wrote scheme n f cs 0)) book
  -- and so all that demand 3 says holds for them
  pub guarantee : Guarantee scheme n f cs

abbrev pub SealClaim : Type 0
SealClaim =
    (scheme n f d : ℕ) (ledger ends book : List ℕ) → (sealed_book scheme n f d ledger ends book).answer ≡ Ok tt →
    SealedSo scheme n f d ledger ends book (seal_calls scheme n d (days_of ledger ends d) book)
