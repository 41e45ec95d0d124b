-- Demand 3 with one season alone: the case of a list of calls that stays in season 0.
use mathlib.Core.Path.{◌≡◌, sym, ap, ◌∙◌}
use mathlib.Core.List.{List, map, flat_map}
use Prim.Native.Nat.{ℕ}
use native.Mathlib.Omega.{arith}
use lib.ListN.{length}
use Rattle.lists.proofs.Laws.{flat_map_one}
use Rattle.chains.specs.Book.{book_of}
use Rattle.journal.specs.Journal.{empty, refusals}
use Rattle.journal.specs.Seasons.{Seasons, first, refusals_in, all_entries, entries_of}
use Rattle.journal.specs.Run.{argument_of, journal_of, seasons_of}
use Rattle.journal.proofs.SeasonLaws.{only, stays_first}
use Rattle.daybook.specs.Detection.{Handed, Premises, SealedApart, Detected}
use Rattle.daybook.specs.Claim as seasons
use Rattle.daybook.specs.OneSeason.{sealed, wrote, AllPremises, OneSeason}
use Rattle.daybook.proofs.Claim.{begins_front, demand_3}

-- the claim over days and a book that are the same
module _ (s n f : ℕ) {E F : List (List ℕ)} {U W : List ℕ} (e : E ≡ F) (w : U ≡ W) (d : ℕ) (x : Handed) where
  moved : (Premises s n f E U d x → SealedApart s n E d x → Detected s n f E d x) → Premises s n f F W d x → SealedApart s n F d x → Detected s n f F d x
  moved found = rw (e, w) at found

pub one_season : OneSeason
one_season s n f opens cs none =
    record {
      refused = G.refused ∙ stays.1;
      book = book;
      every = every;
      all = λ x p nc. every (length (sealed s n cs)) x (all_fit x p) nc;
    }
  where
    G : seasons.Guarantee s n f cs
    G = demand_3 s n f opens cs

    stays : (seasons_of s n cs ≡ only (journal_of s n cs)) × (refusals_in s n first (map argument_of cs) ≡ refusals s n empty (map argument_of cs))
    stays = stays_first s n empty (map argument_of cs) none

    same_days : seasons.sealed s n cs 0 ≡ sealed s n cs
    same_days = ap (λ (d : Seasons). entries_of d 0) stays.0

    book : wrote s n f cs ≡ book_of s n (sealed s n cs)
    book = G.end_to_end ∙ ap (λ (d : Seasons). flat_map (book_of s n) (all_entries d)) stays.0 ∙ flat_map_one (book_of s n) (sealed s n cs)

    same_book : seasons.wrote s n f cs 0 ≡ wrote s n f cs
    same_book = (G.season 0).book ∙ ap (book_of s n) same_days ∙ sym book

    every : (d : ℕ) (x : Handed) → Premises s n f (sealed s n cs) (wrote s n f cs) d x → SealedApart s n (sealed s n cs) d x → Detected s n f (sealed s n cs) d x
    every d x = moved s n f same_days same_book d x ((G.season 0).every d x)

    all_fit : (x : Handed) → AllPremises s n f cs x → Premises s n f (sealed s n cs) (wrote s n f cs) (length (sealed s n cs)) x
    all_fit x p =
        record {
          days_sealed = omega arith;
          allowed = p.allowed;
          begins = begins_front s n (sealed s n cs) (wrote s n f cs) book (length (sealed s n cs)) (omega arith) x.book p.begins;
          ends_pass = p.ends_pass;
          work_long = p.work_long;
          outcomes_long = p.outcomes_long;
          list_long = p.list_long;
          passed_ok = p.passed_ok;
        }
