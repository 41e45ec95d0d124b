-- Demand 3 holds, and what stands beside it.
use mathlib.Core.{Path.◌≡◌, Path.sym, Path.ap, Path.◌∙◌, List.List, List.[], List.◌∷◌}
use Prim.Native.Nat.{ℕ, ◌*◌, ◌≤◌, ◌<◌}
use native.Mathlib.Omega.{arith}
use lib.ListN.{length, get_or, take, length-append, get_or-append}
use Rattle.lists.proofs.Laws.{get_d_mem}
use Rattle.refusals.specs.Refusals.{book_limit, number_of}
use Rattle.layouts.specs.Layouts.{setup_refusal, chains}
use Rattle.layouts.proofs.Coverage.{chains_front}
use Rattle.ledger.proofs.DayLaws.{part_front}
use Rattle.chains.specs.Book.{book_of}
use Rattle.chains.proofs.BookLaws.{book_length}
use Rattle.service.specs.Contract.{opened}
use Rattle.journal.specs.Run.{Call, state_after, seasons_of}
use Rattle.service.proofs.CallLaws.{opened_number}
use Rattle.journal.proofs.SeasonLaws.{InSeason, from_open, open_book, open_books}
use Rattle.daybook.specs.Detection.{Handed, Premises, SealedApart, Detected}
use Rattle.daybook.specs.Claim.{sealed, wrote, largest_d, AllPremises, FullSeason, OfSeason, Guarantee, Claim, DetectedOrCollided, Unaltered}
use Rattle.daybook.proofs.Detection.{detects, detects_or_collides, unchanged_clean}
use Rattle.daybook.proofs.Fronts.{front_is, largest_allowed, largest_most}

pub accepted_setup : (s n f : ℕ) → number_of (opened s n f).answer ≡ 0 → setup_refusal s n f ≡ 0
accepted_setup s n f e = sym (opened_number s n f) ∙ e

pub book_is : (s n f : ℕ) → number_of (opened s n f).answer ≡ 0 → (cs : List Call) (t : ℕ) → wrote s n f cs t ≡ book_of s n (sealed s n cs t)
book_is s n f opens cs t = open_book s n f opens cs t

-- a book that begins with all that was written begins with the values of the first d days
pub begins_front : (s n : ℕ) (E : List (List ℕ)) (W : List ℕ) → W ≡ book_of s n E → (d : ℕ) → d ≤ length E → (book : List ℕ) → take (length W) book ≡ W →
    take (32 * length (chains s n d)) book ≡ take (32 * length (chains s n d)) W
begins_front s n E W e d h book b =
    let r = chains_front s n d (length E) h in
    let l = ap length r.1 ∙ length-append (chains s n d) r.0 in
    let w = ap length e ∙ book_length s n E in
    sym (part_front (32 * length (chains s n d)) 0 (length W) book (omega (arith, w, l))) ∙ ap (take (32 * length (chains s n d))) b

module _ (s n f : ℕ) (opens : number_of (opened s n f).answer ≡ 0) (cs : List Call) where
  state_in : InSeason s n f (seasons_of s n cs) (state_after (opened s n f).state cs)
  state_in = (from_open s n f opens cs).state

  -- ---- season t

  module _ (t : ℕ) where
    abbrev E : List (List ℕ)
    E = sealed s n cs t

    all_fit : (d : ℕ) → d ≤ length (sealed s n cs t) → (x : Handed) → AllPremises s n f cs t d x → Premises s n f (sealed s n cs t) (wrote s n f cs t) d x
    all_fit d h x p =
        record {
          days_sealed = h;
          allowed = p.allowed;
          begins = begins_front s n E (wrote s n f cs t) (book_is s n f opens cs t) d h x.book p.begins;
          ends_pass = p.ends_pass;
          work_long = p.work_long;
          outcomes_long = p.outcomes_long;
          list_long = p.list_long;
          passed_ok = p.passed_ok;
        }

    found : (d : ℕ) → d ≤ length (sealed s n cs t) → (x : Handed) → AllPremises s n f cs t d x → SealedApart s n (sealed s n cs t) d x → Detected s n f (sealed s n cs t) d x
    found d h x p nc = detects s n f (accepted_setup s n f opens) E (wrote s n f cs t) (book_is s n f opens cs t) d x (all_fit d h x p) nc

    full_season : length (sealed s n cs t) ≡ book_limit → FullSeason s n f cs t
    full_season full =
        let D = largest_d n f in
        let few : D ≤ length E = omega (arith, full) in
        record {
          allowed = largest_allowed s n f (accepted_setup s n f opens);
          largest = largest_most s n f (accepted_setup s n f opens);
          front = ap (take (32 * length (chains s n D))) (book_is s n f opens cs t) ∙ front_is s n D E few;
          detected = found D few;
        }

    of_season_lem : OfSeason s n f cs t
    of_season_lem =
        record {
          book = book_is s n f opens cs t;
          every = λ d x fit nc. detects s n f (accepted_setup s n f opens) E (wrote s n f cs t) (book_is s n f opens cs t) d x fit nc;
          all = found (length E) (omega arith);
          full = full_season;
        }

  -- the entries of a past season are those in the diary's past
  past_full : (t : ℕ) → t < length (seasons_of s n cs).past → length (sealed s n cs t) ≡ book_limit
  past_full t h =
      let d = seasons_of s n cs in
      ap length (get_or-append d.past (d.present.entries ∷ []) [] t h) ∙ state_in.past_full (get_or d.past t []) (get_d_mem d.past t [] h)

  guaranteed : Guarantee s n f cs
  guaranteed =
      record {
        refused = (from_open s n f opens cs).refused;
        season = of_season_lem;
        end_to_end = open_books s n f opens cs;
        present = state_in.season_is;
        within = omega (arith, state_in.season_is, state_in.keeps.season_most);
        past_full = past_full;
      }

-- the customer's third demand
pub demand_3 : Claim
demand_3 s n f opens cs = guaranteed s n f opens cs

pub detected_or_collided : DetectedOrCollided
detected_or_collided s n f opens cs t d x fit =
    detects_or_collides s n f (accepted_setup s n f opens) (sealed s n cs t) (wrote s n f cs t) (book_is s n f opens cs t) d x fit

-- an unaltered ledger reads clean
pub unaltered_clean : Unaltered
unaltered_clean s n f opens cs t d x fit same =
    unchanged_clean s n f (accepted_setup s n f opens) (sealed s n cs t) (wrote s n f cs t) (book_is s n f opens cs t) d x fit same
