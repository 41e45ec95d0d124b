-- The premises of demand 3 can be met: the sealed days end to end, with their running totals as ends.
use mathlib.Core.{Path.◌≡◌, Path.refl, Path.sym, Path.ap, Path.◌∙◌, Logic.inl, Logic.inr, Bool.true, Bool.false, Bool.cond}
use mathlib.Core.List.Memᴰ
use mathlib.Core.List.{List, [], ◌∷◌, map}
use Prim.Native.Nat.{ℕ, zero, suc, pred, ◌+◌, ◌*◌, ◌≤◌}
use native.Mathlib.Omega.{arith}
use lib.ListN.{length, get_or, take, replicate, length-append, length-replicate}
use lib.Seq.{length-take-le}
use borrow.Author.Tests.{leb-true}
use Rattle.lists.specs.Lists.{◌among◌, joined}
use Rattle.refusals.specs.Refusals.{day_limit}
use Rattle.refusals.proofs.TestLaws.{none_fails}
use Rattle.layouts.specs.Layouts.{chains}
use Rattle.ledger.specs.Ledger.{days_of, ends_from, ends_refusal}
use Rattle.acceptance.proofs.Runs.{days_bounds}
use Rattle.ledger.proofs.JoinLaws.{days_joined, ends_joined}
use Rattle.journal.specs.Journal.{Journal, empty, Argument, adds, closes, tests_of, refusal_of, entered}
use Rattle.journal.specs.Seasons.{Seasons, first, turns, next, current, kept_in, seasons_after, all_entries}
use Rattle.journal.specs.Run.{Call, argument_of, seasons_of}
use Rattle.journal.proofs.SeasonLaws.{by_refusal}
use Rattle.daybook.specs.{Detection.Handed, Detection.Premises, Claim.sealed, Claim.wrote, Claim.PremisesMet}
use Rattle.daybook.proofs.Fronts.{first_days}
use Rattle.daybook.proofs.Claim.{unaltered_clean}

-- ---- no entry is over the limit

pub record Limited (j : Journal) : Type 0 where
  pub entries_limited : (e : List ℕ) → e among j.entries → length e ≤ day_limit
  pub day_limited : length j.day ≤ day_limit

limited_entered : (s n : ℕ) (j : Journal) (a : Argument) → refusal_of s n j a ≡ 0 → Limited j → Limited (entered j a)
limited_entered s n j (adds piece) e l =
    let k = leb-true (length j.day + length piece) day_limit (none_fails (tests_of s n j (adds piece)) e).1.0 in
    record { entries_limited = l.entries_limited; day_limited = rw (length-append j.day piece) k }
limited_entered s n j (closes size) e l =
    record {
      entries_limited = λ x m. elim (Memᴰ.append_cases j.entries m) [ inl k ↦ l.entries_limited x k | inr k ↦ rw (Memᴰ.eq_of_singleton k) l.day_limited ];
      day_limited = omega arith;
    }

limited_empty : Limited empty
limited_empty = record { entries_limited = λ e m. elim m [ ]; day_limited = omega arith }

-- in each season
record AllLimited (d : Seasons) : Type 0 where
  past_limited : (E : List (List ℕ)) → E among d.past → (e : List ℕ) → e among E → length e ≤ day_limit
  present_limited : Limited d.present

limited_current : (d : Seasons) → AllLimited d → AllLimited (current d)
unfolding current
limited_current d l = elim (turns d) as (λ b. AllLimited (cond b (next d) d)) [
  | true ↦ record {
    past_limited = λ E m. elim (Memᴰ.append_cases d.past m) [
      | inl k ↦ l.past_limited E k
      | inr k ↦ rw (Memᴰ.eq_of_singleton k) l.present_limited.entries_limited
    ];
    present_limited = limited_empty;
  }
  | false ↦ l
]

limited_kept : (s n : ℕ) (d : Seasons) (a : Argument) → AllLimited d → AllLimited (kept_in s n d a)
limited_kept s n d a l = by_refusal s n d a AllLimited
    (λ e. let c = limited_current d l in
    record { past_limited = c.past_limited; present_limited = limited_entered s n (current d).present a e c.present_limited })
    (λ x e. l)

limited_after : (s n : ℕ) (args : List Argument) (d : Seasons) → AllLimited d → AllLimited (seasons_after s n d args)
limited_after s n [] d l = l
limited_after s n (a ∷ args) d l = limited_after s n args (kept_in s n d a) (limited_kept s n d a l)

-- the entries of season t
limited_in : (l : List (List (List ℕ))) (t : ℕ) → ((E : List (List ℕ)) → E among l → (e : List ℕ) → e among E → length e ≤ day_limit) → (e : List ℕ) → e among get_or l t [] → length e ≤ day_limit
limited_in [] t h e m = elim m [ ]
limited_in (E ∷ l) zero h e m = h E (Memᴰ.head refl) e m
limited_in (E ∷ l) (suc t) h e m = limited_in l t (λ F k. h F (Memᴰ.tail k)) e m

pub limited : (s n : ℕ) (cs : List Call) (t : ℕ) (e : List ℕ) → e among sealed s n cs t → length e ≤ day_limit
limited s n cs t e m =
    let d = seasons_of s n cs in
    let l = limited_after s n (map argument_of cs) first (record { past_limited = λ E k. elim k [ ]; present_limited = limited_empty }) in
    limited_in (all_entries d) t
    (λ E k. elim (Memᴰ.append_cases d.past k) [
      | inl h ↦ l.past_limited E h
      | inr h ↦ rw (Memᴰ.eq_of_singleton h) l.present_limited.entries_limited
    ]) e m

-- a front of a list has its members
take_mem : {A : Type 0} (d : ℕ) (l : List A) (x : A) → x among take d l → x among l
take_mem zero l x m = elim m [ ]
take_mem (suc d) [] x m = m
take_mem (suc d) (y ∷ l) x m = elim (Memᴰ.cases_cons m) [ inl e ↦ Memᴰ.head e | inr k ↦ Memᴰ.tail (take_mem d l x k) ]

pub premises_met : PremisesMet
premises_met s n f opens cs t d few a p ok = (
  x,
  record {
    premises = fit;
    whole_book = refl;
    same_days = same;
    same_passed = refl;
    reads_clean = unaltered_clean s n f opens cs t d x fit
        (λ g m. let b = days_bounds d g m in first_days d (sealed s n cs t) g b.0 b.1 ∙ ap (λ (l : List (List ℕ)). get_or l (pred g) []) (sym same));
  },
)
  where
    E : List (List ℕ)
    E = take d (sealed s n cs t)

    size : length E ≡ d
    size = length-take-le d (sealed s n cs t) few

    x : Handed
    x = record { ledger = joined E; ends = ends_from 0 E; book = wrote s n f cs t; passed = p; work = replicate (32 * d) 0; outcomes = replicate (length (chains s n d)) 0; list = replicate d 0 }

    same : days_of (joined E) (ends_from 0 E) d ≡ E
    same = ap (days_of (joined E) (ends_from 0 E)) (sym size) ∙ days_joined E

    fit : Premises s n f (sealed s n cs t) (wrote s n f cs t) d x
    fit =
        record {
          days_sealed = few;
          allowed = a;
          begins = refl;
          ends_pass = ap (λ (k : ℕ). ends_refusal k (ends_from 0 E) (length (joined E))) (sym size) ∙ ends_joined E (λ e m. limited s n cs t e (take_mem d (sealed s n cs t) e m));
          work_long = omega (arith, length-replicate {A = ℕ} (32 * d) 0);
          outcomes_long = omega (arith, length-replicate {A = ℕ} (length (chains s n d)) 0);
          list_long = omega (arith, length-replicate {A = ℕ} d 0);
          passed_ok = ok;
        }
