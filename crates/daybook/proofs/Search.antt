-- A search after checking finds the changed days: the table that it searches is the one that they give.
use mathlib.Core.Path.{◌≡◌, sym, ap, ◌∙◌}
use mathlib.Core.List.{List}
use Prim.Native.Nat.{ℕ, ◌-◌}
use native.Mathlib.Omega.{arith}
use lib.Dec.{leb}
use lib.ListN.{length, take, drop, length-map}
use lib.Seq.{take_at}
use borrow.Author.Tests.{le-leb}
use Rattle.lists.specs.Lists.{keep, Ascends}
use Rattle.evidence.specs.Evidence.{set_outcome, table_of, Gives}
use Rattle.evidence.proofs.ValueLaws.{changed_within, changed_ascends}
use Rattle.layouts.specs.Layouts.{chains}
use Rattle.acceptance.proofs.Runs.{keep_all}
use Rattle.reading.specs.Contract.{table_in}
use Rattle.reading.proofs.Statements.{refusal_said}
use Rattle.searching.specs.Searching.{search_refusal}
use Rattle.searching.specs.Statements.{SearchOf}
use Rattle.searching.proofs.Statements.{refuses_as_reading, search_told}
use Rattle.daybook.specs.Detection.{Handed, ledger_days, changed_days, checking, table_of_changes, Premises, Detected}
use Rattle.daybook.specs.Claim.{sealed, wrote}
use Rattle.daybook.specs.Search.{Sought, SearchClaim}
use Rattle.daybook.proofs.Claim.{demand_3}

module _ (n f d : ℕ) (E : List (List ℕ)) (W : List ℕ) (x : Handed) (fit : Premises 3 n f E W d x) (D : Detected 3 n f E d x) (limit : ℕ) where
  abbrev X : List ℕ
  X = changed_days E d x

  abbrev O : List ℕ
  O = (checking 3 n f d x).outcomes

  not_refused : search_refusal 3 n f d O (length x.list) ≡ 0
  not_refused =
      refuses_as_reading n f d x.passed O (length x.list) fit.passed_ok ∙ sym (refusal_said 3 n f d x.passed O x.list) ∙ D.read_done

  gives : Gives (chains 3 n d) d X (table_in 3 n d O)
  unfolding table_of
  gives =
      let e : table_in 3 n d O ≡ table_of_changes 3 n E d x =
      ap (take (length (chains 3 n d))) D.table_written ∙
      take_at (table_of_changes 3 n E d x) (drop (length (chains 3 n d)) x.outcomes) (length (chains 3 n d)) (length-map (chains 3 n d) (set_outcome X)) in
      record { within = changed_within d E (ledger_days d x); gives = sym e }

  ascends : Ascends 1 X
  ascends = changed_ascends d E (ledger_days d x)

  told : SearchOf 3 n f d O limit x.list
  told = search_told 3 n f d O limit x.list not_refused

  sought : Sought n f E d x limit
  sought =
      let S = told.state in
      record {
        progress = told.progress;
        answer = told.answer;
        few = S.undecided_few;
        counted = S.found_counted;
        found = S.changed_found X ascends gives;
        rest_left = S.rest;
        least = (S.between X ascends gives).0;
        most = (S.between X ascends gives).1;
        all_found = λ z. S.changed_found X ascends gives ∙ none_left told.progress.undecided z;
        bound = λ z. (told.finished z).bound X ascends gives;
      }
    where
      none_left : (u : ℕ) → u ≡ 0 → keep (λ g. leb g (d - u)) X ≡ X
      none_left u z = keep_all (λ g. leb g (d - u)) X (λ g m. let w = changed_within d E (ledger_days d x) g m in le-leb g (d - u) (omega arith))

pub search_claim : SearchClaim
search_claim n f opens cs t d x fit apart limit =
    sought n f d (sealed 3 n cs t) (wrote 3 n f cs t) x fit (((demand_3 3 n f opens cs).season t).every d x fit apart) limit
