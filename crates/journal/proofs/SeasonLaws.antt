-- Every list of calls, season after season: the service refuses what the diary refuses, after each call the record holds
-- what the present season says, and each season's book is its entries'.
use mathlib.Core.Path.{◌≡◌, refl, sym, ap, ap₂, ◌∙◌}
use mathlib.Core.Logic.{inl, inr}
use mathlib.Core.Bool.{Bool, true, false, cond}
use mathlib.Core.List.Memᴰ
use mathlib.Core.List.{List, [], ◌∷◌, ◌++◌, map, flat_map, append_assoc, append-nil}
use Prim.Native.Nat.{ℕ, zero, suc, ◌≤◌, ◌<◌}
use native.Mathlib.Omega.{arith}
use lib.Dec.{leb, ltb}
use lib.ListN.{length, get_or, length-append}
use lib.Seq.{get_or-append_seam}
use borrow.Author.Tests.{leb-true, lt-leb, ltb-true, ltb-false, le-ltb, eqb-true, eqb-false}
use Rattle.lists.specs.Lists.{◌among◌}
use Rattle.lists.proofs.Laws.{split, and_both, flat_map_append, flat_map_one}
use Rattle.refusals.specs.Refusals.{book_limit, last_season, number_of, unless_refused}
use Rattle.layouts.specs.Layouts.{setup_refusal}
use Rattle.chains.specs.Book.{book_of}
use Rattle.chains.proofs.BookLaws.{book_none}
use Rattle.service.specs.declared.Record.{Record}
use Rattle.service.specs.Contract as service
use Rattle.service.specs.Contract.{at_start, fresh, opened, turned, grown, next_day, added, closing}
use Rattle.service.proofs.RecordLaws.{current_turned, current_same}
use Rattle.service.proofs.CallLaws.{opened_number, closing_number, closing_none}
use Rattle.journal.specs.Journal.{Journal, empty, Argument, adds, closes, refusal_of, entered, kept, journal_after, refusals}
use Rattle.journal.specs.Seasons.{Seasons, first, turns, next, current, refusal_in, entered_in, kept_in, seasons_after, refusals_in, all_entries, entries_of}
use Rattle.journal.specs.Run.{Call, add, close, argument_of, Called, called, state_after, answers, book_written, called_all, of_season, made_in, wrote_all, seasons_of}
use Rattle.journal.proofs.RunLaws.{Keeps, keeps_start, keeps_open, record_allowed, add_same, close_same, number_called, keeps_called, book_called}

-- ---- the entries of a season

-- a season without entries adds none
entries_none : (l : List (List (List ℕ))) (t : ℕ) → get_or (l ++ ([] ∷ [])) t [] ≡ get_or l t []
entries_none [] zero = refl
entries_none [] (suc t) = refl
entries_none (x ∷ l) zero = refl
entries_none (x ∷ l) (suc t) = entries_none l t

-- a last season does not touch another
entries_other : (l : List (List (List ℕ))) (E F : List (List ℕ)) (t : ℕ) → (length l ≡ t → ⊥) → get_or (l ++ (E ∷ [])) t [] ≡ get_or (l ++ (F ∷ [])) t []
entries_other [] E F zero h = absurd (h refl)
entries_other [] E F (suc t) h = refl
entries_other (x ∷ l) E F zero h = refl
entries_other (x ∷ l) E F (suc t) h = entries_other l E F t (λ e. h (ap suc e))

-- the present season's are those of its number
pub entries_present : (d : Seasons) (t : ℕ) → length d.past ≡ t → entries_of d t ≡ d.present.entries
entries_present d t e = rw (← e) (get_or-append_seam d.past d.present.entries [] [])

-- ---- the turn of the diary

pub current_next : (d : Seasons) → turns d ≡ true → current d ≡ next d
unfolding current
current_next d e = rw e

pub current_stays : (d : Seasons) → turns d ≡ false → current d ≡ d
unfolding current
current_stays d e = rw e

-- it changes no season's entries: the new one has none
pub entries_current : (d : Seasons) (t : ℕ) → entries_of (current d) t ≡ entries_of d t
entries_current d t = elim (split (turns d)) [
  | inl e ↦ rw (current_next d e) (entries_none (all_entries d) t)
  | inr e ↦ rw (current_stays d e)
]

-- ---- a call that is taken, and one that is refused

pub kept_taken : (s n : ℕ) (d : Seasons) (a : Argument) → refusal_in s n d a ≡ 0 → kept_in s n d a ≡ entered_in (current d) a
kept_taken s n d a e = rw e

pub kept_refused : (s n : ℕ) (d : Seasons) (a : Argument) (x : ℕ) → refusal_in s n d a ≡ suc x → kept_in s n d a ≡ d
kept_refused s n d a x e = rw e

-- what holds of both holds after each call
pub by_refusal : (s n : ℕ) (d : Seasons) (a : Argument) (P : Seasons → Type 0) → (refusal_in s n d a ≡ 0 → P (entered_in (current d) a)) →
    ((x : ℕ) → refusal_in s n d a ≡ suc x → P d) → P (kept_in s n d a)
by_refusal s n d a P taken refused = go (refusal_in s n d a) refl
  where
    go : (x : ℕ) → refusal_in s n d a ≡ x → P (kept_in s n d a)
    go zero e = rw (kept_taken s n d a e) (taken e)
    go (suc x) e = rw (kept_refused s n d a x e) (refused x e)

-- whether a call is one of season t
pub of_season_is : (t : ℕ) (c : Called) → of_season t c ≡ true → c.state.season ≡ t
of_season_is t c e = eqb-true c.state.season t e

pub of_season_not : (t : ℕ) (c : Called) → of_season t c ≡ false → c.state.season ≡ t → ⊥
of_season_not t c e = eqb-false c.state.season t e

-- ---- the record in its season

pub record InSeason (s n f : ℕ) (d : Seasons) (r : Record) : Type 0 where
  pub keeps : Keeps s n f d.present r
  pub season_is : r.season ≡ length d.past
  -- each past season is full
  pub past_full : (E : List (List ℕ)) → E among d.past → length E ≡ book_limit

-- the next season is a fresh service's, but for its number
keeps_turned : {s n f : ℕ} {j : Journal} {r : Record} → Keeps s n f j r → r.season < last_season → Keeps s n f empty (turned r)
unfolding turned
keeps_turned {s} {n} {f} {r = r} k l = rw (k.scheme_is, k.n_is, k.f_is, k.start_is) (keeps_start s n f (suc r.season) k.setup_ok (omega arith))

turned_season : (r : Record) → (turned r).season ≡ suc r.season
unfolding turned at_start
turned_season r = refl

module _ {s n f : ℕ} {d : Seasons} {r : Record} (k : InSeason s n f d r) where
  -- diary and record turn together
  turns_same : service.turns r ≡ turns d
  turns_same = rw (k.keeps.days_are, k.season_is)

  pub in_current : InSeason s n f (current d) (service.current r)
  in_current = elim (split (turns d)) [
    | inl e ↦
        let q = turns_same ∙ e in
        let p = and_both (leb book_limit (length d.present.entries)) (ltb (length d.past) last_season) e in
        let full = leb-true book_limit (length d.present.entries) p.0 in
        let left = ltb-true (length d.past) last_season p.1 in
        rw (current_next d e, current_turned r refl q) (record {
          keeps = keeps_turned k.keeps (omega (arith, k.season_is));
          season_is = turned_season r ∙ ap suc k.season_is ∙ (let l = length-append d.past (d.present.entries ∷ []) in omega (arith, l));
          past_full = λ E m. elim (Memᴰ.append_cases d.past m) [
            | inl h ↦ k.past_full E h
            | inr h ↦ ap length (Memᴰ.eq_of_singleton h) ∙ (let most = k.keeps.days_most in omega arith)
          ];
        })
    | inr e ↦ rw (current_stays d e, current_same r refl (turns_same ∙ e)) k
  ]

  -- ---- one call

  pub number_in : (c : Call) → (called r c).number ≡ refusal_in s n d (argument_of c)
  number_in c = number_called r (record_allowed k.keeps) in_current.keeps c

-- what a refused call leaves
pub record Left (r : Record) (c : Called) : Type 0 where
  pub state_is : c.state ≡ r
  pub wrote_none : c.wrote ≡ []
  pub blocks_none : c.blocks ≡ 0
  pub closed_none : c.closed ≡ 0

module _ {s n f : ℕ} {d : Seasons} {r : Record} (k : InSeason s n f d r) where
  allowed : service.allowed_record r ≡ true
  allowed = record_allowed k.keeps

  made : InSeason s n f (current d) (service.current r)
  made = in_current k

  pub refused_left : (c : Call) (x : ℕ) → refusal_in s n d (argument_of c) ≡ suc x → Left r (called r c)
  unfolding added closing
  refused_left (add piece) x e =
      let q = add_same r allowed made.keeps piece ∙ e in
      rw q (record { state_is = refl; wrote_none = refl; blocks_none = refl; closed_none = refl })
  refused_left (close part) x e =
      let q = close_same r allowed made.keeps (length part) ∙ e in
      record {
        state_is = rw q refl;
        wrote_none = rw (closing_none r part q) refl;
        blocks_none = rw q refl;
        closed_none = rw (closing_number r part ∙ q) refl;
      }

  -- a call that is taken is one of the season that it is made on
  pub season_taken : (c : Call) → refusal_in s n d (argument_of c) ≡ 0 → (called r c).state.season ≡ length (current d).past
  unfolding added closing grown next_day
  season_taken (add piece) e = rw (add_same r allowed made.keeps piece ∙ e) made.season_is
  season_taken (close part) e = rw (close_same r allowed made.keeps (length part) ∙ e) made.season_is

  pub in_called : (c : Call) → InSeason s n f (kept_in s n d (argument_of c)) (called r c).state
  in_called c = by_refusal s n d (argument_of c) (λ e. InSeason s n f e (called r c).state)
      (λ e. record { keeps = keeps_called r allowed made.keeps c e; season_is = season_taken c e; past_full = made.past_full })
      (λ x e. rw (refused_left c x e).state_is k)

  -- ---- what a call writes, by season

  abbrev part : ℕ → Called → List ℕ
  part t c = cond (of_season t c) c.wrote []

  part_none : (t : ℕ) (c : Called) → c.wrote ≡ [] → part t c ≡ []
  part_none t c e = rw e (either (of_season t c))
    where
      either : (b : Bool) → cond {A = List ℕ} b [] [] ≡ []
      either true = refl
      either false = refl

  pub taken_entries : (c : Call) (t : ℕ) → (length (current d).past ≡ t → ⊥) → entries_of (entered_in (current d) (argument_of c)) t ≡ entries_of d t
  taken_entries c t h = entries_other (current d).past (entered (current d).present (argument_of c)).entries (current d).present.entries t h ∙ entries_current d t

  book_taken : (c : Call) (t : ℕ) → refusal_in s n d (argument_of c) ≡ 0 →
      book_of s n (entries_of d t) ++ part t (called r c) ≡ book_of s n (entries_of (entered_in (current d) (argument_of c)) t)
  book_taken c t e = elim (split (of_season t (called r c))) [
    | inl q ↦
        let w = sym (season_taken c e) ∙ of_season_is t (called r c) q in
        let here = sym (entries_current d t) ∙ entries_present (current d) t w in
        rw (q, here, entries_present (entered_in (current d) (argument_of c)) t w) (book_called r allowed made.keeps c e)
    | inr q ↦
        let w = taken_entries c t (λ h. of_season_not t (called r c) q (season_taken c e ∙ h)) in
        rw (q, w) (append-nil (book_of s n (entries_of d t)))
  ]

  pub book_in : (c : Call) (t : ℕ) → book_of s n (entries_of d t) ++ part t (called r c) ≡ book_of s n (entries_of (kept_in s n d (argument_of c)) t)
  book_in c t = by_refusal s n d (argument_of c) (λ e. book_of s n (entries_of d t) ++ part t (called r c) ≡ book_of s n (entries_of e t))
      (book_taken c t)
      (λ x e. rw (part_none t (called r c) (refused_left c x e).wrote_none) (append-nil (book_of s n (entries_of d t))))

-- the calls of a season, one more in front
wrote_more : (t : ℕ) (c : Called) (made : List Called) → wrote_all (made_in t (c ∷ made)) ≡ cond (of_season t c) c.wrote [] ++ wrote_all (made_in t made)
wrote_more t c made = elim (of_season t c) as (λ b. wrote_all (cond b (c ∷ made_in t made) (made_in t made)) ≡ cond b c.wrote [] ++ wrote_all (made_in t made)) [ true ↦ refl | false ↦ refl ]

-- ---- the books of all seasons, end to end

module _ (s n : ℕ) where
  abbrev books : Seasons → List ℕ
  books d = flat_map (book_of s n) (all_entries d)

  books_last : (l : List (List (List ℕ))) (E : List (List ℕ)) → flat_map (book_of s n) (l ++ (E ∷ [])) ≡ flat_map (book_of s n) l ++ book_of s n E
  books_last l E = flat_map_append (book_of s n) l (E ∷ []) ∙ ap (λ (b : List ℕ). flat_map (book_of s n) l ++ b) (flat_map_one (book_of s n) E)

  books_current : (d : Seasons) → books (current d) ≡ books d
  books_current d = elim (split (turns d)) [
    | inl e ↦ rw (current_next d e)
        (books_last (all_entries d) [] ∙ ap (λ (b : List ℕ). books d ++ b) (book_none s n) ∙ append-nil (books d))
    | inr e ↦ rw (current_stays d e)
  ]

module _ {s n f : ℕ} {d : Seasons} {r : Record} (k : InSeason s n f d r) where
  books_in : (c : Call) → books s n d ++ (called r c).wrote ≡ books s n (kept_in s n d (argument_of c))
  books_in c = by_refusal s n d (argument_of c) (λ e. books s n d ++ (called r c).wrote ≡ books s n e)
      (λ e. let m = current d in
      ap (λ (b : List ℕ). b ++ (called r c).wrote) (sym (books_current s n d) ∙ books_last s n m.past m.present.entries) ∙
      append_assoc (flat_map (book_of s n) m.past) (book_of s n m.present.entries) (called r c).wrote ∙
      ap (λ (b : List ℕ). flat_map (book_of s n) m.past ++ b) (book_called r (record_allowed k.keeps) (in_current k).keeps c e) ∙
      sym (books_last s n m.past (entered m.present (argument_of c)).entries))
      (λ x e. rw (refused_left k c x e).wrote_none (append-nil (books s n d)))

-- ---- every list of calls

-- from a diary and a record that holds it
pub record From (s n f : ℕ) (d : Seasons) (r : Record) (cs : List Call) : Type 0 where
  pub refused : answers r cs ≡ refusals_in s n d (map argument_of cs)
  pub book : (t : ℕ) → book_of s n (entries_of d t) ++ wrote_all (made_in t (called_all r cs)) ≡ book_of s n (entries_of (seasons_after s n d (map argument_of cs)) t)
  pub whole : books s n d ++ book_written r cs ≡ books s n (seasons_after s n d (map argument_of cs))
  pub state : InSeason s n f (seasons_after s n d (map argument_of cs)) (state_after r cs)

pub all_calls : {s n f : ℕ} {d : Seasons} {r : Record} → InSeason s n f d r → (cs : List Call) → From s n f d r cs
all_calls {s} {n} {f} {d} {r} k [] =
    record { refused = refl; book = λ t. append-nil (book_of s n (entries_of d t)); whole = append-nil (books s n d); state = k }
all_calls {s} {n} {f} {d} {r} k (c ∷ cs) =
    let later = all_calls {s = s} {n = n} {f = f} {d = kept_in s n d (argument_of c)} {r = (called r c).state} (in_called k c) cs in
    let made = called_all (called r c).state cs in
    record {
      refused = ap₂ (λ (x : ℕ) (l : List ℕ). x ∷ l) (number_in k c) later.refused;
      book = λ t.
          ap (λ (l : List ℕ). book_of s n (entries_of d t) ++ l) (wrote_more t (called r c) made) ∙
          sym (append_assoc (book_of s n (entries_of d t)) (cond (of_season t (called r c)) (called r c).wrote []) (wrote_all (made_in t made))) ∙
          ap (λ (l : List ℕ). l ++ wrote_all (made_in t made)) (book_in k c t) ∙ later.book t;
      whole =
          sym (append_assoc (books s n d) (called r c).wrote (book_written (called r c).state cs)) ∙
          ap (λ (l : List ℕ). l ++ book_written (called r c).state cs) (books_in k c) ∙ later.whole;
      state = later.state;
    }

-- ---- from an accepted open

open_season : (s n f : ℕ) → setup_refusal s n f ≡ 0 → (opened s n f).state.season ≡ 0
unfolding opened fresh at_start
open_season s n f e = rw e

pub in_open : (s n f : ℕ) → number_of (opened s n f).answer ≡ 0 → InSeason s n f first (opened s n f).state
in_open s n f e =
    let ok = sym (opened_number s n f) ∙ e in
    record { keeps = keeps_open s n f ok; season_is = open_season s n f ok; past_full = λ E m. elim m [ ] }

pub from_open : (s n f : ℕ) → number_of (opened s n f).answer ≡ 0 → (cs : List Call) → From s n f first (opened s n f).state cs
from_open s n f e cs = all_calls (in_open s n f e) cs

-- the book of season t, and all books end to end
pub no_entries : (t : ℕ) → entries_of first t ≡ []
no_entries zero = refl
no_entries (suc t) = refl

module _ (s n f : ℕ) (e : number_of (opened s n f).answer ≡ 0) (cs : List Call) where
  pub open_book : (t : ℕ) → wrote_all (made_in t (called_all (opened s n f).state cs)) ≡ book_of s n (entries_of (seasons_of s n cs) t)
  open_book t =
      ap (λ (l : List ℕ). l ++ wrote_all (made_in t (called_all (opened s n f).state cs))) (sym (ap (book_of s n) (no_entries t) ∙ book_none s n)) ∙
      (from_open s n f e cs).book t

  pub open_books : book_written (opened s n f).state cs ≡ flat_map (book_of s n) (all_entries (seasons_of s n cs))
  open_books =
      ap (λ (l : List ℕ). l ++ book_written (opened s n f).state cs) (sym (flat_map_one (book_of s n) [] ∙ book_none s n)) ∙
      (from_open s n f e cs).whole

-- one list after another
pub seasons_append : (s n : ℕ) (xs ys : List Argument) (d : Seasons) → seasons_after s n d (xs ++ ys) ≡ seasons_after s n (seasons_after s n d xs) ys
seasons_append s n [] ys d = refl
seasons_append s n (a ∷ xs) ys d = seasons_append s n xs ys (kept_in s n d a)

-- ---- a list that stays in season 0

-- a full season is 5 to whatever call
full_5 : (s n : ℕ) (j : Journal) (a : Argument) → book_limit ≤ length j.entries → refusal_of s n j a ≡ 5
full_5 s n j (adds piece) h = rw (le-ltb (length j.entries) book_limit h)
full_5 s n j (closes size) h = rw (le-ltb (length j.entries) book_limit h)

abbrev pub only : Journal → Seasons
only j = record { past = []; present = j }

module _ (s n : ℕ) where
  none_left : (j : Journal) (a : Argument) → (5 ≡ refusal_of s n j a → ⊥) → current (only j) ≡ only j
  none_left j a e = elim (split (ltb (length j.entries) book_limit)) [
    | inl l ↦ current_stays (only j) (rw (lt-leb book_limit (length j.entries) (ltb-true (length j.entries) book_limit l)))
    | inr l ↦ absurd (e (sym (full_5 s n j a (ltb-false (length j.entries) book_limit l))))
  ]

  kept_only : (j : Journal) (a : Argument) → current (only j) ≡ only j → kept_in s n (only j) a ≡ only (kept s n j a)
  kept_only j a e = rw e (go (refusal_of s n j a))
    where
      go : (x : ℕ) → unless_refused x (entered_in (only j) a) (only j) ≡ only (unless_refused x (entered j a) j)
      go zero = refl
      go (suc x) = refl

  pub taken_only : (j : Journal) (a : Argument) → refusal_of s n j a ≡ 0 → kept_in s n (only j) a ≡ only (entered j a)
  taken_only j a e = kept_only j a (none_left j a (λ q. let z : ◌≡◌ {A = ℕ} 5 0 = q ∙ e in absurd (omega arith))) ∙ rw e

  pub stays_first : (j : Journal) (args : List Argument) → (5 among refusals s n j args → ⊥) →
      (seasons_after s n (only j) args ≡ only (journal_after s n j args)) × (refusals_in s n (only j) args ≡ refusals s n j args)
  stays_first j [] h = (refl, refl)
  stays_first j (a ∷ args) h =
      let e = none_left j a (λ q. h (Memᴰ.head q)) in
      let later = stays_first (kept s n j a) args (λ m. h (Memᴰ.tail m)) in
      let q = kept_only j a e in (
        ap (λ (d : Seasons). seasons_after s n d args) q ∙ later.0,
        ap₂ (λ (x : ℕ) (l : List ℕ). x ∷ l) (ap (λ (d : Seasons). refusal_of s n d.present a) e) (ap (λ (d : Seasons). refusals_in s n d args) q ∙ later.1),
      )
