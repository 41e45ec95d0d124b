-- Every list of calls compresses the blocks that are forecast from the lengths of the days closed.
use mathlib.Core.Path.{◌≡◌, refl, sym, ap, ◌∙◌}
use mathlib.Core.Logic.{◌⊎◌, inl, inr}
use mathlib.Core.Bool.{true, false, cond}
use mathlib.Core.List.Memᴰ
use mathlib.Core.List.{List, [], ◌∷◌, ◌++◌, map, append_assoc, append-nil}
use Prim.Native.Nat.{ℕ, zero, suc, ◌+◌, ◌-◌, ◌*◌, ◌/◌, ◌%◌, ◌≤◌}
use native.Mathlib.Nat.{le_refl}
use native.Mathlib.Omega.{arith}
use lib.Dec.{eqb, leb, ltb}
use lib.ListN.{length, get_or, take, length-append, length-map}
use lib.Seq.{length-take-le}
use borrow.Author.Tests.{leb-true, le-leb, eq-eqb, ne_eqb}
use Rattle.lists.specs.Lists.{◌among◌, every}
use Rattle.lists.proofs.Laws.{split, and_both}
use Rattle.refusals.specs.Refusals.{book_limit, day_limit, last_season, number_of}
use Rattle.refusals.proofs.TestLaws.{number_passed}
use Rattle.layouts.specs.Layouts.{allowed_d}
use Rattle.chains.specs.declared.Value.{Value}
use Rattle.chains.specs.Step.{links_of}
use Rattle.chains.proofs.BlockLaws.{Eights}
use Rattle.service.specs.declared.Record.{Record}
use Rattle.service.specs.Contract as service
use Rattle.service.specs.Contract.{opened, added, grown_blocks, closing, closed_blocks}
use Rattle.service.proofs.BlockLaws.{Typed, grown_blocks_lem, closed_blocks_lem}
use Rattle.service.proofs.CallLaws.{closing_number}
use Rattle.journal.specs.Journal.{Journal, Argument, adds, closes}
use Rattle.journal.specs.Seasons.{Seasons, first, turns, next, current, refusal_in, entered_in, kept_in, seasons_after, entries_of}
use Rattle.journal.specs.Run.{Call, add, close, argument_of, Called, called, called_all, blocks_to, of_season, made_in}
use Rattle.journal.proofs.RunLaws.{record_allowed, add_same, close_same}
use Rattle.journal.proofs.SeasonLaws.{by_refusal, of_season_is, of_season_not, current_next, current_stays, entries_current, entries_present, InSeason, in_current, in_called, in_open, season_taken, refused_left, taken_entries, no_entries}
use Rattle.record_bytes.specs.Bytes.{Slots, Fits}
use Rattle.sizing.specs.Sizing.{day_blocks, blocks_through, short_day, sizing_tested}
use Rattle.sizing.proofs.LengthLaws.{Passed, blocks_front, forecast_sized, passes_sizing}
use Rattle.daybook.specs.Claim.{sealed}
use Rattle.daybook.specs.Sizing.{lengths, blocks_taken, ForecastMet, ForecastsMet}
use Rattle.daybook.proofs.Claim.{accepted_setup}
use Rattle.daybook.proofs.Detection.{layout_ok}
use Rattle.daybook.proofs.Meets.{limited}
use Rattle.daybook.proofs.Records.{Chained, chained_open, chained_current, chained_called, fits_kept}

-- ---- a record of a list of calls has the sizes of its type

eights : (l : List Value) → Slots l → Eights l
eights [] s = tt
eights (v ∷ vs) s = (s.0.0, eights vs s.1)

sized : (r : Record) → Fits r → Typed r
sized r z =
    record {
      hash_many = z.hash_fits.0;
      block_many = z.block_many;
      black_many = z.black_fits.0;
      running_many = z.running_many;
      eights = eights r.running z.running_fit;
    }

-- ---- one call of a season: its entries E become N, and the whole blocks of its open day, w before, are v then

-- a call that closes no day
record Stays (E N : List (List ℕ)) (w v blocks closed : ℕ) : Type 0 where
  none : closed ≡ 0
  same : N ≡ E
  more : w + blocks ≡ v

-- an accepted close
record Closes (s n : ℕ) (E N : List (List ℕ)) (w v blocks closed : ℕ) : Type 0 where
  day : List ℕ
  one : closed ≡ 1
  entry : N ≡ E ++ (day ∷ [])
  fresh : v ≡ 0
  day_blocks_lem : w + blocks ≡ day_blocks (length day) + 2 * links_of s n (suc (length E))

-- a call of another season
record Elsewhere (E N : List (List ℕ)) (w v : ℕ) : Type 0 where
  same : N ≡ E
  still : v ≡ w

abbrev whole : Journal → ℕ
whole j = (length j.day + 1) / 64

-- of the open day of season t: only the present season has bytes in it
abbrev whole_in : Seasons → ℕ → ℕ
whole_in d t = cond (eqb (length d.past) t) (whole d.present) 0

whole_here : (d : Seasons) (t : ℕ) → length d.past ≡ t → whole_in d t ≡ whole d.present
whole_here d t e = rw (eq-eqb (length d.past) t e)

whole_away : (d : Seasons) (t : ℕ) → (length d.past ≡ t → ⊥) → whole_in d t ≡ 0
whole_away d t h = rw (ne_eqb (length d.past) t h)

whole_none : (d : Seasons) (t : ℕ) → length d.present.day ≡ 0 → whole_in d t ≡ 0
whole_none d t e = elim (split (eqb (length d.past) t)) [ inl q ↦ rw (q, e) | inr q ↦ rw q ]

module _ {s n f : ℕ} {d : Seasons} {r : Record} (k : InSeason s n f d r) (t : ℕ) where
  -- a turn finds an empty open day and leaves one
  whole_current : whole_in (current d) t ≡ whole_in d t
  whole_current = elim (split (turns d)) [
    | inl e ↦
        let full = leb-true book_limit (length d.present.entries) (and_both (leb book_limit (length d.present.entries)) (ltb (length d.past) last_season) e).0 in
        rw (current_next d e) (whole_none (next d) t refl) ∙ sym (whole_none d t (k.keeps.full_empty full))
    | inr e ↦ rw (current_stays d e)
  ]

  module _ (h : Chained r) where
    made : InSeason s n f (current d) (service.current r)
    made = in_current k

    typed : Typed (service.current r)
    typed = sized (service.current r) (fits_kept made.keeps (chained_current r h))

    abbrev allowed : service.allowed_record r ≡ true
    allowed = record_allowed k.keeps

    -- the blocks in the results of calls that are taken
    added_blocks : (piece : List ℕ) → refusal_in s n d (adds piece) ≡ 0 → (called r (add piece)).blocks ≡ grown_blocks (service.current r) piece
    unfolding added
    added_blocks piece e = rw (add_same r (record_allowed k.keeps) made.keeps piece ∙ e)

    closing_blocks : (part : List ℕ) → refusal_in s n d (closes (length part)) ≡ 0 → ((called r (close part)).blocks ≡ closed_blocks (service.current r)) × ((called r (close part)).closed ≡ 1)
    unfolding closing
    closing_blocks part e =
        let q = close_same r (record_allowed k.keeps) made.keeps (length part) ∙ e in
        (rw q refl, rw (closing_number r part ∙ q) refl)

    abbrev at : Seasons → List (List ℕ)
    at c = entries_of c t

    abbrev after : Call → Seasons
    after c = entered_in (current d) (argument_of c)

    -- taken, in this season
    module _ (here : length (current d).past ≡ t) where
      entries_here : entries_of d t ≡ (current d).present.entries
      entries_here = sym (entries_current d t) ∙ entries_present (current d) t here

      whole_is : whole_in d t ≡ whole (current d).present
      whole_is = sym whole_current ∙ whole_here (current d) t here

      taken_add : (piece : List ℕ) → refusal_in s n d (adds piece) ≡ 0 →
          Stays (entries_of d t) (entries_of (after (add piece)) t) (whole_in d t) (whole_in (after (add piece)) t) (called r (add piece)).blocks (called r (add piece)).closed
      taken_add piece e =
          let b = added_blocks piece e ∙ grown_blocks_lem (service.current r) piece typed.block_many in
          let l = length-append (current d).present.day piece in
          let w = whole_here (after (add piece)) t here in
          record {
            none = refl;
            same = entries_present (after (add piece)) t here ∙ sym entries_here;
            more = omega (arith, b, l, w, whole_is, made.keeps.bytes_are);
          }

      taken_close : (part : List ℕ) → refusal_in s n d (closes (length part)) ≡ 0 →
          Closes s n (entries_of d t) (entries_of (after (close part)) t) (whole_in d t) (whole_in (after (close part)) t) (called r (close part)).blocks (called r (close part)).closed
      taken_close part e =
          let j = (current d).present in
          let b : (called r (close part)).blocks ≡ (((service.current r).bytes + 1) % 64 + 8) / 64 + 1 + 2 * links_of s n (suc (length j.entries)) =
          (closing_blocks part e).0 ∙ rw (← made.keeps.scheme_is, ← made.keeps.n_is, ← made.keeps.days_are) (closed_blocks_lem (service.current r) typed) in
          let q : links_of s n (suc (length (entries_of d t))) ≡ links_of s n (suc (length j.entries)) = ap (λ (l : List (List ℕ)). links_of s n (suc (length l))) entries_here in
          record {
            day = j.day;
            one = (closing_blocks part e).1;
            entry = entries_present (after (close part)) t here ∙ ap (λ (l : List (List ℕ)). l ++ (j.day ∷ [])) (sym entries_here);
            fresh = whole_here (after (close part)) t here;
            day_blocks_lem = omega (arith, b, q, whole_is, made.keeps.bytes_are);
          }

    -- taken, in another season
    taken_away : (c : Call) → (length (current d).past ≡ t → ⊥) → Elsewhere (entries_of d t) (entries_of (after c) t) (whole_in d t) (whole_in (after c) t)
    taken_away c away =
        record {
          same = taken_entries k c t away;
          still = whole_away (after c) t away ∙ sym (sym whole_current ∙ whole_away (current d) t away);
        }

    -- each call, taken or refused
    abbrev Moved : Call → Seasons → Type 0
    Moved c d' =
        let made = called r c in
        ((of_season t made ≡ true) × (Stays (entries_of d t) (entries_of d' t) (whole_in d t) (whole_in d' t) made.blocks made.closed ⊎
        Closes s n (entries_of d t) (entries_of d' t) (whole_in d t) (whole_in d' t) made.blocks made.closed)) ⊎
        ((of_season t made ≡ false) × Elsewhere (entries_of d t) (entries_of d' t) (whole_in d t) (whole_in d' t))

    taken_call : (c : Call) → refusal_in s n d (argument_of c) ≡ 0 → length (current d).past ≡ t →
        Stays (entries_of d t) (entries_of (after c) t) (whole_in d t) (whole_in (after c) t) (called r c).blocks (called r c).closed ⊎
        Closes s n (entries_of d t) (entries_of (after c) t) (whole_in d t) (whole_in (after c) t) (called r c).blocks (called r c).closed
    taken_call (add piece) e here = inl (taken_add here piece e)
    taken_call (close part) e here = inr (taken_close here part e)

    moved : (c : Call) → Moved c (kept_in s n d (argument_of c))
    moved c = by_refusal s n d (argument_of c) (Moved c)
        (λ e. elim (split (of_season t (called r c))) [
          | inl q ↦ inl (q, taken_call c e (sym (season_taken k c e) ∙ of_season_is t (called r c) q))
          | inr q ↦ inr (q, taken_away c (λ w. of_season_not t (called r c) q (season_taken k c e ∙ w)))
        ])
        (λ x e. let l = refused_left k c x e in elim (split (of_season t (called r c))) [
          | inl q ↦ inl (q, inl (record { none = l.closed_none; same = refl; more = omega (arith, l.blocks_none) }))
          | inr q ↦ inr (q, record { same = refl; still = refl })
        ])

-- ---- entries stay at the front

longer_in : (l : List (List (List ℕ))) (E more : List (List ℕ)) (t : ℕ) → (m : List (List ℕ)) × (get_or (l ++ ((E ++ more) ∷ [])) t [] ≡ get_or (l ++ (E ∷ [])) t [] ++ m)
longer_in [] E more zero = (more, refl)
longer_in [] E more (suc t) = ([], refl)
longer_in (x ∷ l) E more zero = ([], sym (append-nil x))
longer_in (x ∷ l) E more (suc t) = longer_in l E more t

entered_more : (d : Seasons) (a : Argument) (t : ℕ) → (more : List (List ℕ)) × (entries_of (entered_in d a) t ≡ entries_of d t ++ more)
entered_more d (adds piece) t = ([], sym (append-nil (entries_of d t)))
entered_more d (closes size) t = longer_in d.past d.present.entries (d.present.day ∷ []) t

kept_more : (s n : ℕ) (d : Seasons) (a : Argument) (t : ℕ) → (more : List (List ℕ)) × (entries_of (kept_in s n d a) t ≡ entries_of d t ++ more)
kept_more s n d a t = by_refusal s n d a (λ e. (more : List (List ℕ)) × (entries_of e t ≡ entries_of d t ++ more))
    (λ e. let m = entered_more (current d) a t in (m.0, m.1 ∙ ap (λ (l : List (List ℕ)). l ++ m.0) (entries_current d t)))
    (λ x e. ([], sym (append-nil (entries_of d t))))

entries_more : (s n : ℕ) (d : Seasons) (args : List Argument) (t : ℕ) → (more : List (List ℕ)) × (entries_of (seasons_after s n d args) t ≡ entries_of d t ++ more)
entries_more s n d [] t = ([], sym (append-nil (entries_of d t)))
entries_more s n d (a ∷ args) t =
    let one = kept_more s n d a t in
    let later = entries_more s n (kept_in s n d a) args t in
    (one.0 ++ later.0, later.1 ∙ ap (λ (l : List (List ℕ)). l ++ later.0) one.1 ∙ append_assoc (entries_of d t) one.0 later.0)

length_at : (E : List (List ℕ)) (day : List ℕ) (more : List (List ℕ)) → get_or (map length ((E ++ (day ∷ [])) ++ more)) (length E) 0 ≡ length day
length_at [] day more = refl
length_at (e ∷ E) day more = length_at E day more

-- ---- every list of calls

none_taken : (made : List Called) → blocks_to made 0 ≡ 0
none_taken [] = refl
none_taken (c ∷ rest) = refl

module _ (s n : ℕ) where
  -- what is forecast for the first i days of a season that ends with the entries F
  abbrev through : List (List ℕ) → ℕ → ℕ
  through F i = blocks_through s n (map length F) i

  -- from the entries E and w whole blocks of the open day on, the season's calls up to the close of i + 1 days more
  abbrev Taken : List (List ℕ) → ℕ → List (List ℕ) → List Called → Type 0
  Taken E w F made =
      (i : ℕ) → length E + suc i ≤ length F → w + blocks_to made (suc i) + through F (length E) ≡ through F (length E + suc i)

  -- one call more in front
  module _ (E N F : List (List ℕ)) (w v : ℕ) (c : Called) (made : List Called) (later : Taken N v F made) where
    elsewhere : Elsewhere E N w v → Taken E w F made
    elsewhere t = rw (t.same, t.still) at later

    stays : Stays E N w v c.blocks c.closed → Taken E w F (c ∷ made)
    stays t i l =
        let q = ap length t.same in
        let e = later i (rw q l) in
        let z : suc i - 0 ≡ suc i = omega arith in
        rw (t.none, z) (omega (arith, t.more, rw q at e))

    module _ (t : Closes s n E N w v c.blocks c.closed) (more : List (List ℕ)) (front : F ≡ N ++ more) where
      size : length N ≡ suc (length E)
      size = ap length t.entry ∙ length-append E (t.day ∷ []) ∙ omega arith

      -- the day closed is the next of the forecast's
      one_day : through F (suc (length E)) ≡ through F (length E) + (day_blocks (length t.day) + 2 * links_of s n (suc (length E)))
      one_day =
          let e : F ≡ (E ++ (t.day ∷ [])) ++ more = front ∙ ap (λ (l : List (List ℕ)). l ++ more) t.entry in
          let g : get_or (map length F) (length E) 0 ≡ length t.day = ap (λ (l : List (List ℕ)). get_or (map length l) (length E) 0) e ∙ length_at E t.day more in
          rw g

      closes_day : Taken E w F (c ∷ made)
      closes_day zero l =
          let p : length E + 1 ≡ suc (length E) = omega arith in
          rw (t.one, p) (omega (arith, t.day_blocks_lem, one_day, none_taken made))
      closes_day (suc i) l =
          let p : length E + suc (suc i) ≡ suc (length E) + suc i = omega arith in
          let e = later i (rw (size, ← p) l) in
          let z : suc (suc i) - 1 ≡ suc i = omega arith in
          rw (t.one, p, z) (omega (arith, t.day_blocks_lem, one_day, t.fresh, rw size at e))

taken : {s n f : ℕ} {d : Seasons} {r : Record} → InSeason s n f d r → Chained r → (t : ℕ) (cs : List Call) →
    Taken s n (entries_of d t) (whole_in d t) (entries_of (seasons_after s n d (map argument_of cs)) t) (made_in t (called_all r cs))
taken k h t [] = λ i l. absurd (omega arith)
taken {s} {n} {d = d} {r = r} k h t (c ∷ cs) =
    let next = kept_in s n d (argument_of c) in
    let made = made_in t (called_all (called r c).state cs) in
    let E = entries_of d t in
    let N = entries_of next t in
    let F = entries_of (seasons_after s n next (map argument_of cs)) t in
    let w = whole_in d t in
    let v = whole_in next t in
    let later = taken {d = next} {r = (called r c).state} (in_called k c) (chained_called r c h) t cs in
    elim (moved k t h c) [
      | inl p ↦ rw p.0 (elim p.1 [
        | inl m ↦ stays s n E N F w v (called r c) made later m
        | inr m ↦ let more = entries_more s n next (map argument_of cs) t in closes_day s n E N F w v (called r c) made later m more.0 more.1
      ])
      | inr p ↦ rw p.0 (elsewhere s n E N F w v (called r c) made later p.1)
    ]

-- ---- as stated

no_blocks : (t : ℕ) → (entries_of first t ≡ []) × (whole_in first t ≡ 0)
no_blocks t = (no_entries t, whole_none first t refl)

forecast_met : (s n f : ℕ) → number_of (opened s n f).answer ≡ 0 → (cs : List Call) (t d : ℕ) → d ≤ length (sealed s n cs t) →
    blocks_taken s n f cs t d ≡ blocks_through s n (lengths s n f cs t) d
forecast_met s n f opens cs t zero l = none_taken (made_in t (called_all (opened s n f).state cs))
forecast_met s n f opens cs t (suc d) l =
    let z : 0 + suc d ≡ suc d = omega arith in
    let none = no_blocks t in
    let e = rw (none.0, none.1) at (taken (in_open s n f opens) (chained_open s n f opens) t cs) in
    let q = e d (rw z l) in
    omega (arith, rw z at q)

-- lengths of a journal pass 16 and 17
take_enough : (d : ℕ) (l : List ℕ) → length (take d l) ≡ d → d ≤ length l
take_enough zero l e = omega arith
take_enough (suc d) [] e = absurd (omega arith)
take_enough (suc d) (x ∷ l) e = omega (arith, take_enough d l (omega arith))

all_short : (E : List (List ℕ)) → ((e : List ℕ) → e among E → length e ≤ day_limit) → (d : ℕ) → every short_day (take d (map length E)) ≡ true
all_short E h zero = refl
all_short [] h (suc d) = refl
all_short (e ∷ E) h (suc d) = rw (le-leb (length e) day_limit (h e (Memᴰ.head refl))) (all_short E (λ x m. h x (Memᴰ.tail m)) d)

module _ (s n f : ℕ) (opens : number_of (opened s n f).answer ≡ 0) (cs : List Call) (t d : ℕ) (l : d ≤ length (sealed s n cs t)) where
  passes : allowed_d n f d ≡ true → (lent : List ℕ) → take d lent ≡ take d (lengths s n f cs t) → Passed s n f d lent
  passes a lent e =
      let L = lengths s n f cs t in
      let m : d ≤ length L = rw length-map l in
      let c : length (take d lent) ≡ d = ap length e ∙ length-take-le d L m in
      record {
        layout = layout_ok s n f d (accepted_setup s n f opens) a;
        enough = take_enough d lent c;
        short = ap (every short_day) e ∙ all_short (sealed s n cs t) (limited s n cs t) d;
      }

  forecast_told : ForecastMet s n f cs t d
  forecast_told =
      record {
        met = forecast_met s n f opens cs t d l;
        told = λ a lent e. sym (forecast_sized s n f d lent (number_passed (sizing_tested s n f d lent) (passes_sizing s n f d lent (passes a lent e))) refl
            (forecast_met s n f opens cs t d l ∙ sym (blocks_front s n lent (lengths s n f cs t) d e d (le_refl d))));
      }

pub forecasts_met : ForecastsMet
forecasts_met s n f opens cs t d l = forecast_told s n f opens cs t d l
