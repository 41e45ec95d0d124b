-- What reading says, and the list after it, from the days written.
use mathlib.Core.{Path.◌≡◌, Path.refl, Path.sym, Path.ap, Path.◌∙◌, Bool.true}
use mathlib.Core.List.Memᴰ
use mathlib.Core.List.{List, [], ◌∷◌, ◌++◌}
use Prim.Native.Nat.{ℕ, ◌-◌, ◌*◌, ◌/◌, ◌≤◌, ◌<◌}
use native.Mathlib.{Omega.arith}
use lib.ListN.{length, get_or, take, drop}
use Rattle.lists.specs.Lists.{keep}
use Rattle.lists.proofs.Laws.{length-up_from}
use Rattle.evidence.specs.Evidence.{days, listing}
use Rattle.evidence.proofs.TableLaws.{accepted_gives, listing_within}
use Rattle.std.specs.Prelude.{Result, Ok, Err}
use Rattle.refusals.specs.Refusals.{number, number_of}
use Rattle.refusals.specs.declared.Refusal.{Refusal}
use Rattle.refusals.proofs.TestLaws.{passed_number, old_stays, new_stands}
use Rattle.layouts.specs.Layouts.{allowed_scheme, allowed_n, chains}
use Rattle.layouts.proofs.AllowedLaws.{allowed_n_is, allowed_scheme_is}
use Rattle.buffers.specs.Private.{Wrote}
use Rattle.acceptance.specs.Private.{Table, rules, is_listed}
use Rattle.acceptance.proofs.{Runs.keep_length, Accepted.accepted_rules, Accepted.listing_is_listed}
use Rattle.reading.specs.{declared.Numbers.Numbers, declared.Reading.Reading, Numbers.last_good_day}
use Rattle.reading.specs.declared.Reading.TheVariants.{Clean, Changed, Refused}
use Rattle.reading.specs.Contract.{refused_report, report_of, table_in, read_tested, read_refusal, listed_in, found, readout}
use Rattle.reading.specs.Private.{Given, numbers_of}
use Rattle.reading.proofs.{LastGood.good_first, BitLaws.bits_at}
use Rattle.reading.proofs.RefusalLaws.{read_facts, read_enough, read_given}

-- ---- the numbers of a changed table

changed_is : (n d p g : ℕ) (gs : List ℕ) → report_of d (Changed (numbers_of n d p (length (g ∷ gs)) g)) ≡ found d p (g ∷ gs) ((g - 1) / n * n)
unfolding report_of found numbers_of
changed_is n d p g gs = refl

-- ---- a table that some set gives

module _ (s n d : ℕ) (t l : List ℕ) (G : Given s n d t (length l)) where
  follows_rules : rules s n d t ≡ true
  follows_rules = sym (accepted_rules s n d t G.table (bits_at t G.bits_ok)) ∙ G.accepted_ok

  pub listed_needs : Table s n d t × (d ≤ length l) × (rules s n d t ≡ true)
  listed_needs = (G.table, G.room, follows_rules)

  listing_is : listing (chains s n d) d t ≡ keep (is_listed s n t) (days d)
  listing_is = listing_is_listed s n d t G.table (bits_at t G.bits_ok) follows_rules

  -- with its listed days written
  module _ (k : ℕ) (m : List ℕ) (w : Wrote 0 (keep (is_listed s n t) (days d)) l k m) where
    wrote : Wrote 0 (listing (chains s n d) d t) l k m
    wrote = rw listing_is w

    count_is : k ≡ length (listing (chains s n d) d t)
    count_is = let u = wrote in omega (arith, u.count)

    pub list_read : m ≡ listing (chains s n d) d t ++ drop (length (listing (chains s n d) d t)) l
    list_read = wrote.list ∙ ap (λ (i : ℕ). listing (chains s n d) d t ++ drop i l) count_is

    pub listed_most : k ≤ 65536
    listed_most =
        let a = keep_length (is_listed s n t) (days d) in
        let b = length-up_from 1 d in
        omega (arith, w.count, G.table.most)

    pub report_clean : (p : ℕ) → k ≡ 0 → report_of d Clean ≡ found d p (listing (chains s n d) d t) (last_good_day s n d t)
    unfolding report_of found
    report_clean p z = go (listing (chains s n d) d t) (sym count_is ∙ z)
      where
        go : (F : List ℕ) → length F ≡ 0 → report_of d Clean ≡ found d p F (last_good_day s n d t)
        go [] e = refl
        go (g ∷ gs) e = absurd (omega arith)

    pub first_place_lem : length m ≡ length l → 0 < length m
    first_place_lem e = omega (arith, G.table.some, G.room)

    -- the first place holds the first listed day
    module _ (some : k ≡ 0 → ⊥) where
      first_is : (gs : List ℕ) × (listing (chains s n d) d t ≡ get_or m 0 0 ∷ gs)
      first_is = go (listing (chains s n d) d t) wrote.list (λ e. some (count_is ∙ e))
        where
          go : (F : List ℕ) → m ≡ F ++ drop k l → (length F ≡ 0 → ⊥) → (gs : List ℕ) × (F ≡ get_or m 0 0 ∷ gs)
          go [] e h = absurd (h refl)
          go (g ∷ gs) e h = (gs, ap (λ (i : ℕ). i ∷ gs) (sym (ap (λ (q : List ℕ). get_or q 0 0) e)))

      pub numbers_need : (1 ≤ n) × (1 ≤ get_or m 0 0)
      numbers_need =
          let b = listing_within (chains s n d) d t (get_or m 0 0) (rw first_is.1 (Memᴰ.head refl)) in
          ((allowed_n_is n G.table.n_ok).some, b.0)

      pub report_changed : (p : ℕ) {a : Numbers} → a ≡ numbers_of n d p k (get_or m 0 0) → report_of d (Changed a) ≡ found d p (listing (chains s n d) d t) (last_good_day s n d t)
      report_changed p j =
          let F = listing (chains s n d) d t in
          let u = first_is in
          let b = allowed_scheme_is s G.table.scheme_ok in
          let w = allowed_n_is n G.table.n_ok in
          let g : last_good_day s n d t ≡ (get_or m 0 0 - 1) / n * n =
          good_first s n d F t (get_or m 0 0) u.0 b.0 b.1 w.some (accepted_gives (chains s n d) d t G.accepted_ok) u.1 in
          ap (λ (y : Numbers). report_of d (Changed y)) (j ∙ ap (λ (y : ℕ). numbers_of n d p y (get_or m 0 0)) (count_is ∙ ap length u.1)) ∙
          changed_is n d p (get_or m 0 0) u.0 ∙
          sym (ap (λ (y : List ℕ). found d p y (last_good_day s n d t)) u.1 ∙ ap (found d p (get_or m 0 0 ∷ u.0)) g)

-- ---- the call

module _ (s n f d p : ℕ) (o l : List ℕ) where
  module _ {r : Refusal} (e : read_tested s n f d p o (length l) ≡ Err r) where
    pub report_refused : {x : ℕ} → x ≡ number r → report_of d (Refused x) ≡ (readout s n f d p o l).report
    unfolding report_of readout
    report_refused q = ap refused_report q ∙ ap (λ (x : Result Unit Refusal). refused_report (number_of x)) (sym e) ∙ sym (old_stays (read_tested s n f d p o (length l)) _ _ e)

    pub list_refused : l ≡ (readout s n f d p o l).list
    unfolding readout
    list_refused = sym (old_stays (read_tested s n f d p o (length l)) _ l e)

  module _ (e : read_tested s n f d p o (length l) ≡ Ok tt) where
    none : read_refusal s n f d p o (length l) ≡ 0
    none = passed_number (read_tested s n f d p o (length l)) e

    pub values_need : (allowed_scheme s ≡ true) × (allowed_n n ≡ true) × (d ≤ 65536)
    values_need = let L = read_facts s n f d p o (length l) none in (L.scheme_ok, L.n_ok, L.most)

    module _ {v : ℕ} (h : v ≡ length (chains s n d)) where
      pub values_within : v ≤ length o
      values_within = omega (arith, read_enough s n f d p o (length l) none)

      -- the outcomes read are the table
      values_part : take v o ≡ table_in s n d o
      values_part = ap (λ (i : ℕ). take i o) h

      pub values_given : Given s n d (take v o) (length l)
      values_given = rw values_part (read_given s n f d p o (length l) none)

      pub report_read : (a : Reading) → report_of d a ≡ found d p (listing (chains s n d) d (take v o)) (last_good_day s n d (take v o)) → report_of d a ≡ (readout s n f d p o l).report
      unfolding readout listed_in
      report_read a q =
          q ∙ ap (λ (y : List ℕ). found d p (listing (chains s n d) d y) (last_good_day s n d y)) values_part ∙
          sym (new_stands (read_tested s n f d p o (length l)) _ _ e)

      pub list_after : {m : List ℕ} → m ≡ listing (chains s n d) d (take v o) ++ drop (length (listing (chains s n d) d (take v o))) l → m ≡ (readout s n f d p o l).list
      unfolding readout listed_in
      list_after q =
          q ∙ ap (λ (y : List ℕ). listing (chains s n d) d y ++ drop (length (listing (chains s n d) d y)) l) values_part ∙
          sym (new_stands (read_tested s n f d p o (length l)) _ l e)

-- ---- for theorems above

-- a call that is not refused says what it found, and leaves the listed days before what stood behind them
pub readout_found : (s n f d p : ℕ) (o l : List ℕ) → read_refusal s n f d p o (length l) ≡ 0 →
    readout s n f d p o l ≡ record { report = found d p (listed_in s n d o) (last_good_day s n d (table_in s n d o)); list = listed_in s n d o ++ drop (length (listed_in s n d o)) l }
unfolding readout
readout_found s n f d p o l e = rw e
