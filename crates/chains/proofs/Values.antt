-- The values of a day stand in the slots, in their order, and then black.
use mathlib.Core.Path.{◌≡◌, refl, sym, ap, ap₂, ◌∙◌}
use mathlib.Core.Bool.{Bool, true, false, not, ◌&&◌, cond}
use mathlib.Core.Logic.{◌⊎◌, inl, inr}
use mathlib.Core.List.{List, [], ◌∷◌, ◌++◌, map, map-append, append-nil}
use Prim.Native.Nat.{ℕ, zero, suc, ◌+◌, ◌-◌, ◌^◌, ◌≤◌, ◌<◌}
use native.Mathlib.Omega.{arith}
use lib.Dec.{leb}
use lib.ListN.{length, get_or, take, set, replicate, length-map, length-append}
use lib.Pow.{pow_mono}
use lib.Seq.{length-take-le, take-suc, take-suc-set}
use borrow.Author.Tests.{leb-true, leb-false}
use Rattle.lists.specs.Lists.{up_from}
use Rattle.lists.proofs.Laws.{split, true_or_false, up_from_mem, keep_mem, up_from_snoc, length-up_from}
use Rattle.layouts.specs.Layouts.{divides, allowed_scheme, allowed_n, lg, Name, black, tile, tree, levels}
use Rattle.layouts.specs.Layouts.{stored_once, stores_black_of_tree, names_of_day, chains_of_day, covered_days}
use Rattle.layouts.proofs.AllowedLaws.{allowed_scheme_is, allowed_n_is}
use Rattle.layouts.proofs.Coverage.{divisor_le}
use Rattle.layouts.proofs.Counts.{of_power}
use Rattle.layouts.proofs.Positions.{levels_run}
use Rattle.chains.specs.declared.Value.{Value}
use Rattle.chains.specs.declared.DayStep.{DayStep}
use Rattle.chains.specs.Step.{linked, stores_black, linked_slots, restarted, current, day_values}
use Rattle.chains.specs.Private.{DayLinked, levels_linked}
use Rattle.chains.proofs.Slots.{none_restarted, black_slots}
use Rattle.chains.proofs.Levels.{tree_linked}

-- the names of a day: m of slots, in order, then black where it is a value of its own
pub record InSlots (s n g : ℕ) : Type 0 where
  pub many : ℕ
  pub few : many ≤ 17
  pub name : ℕ → Name
  pub are : names_of_day s n g ≡ map name (up_from 0 many) ++ cond (stores_black s n g) (black g ∷ []) []
  pub slot : (b : Value) (slots : List Value) (i : ℕ) → current b slots (name i) ≡ get_or slots i b
  pub room : stores_black s n g ≡ true → many ≤ 16

-- a level that ends at a day is at most 16
pub level_small : (l g : ℕ) → 1 ≤ g → g ≤ 65536 → divides (2 ^ l) g ≡ true → l ≤ 16
level_small l g p h e = go (split (leb l 16))
  where
    go : (leb l 16 ≡ true) ⊎ (leb l 16 ≡ false) → l ≤ 16
    go (inl t) = leb-true l 16 t
    go (inr t) =
        let m : 2 ^ 17 ≤ 2 ^ l = pow_mono (leb-false l 16 t) in
        let w = divisor_le (2 ^ l) g p e in
        absurd (omega arith)

level_of_lem : (g k : ℕ) → k < length (levels g) → divides (2 ^ k) g ≡ true
level_of_lem g k h = (keep_mem (λ l. divides (2 ^ l) g) (up_from 0 g) k (rw levels_run (up_from_mem 0 (length (levels g)) k (omega arith) (omega arith)))).1

levels_few : (g : ℕ) → 1 ≤ g → g ≤ 65536 → length (levels g) ≤ 17
levels_few g p h = go (length (levels g)) refl
  where
    go : (m : ℕ) → length (levels g) ≡ m → m ≤ 17
    go zero e = omega arith
    go (suc m) e = let l = level_small m g p h (level_of_lem g m (omega arith)) in omega arith

levels_room : (g : ℕ) → 1 ≤ g → g ≤ 65536 → stored_once g ≡ false → length (levels g) ≤ 16
levels_room g p h f = go (split (leb (length (levels g)) 16))
  where
    go : (leb (length (levels g)) 16 ≡ true) ⊎ (leb (length (levels g)) 16 ≡ false) → length (levels g) ≤ 16
    go (inl t) = leb-true (length (levels g)) 16 t
    go (inr t) =
        let m : 16 < length (levels g) = leb-false (length (levels g)) 16 t in
        let w : 2 ^ 16 ≤ g = divisor_le (2 ^ 16) g p (level_of_lem g 16 m) in
        let q : 2 ^ 16 ≡ g = omega arith in
        absurd (true_or_false (of_power 16 g q) f)

pub in_slots : (s n g : ℕ) → allowed_scheme s ≡ true → allowed_n n ≡ true → 1 ≤ g → g ≤ 65536 → InSlots s n g
in_slots zero n g a b p h = let r = allowed_scheme_is 0 a in absurd (omega (arith, r.0))
in_slots (suc zero) n g a b p h =
    record { many = 0; few = omega arith; name = λ i. tile i g; are = refl; slot = λ v vs i. refl; room = λ e. omega arith }
in_slots (suc (suc zero)) n g a b p h = go (divides n g) refl
  where
    l : lg n ≤ 8
    l = (allowed_n_is n b).small

    go : (c : Bool) → divides n g ≡ c → InSlots 2 n g
    go true e = record { many = suc (lg n); few = omega (arith, l); name = λ i. tile i g; are = rw e; slot = λ v vs i. refl; room = λ q. omega (arith, l) }
    go false e = record { many = 0; few = omega arith; name = λ i. tile i g; are = rw e; slot = λ v vs i. refl; room = λ q. omega arith }
in_slots (suc (suc (suc zero))) n g a b p h =
    record {
      many = length (levels g);
      few = levels_few g p h;
      name = λ i. tree i g;
      are = ap (λ (r : List ℕ). map (λ (i : ℕ). tree i g) r ++ cond (stores_black_of_tree n g) (black g ∷ []) []) (levels_run g);
      slot = λ v vs i. refl;
      room = λ e. levels_room g p h (once (divides n g) (stored_once g) e);
    }
  where
    once : (x y : Bool) → x && not y ≡ true → y ≡ false
    once true true e = sym e
    once true false e = refl
    once false y e = absurd (true_or_false e refl)
in_slots (suc (suc (suc (suc s)))) n g a b p h = let r = allowed_scheme_is (suc (suc (suc (suc s)))) a in absurd (omega (arith, r.1))

-- the first m slots, by their names
slots_front : (f : ℕ → Name) (b : Value) (slots : List Value) → ((i : ℕ) → current b slots (f i) ≡ get_or slots i b) → (m : ℕ) → m ≤ length slots →
    map (current b slots) (map f (up_from 0 m)) ≡ take m slots
slots_front f b slots e zero h = refl
slots_front f b slots e (suc m) h =
    ap (λ (r : List ℕ). map (current b slots) (map f r)) (up_from_snoc 0 m ∙ ap (λ (x : ℕ). up_from 0 m ++ (x ∷ [])) zero_plus) ∙
    ap (map (current b slots)) (map-append f (up_from 0 m) (m ∷ [])) ∙ map-append (current b slots) (map f (up_from 0 m)) (f m ∷ []) ∙
    rw (slots_front f b slots e m (omega arith), e m) (sym (take-suc slots m b h))
  where
    zero_plus : 0 + m ≡ m
    zero_plus = omega arith

module _ (s n g : ℕ) (b : Value) (slots : List Value) (size : length slots ≡ 17) (at : InSlots s n g) where
  count_of : (c : Bool) → stores_black s n g ≡ c → length (names_of_day s n g) ≡ at.many + length (cond c (black g ∷ []) [])
  count_of c e = rw (at.are, e, length-append, length-map, length-up_from)

  front : (c : Bool) → stores_black s n g ≡ c → day_values s n g b slots ≡ take at.many slots ++ map (current b slots) (cond c (black g ∷ []) [])
  unfolding day_values
  front c e =
      rw (at.are, e, map-append (current b slots) (map at.name (up_from 0 at.many)) (cond c (black g ∷ []) [])) (ap
      (λ (r : List Value). r ++ map (current b slots) (cond c (black g ∷ []) []))
      (slots_front at.name b slots (at.slot b slots) at.many (omega (arith, at.few))))

  -- with black: it goes to the place after the slots
  pub values_black : (k : ℕ) {r : List Value} → stores_black s n g ≡ true → k ≡ length (names_of_day s n g) → r ≡ set slots (k - 1) b → take k r ≡ day_values s n g b slots
  values_black k {r} e q w =
      let c : length (names_of_day s n g) ≡ at.many + 1 = count_of true e in
      let v : k ≡ suc at.many = omega arith in
      let u : k - 1 ≡ at.many = omega arith in
      let room = at.room e in
      rw (w, u, v) (take-suc-set slots at.many b (omega arith) ∙ sym (front true e))

  pub values_plain : (k : ℕ) {r : List Value} → stores_black s n g ≡ false → k ≡ length (names_of_day s n g) → r ≡ slots → take k r ≡ day_values s n g b slots
  values_plain k {r} e q w =
      let c : length (names_of_day s n g) ≡ at.many + 0 = count_of false e in
      let v : k ≡ at.many = omega arith in
      rw (w, v) (sym (front false e ∙ append-nil (take at.many slots)))

  pub black_place_lem : (k : ℕ) → stores_black s n g ≡ true → k ≡ length (names_of_day s n g) → (1 ≤ k) × (k - 1 < 17)
  black_place_lem k e q =
      let c : length (names_of_day s n g) ≡ at.many + 1 = count_of true e in
      let room = at.room e in
      (omega arith, omega arith)

-- a day has at most seventeen values
pub day_few : (s n g : ℕ) → allowed_scheme s ≡ true → allowed_n n ≡ true → 1 ≤ g → g ≤ 65536 → length (names_of_day s n g) ≤ 17
day_few s n g a b p h = go (stores_black s n g) refl
  where
    at : InSlots s n g
    at = in_slots s n g a b p h

    go : (c : Bool) → stores_black s n g ≡ c → length (names_of_day s n g) ≤ 17
    go true e = let room = at.room e in rw (at.are, e, length-append, length-map, length-up_from) (omega arith)
    go false e = let w = at.few in rw (at.are, e, length-append, length-map, length-up_from) (omega arith)

pub chains_of_day-length : (s n g : ℕ) → length (chains_of_day s n g) ≡ length (names_of_day s n g)
unfolding chains_of_day
chains_of_day-length s n g = length-map (names_of_day s n g) (covered_days n)

-- one more day linked, from what the code computes
pub day_linked : (s n g : ℕ) (old : Value) (slots : List Value) (h : List ℕ) {b : Value} {l : List Value} {k : ℕ} → k ≡ length (chains_of_day s n g) → b ≡ linked old h → l ≡ linked_slots s n g h slots →
    DayLinked s n g old slots h (record { black = b; slots = l; count = k })
day_linked s n g old slots h ek eb el = record { black_is = eb; slots_are = el; count_is = ek ∙ chains_of_day-length s n g }

-- scheme by scheme
pub day_tree : (s n g : ℕ) (old : Value) (slots : List Value) (h : List ℕ) {b : Value} {l : List Value} {k : ℕ} → s ≡ 3 → k ≡ length (chains_of_day s n g) → b ≡ linked old h
    → l ≡ levels_linked h slots → DayLinked s n g old slots h (record { black = b; slots = l; count = k })
day_tree s n g old slots h es ek eb el = day_linked s n g old slots h ek eb (tree_linked s n g h slots es el)

pub day_black : (s n g : ℕ) (old : Value) (slots : List Value) (h : List ℕ) {b : Value} {k : ℕ} → allowed_scheme s ≡ true → (s ≡ 2 → ⊥) → (s ≡ 3 → ⊥) → k ≡ length (chains_of_day s n g)
    → b ≡ linked old h → DayLinked s n g old slots h (record { black = b; slots = slots; count = k })
day_black s n g old slots h a two three ek eb =
    let r = allowed_scheme_is s a in
    let one : s ≡ 1 = omega (arith, two, three) in
    day_linked s n g old slots h ek eb (rw one (black_slots n g h slots))

-- the first k of seventeen values
module _ (values : List Value) {k : ℕ} (n : length values ≡ 17) (m : k ≤ 17) where
  pub first_within : k ≤ length values
  first_within = omega (arith, m, n)

  pub first_are : k ≡ length (take k values)
  first_are = sym (length-take-le k values first_within)

-- on a day that has no value no slot starts again
pub day_quiet : (s n g : ℕ) (start old : Value) (slots : List Value) (h : List ℕ) (d : DayStep) → DayLinked s n g old slots h d → d.count ≡ 0 → 1 ≤ g →
    d.slots ≡ restarted s n g start (linked_slots s n g h slots)
day_quiet s n g start old slots h d e z p = e.slots_are ∙ sym (none_restarted s n g start (linked_slots s n g h slots) p (sym e.count_is ∙ z))

-- scheme 1

pub black_values : (n g : ℕ) (b : Value) (slots : List Value) → day_values 1 n g b slots ≡ take (length (names_of_day 1 n g)) (replicate 17 b)
unfolding day_values
black_values n g b slots = go (divides n g) refl
  where
    go : (c : Bool) → divides n g ≡ c → map (current b slots) (names_of_day 1 n g) ≡ take (length (names_of_day 1 n g)) (replicate 17 b)
    go true e = rw e
    go false e = rw e

pub quiet_values : (s n g : ℕ) (b : Value) (slots : List Value) → length (names_of_day s n g) ≡ 0 → day_values s n g b slots ≡ []
unfolding day_values
quiet_values s n g b slots e = ap (map (current b slots)) (nothing (names_of_day s n g) e)
  where
    nothing : (l : List Name) → length l ≡ 0 → l ≡ []
    nothing [] q = refl
    nothing (x ∷ l) q = absurd (omega arith)

-- the values of a day, from the running hashes with the day linked
pub linked_values : (s n g : ℕ) (old : Value) (slots : List Value) (h : List ℕ) (d : DayStep) → DayLinked s n g old slots h d →
    day_values s n g d.black d.slots ≡ day_values s n g (linked old h) (linked_slots s n g h slots)
linked_values s n g old slots h d e = ap₂ (day_values s n g) e.black_is e.slots_are
