-- What the running hashes hold after some days: black the value over all of them, each slot the value over the days of its
-- chain that is not ended yet. The law of the step: they hold it again, and the values of the day are the layout's.
use mathlib.Core.Path.{◌≡◌, refl, sym, ap, ap₂, ◌∙◌}
use mathlib.Core.Bool.{Bool, true, false, cond}
use mathlib.Core.Logic.{◌⊎◌, inl, inr}
use mathlib.Core.List.Memᴰ
use mathlib.Core.List.{List, [], ◌∷◌, ◌++◌, map, append-nil}
use Prim.Native.Nat.{ℕ, zero, suc, pred, ◌+◌, ◌-◌, ◌*◌, ◌/◌, ◌%◌, ◌^◌, ◌≤◌, ◌<◌}
use native.Mathlib.Nat.{div-add-mod', suc-mul, add-zero, zero-add, zero-mod}
use native.Mathlib.Omega.{arith}
use lib.Dec.{leb}
use lib.ListN.{length, get_or, replicate, length-append, length-replicate, get_or-replicate, get_or-append}
use lib.Pow.{pow_pos}
use lib.Seq.{get_or_at}
use borrow.Author.Tests.{eqb-true, leb-true, le-leb}
use Rattle.lists.specs.Lists.{◌among◌, up_from, keep}
use Rattle.evidence.specs.Evidence.{days, Within, day_of, digest, value, values}
use Rattle.lists.proofs.Laws.{true_or_false, and_both, up_from_bounds, keep_mem, keep_append, up_from_snoc}
use Rattle.evidence.proofs.ValueLaws.{value_append, value_same}
use Rattle.layouts.specs.Layouts.{divides, allowed_scheme, allowed_n, lg, Name, black, tile, tree, last_days, offset, covers, covered_days, levels, stores_black_of_tree, names_of_day, chains_of_day}
use Rattle.layouts.proofs.AllowedLaws.{allowed_n_is, allowed_scheme_is}
use Rattle.layouts.proofs.Counts.{div_step}
use Rattle.layouts.proofs.Coverage.{cond_mem}
use Rattle.sha256.specs.Sha256.{sha256, hashed}
use Rattle.sha256.proofs.Laws.{sha256_length}
use Rattle.sha256_words.specs.Words.{bytes_of}
use Rattle.chains.specs.declared.Value.{Value}
use Rattle.chains.specs.Book.{start_input, start}
use Rattle.chains.specs.Step.{start_value, linked, links_slot, stores_slot, link_slot, restart_slot, each, linked_slots, restarted, current, day_values, value_bytes}
use Rattle.chains.proofs.Values.{level_small}

-- ---- the start

pub start_bytes : (s n : ℕ) → bytes_of (start_value s n).words ≡ start s n
unfolding start start_value sha256
start_bytes s n = refl

pub start_length : (s n : ℕ) → length (start s n) ≡ 32
unfolding start
start_length s n = sha256_length (start_input s n)

-- what the code asks for: 01's schemes are bytes
pub start_asks : (s n : ℕ) → allowed_scheme s ≡ true → allowed_n n ≡ true → (s < 256) × (allowed_n n ≡ true)
start_asks s n a b = (omega (arith, (allowed_scheme_is s a).1), b)

-- ---- the days since the last multiple of w

abbrev since : ℕ → ℕ → List ℕ
since w d = up_from (suc (d / w * w)) (d % w)

module _ (w d : ℕ) (p : 0 < w) where
  next_in : divides w (suc d) ≡ false → (suc d / w * w ≡ d / w * w) × (suc d % w ≡ suc (d % w))
  next_in e =
      let s : suc d / w ≡ d / w = div_step w d p ∙ rw e (add-zero (d / w)) in
      let m : suc d / w * w ≡ d / w * w = ap (λ (x : ℕ). x * w) s in
      (m, omega (arith, div-add-mod' d w, div-add-mod' (suc d) w))

  next_end : divides w (suc d) ≡ true → (suc (d % w) ≡ w) × (suc d - w ≡ d / w * w)
  next_end e =
      let s : suc d / w ≡ d / w + 1 = div_step w d p ∙ rw e in
      let z : suc d % w ≡ 0 = eqb-true (suc d % w) 0 e in
      let m : suc d / w * w ≡ d / w * w + w = ap (λ (x : ℕ). x * w) (s ∙ plus_one (d / w)) ∙ suc-mul (d / w) w in
      let a : suc (d % w) ≡ w = omega (arith, div-add-mod' d w, div-add-mod' (suc d) w) in
      (a, omega (arith, div-add-mod' d w))
    where
      plus_one : (x : ℕ) → x + 1 ≡ suc x
      plus_one x = omega arith

  last_is : suc (d / w * w) + d % w ≡ suc d
  last_is = omega (arith, div-add-mod' d w)

  since_more : divides w (suc d) ≡ false → since w (suc d) ≡ since w d ++ (suc d ∷ [])
  since_more e =
      let r = next_in e in
      rw (r.0, r.1) (up_from_snoc (suc (d / w * w)) (d % w) ∙ ap (λ (x : ℕ). since w d ++ (x ∷ [])) last_is)

  since_end : divides w (suc d) ≡ true → since w d ++ (suc d ∷ []) ≡ last_days w (suc d)
  since_end e =
      let r = next_end e in
      ap (λ (x : ℕ). since w d ++ (x ∷ [])) (sym last_is) ∙ sym (up_from_snoc (suc (d / w * w)) (d % w)) ∙
      ap₂ (λ (x y : ℕ). up_from (suc x) y) (sym r.1) r.0

since_none : (w g : ℕ) → divides w g ≡ true → since w g ≡ []
since_none w g e = let z : g % w ≡ 0 = eqb-true (g % w) 0 e in rw z

since_within : (w d : ℕ) → Within d (since w d)
since_within w d x m = let b = up_from_bounds (suc (d / w * w)) (d % w) x m in omega (arith, div-add-mod' d w)

-- ---- the days of a slot's chain, up to day d

abbrev pub used_slot : ℕ → ℕ → ℕ → Bool
used_slot zero n i = false
used_slot (suc zero) n i = false
used_slot (suc (suc zero)) n i = leb i (lg n)
used_slot (suc (suc (suc zero))) n i = leb i 16
used_slot (suc (suc (suc (suc s)))) n i = false

abbrev pub open_days : ℕ → ℕ → ℕ → ℕ → List ℕ
open_days zero n d i = []
open_days (suc zero) n d i = []
open_days (suc (suc zero)) n d i = keep (λ x. covers n i (offset n x)) (since n d)
open_days (suc (suc (suc zero))) n d i = since (2 ^ i) d
open_days (suc (suc (suc (suc s)))) n d i = []

abbrev slot_name : ℕ → ℕ → ℕ → Name
slot_name zero i g = black g
slot_name (suc zero) i g = black g
slot_name (suc (suc zero)) i g = tile i g
slot_name (suc (suc (suc s))) i g = tree i g

-- with the next day
abbrev grown : ℕ → ℕ → ℕ → ℕ → List ℕ
grown s n d i = cond (links_slot s n (suc d) i) (open_days s n d i ++ (suc d ∷ [])) (open_days s n d i)

-- one more day of a tile chain
tile_grown : (n d i : ℕ) → leb i (lg n) ≡ true → grown 2 n d i ≡ keep (λ x. covers n i (offset n x)) (since n d ++ (suc d ∷ []))
tile_grown n d i u = rw u (go (covers n i (offset n (suc d))) refl)
  where
    q : ℕ → Bool
    q x = covers n i (offset n x)

    go : (b : Bool) → q (suc d) ≡ b → cond b (keep (λ x. covers n i (offset n x)) (since n d) ++ (suc d ∷ [])) (keep (λ x. covers n i (offset n x)) (since n d)) ≡ keep
        (λ x. covers n i (offset n x)) (since n d ++ (suc d ∷ []))
    go true e = sym (keep_append (λ x. covers n i (offset n x)) (since n d) (suc d ∷ []) ∙ rw e)
    go false e = sym (keep_append (λ x. covers n i (offset n x)) (since n d) (suc d ∷ []) ∙ rw (e, append-nil))

-- a chain that is a value of the day covers what its name says, and starts again
ended : (s n d i : ℕ) → allowed_n n ≡ true → used_slot s n i ≡ true → stores_slot s n (suc d) i ≡ true →
    (grown s n d i ≡ covered_days n (slot_name s i (suc d))) × (open_days s n (suc d) i ≡ [])
ended zero n d i a u e = absurd (true_or_false u refl)
ended (suc zero) n d i a u e = absurd (true_or_false u refl)
ended (suc (suc zero)) n d i a u e =
    let b = and_both (leb i (lg n)) (divides n (suc d)) e in (
      tile_grown n d i u ∙ ap (keep (λ x. covers n i (offset n x))) (since_end n d (allowed_n_is n a).some b.1),
      ap (keep (λ x. covers n i (offset n x))) (since_none n (suc d) b.1),
    )
ended (suc (suc (suc zero))) n d i a u e = (since_end (2 ^ i) d (pow_pos i) e, since_none (2 ^ i) (suc d) e)
ended (suc (suc (suc (suc s)))) n d i a u e = absurd (true_or_false u refl)

-- any other goes on
goes_on : (s n d i : ℕ) → allowed_n n ≡ true → used_slot s n i ≡ true → stores_slot s n (suc d) i ≡ false → grown s n d i ≡ open_days s n (suc d) i
goes_on zero n d i a u e = absurd (true_or_false u refl)
goes_on (suc zero) n d i a u e = absurd (true_or_false u refl)
goes_on (suc (suc zero)) n d i a u e =
    let f : divides n (suc d) ≡ false = sym (rw u) ∙ e in
    tile_grown n d i u ∙ ap (keep (λ x. covers n i (offset n x))) (sym (since_more n d (allowed_n_is n a).some f))
goes_on (suc (suc (suc zero))) n d i a u e = sym (since_more (2 ^ i) d (pow_pos i) e)
goes_on (suc (suc (suc (suc s)))) n d i a u e = absurd (true_or_false u refl)

open_within : (s n d i : ℕ) → Within d (open_days s n d i)
open_within zero n d i x m = elim m [ ]
open_within (suc zero) n d i x m = elim m [ ]
open_within (suc (suc zero)) n d i x m = since_within n d x (keep_mem (λ y. covers n i (offset n y)) (since n d) x m).0
open_within (suc (suc (suc zero))) n d i x m = since_within (2 ^ i) d x m
open_within (suc (suc (suc (suc s)))) n d i x m = elim m [ ]

-- ---- what the running hashes hold

pub record Holds (s n : ℕ) (E : List (List ℕ)) (b : Value) (slots : List Value) : Type 0 where
  pub size : length slots ≡ 17
  pub black_holds : bytes_of b.words ≡ value sha256 (start s n) E (days (length E))
  pub slot_holds : (i : ℕ) (z : Value) → used_slot s n i ≡ true → bytes_of (get_or slots i z).words ≡ value sha256 (start s n) E (open_days s n (length E) i)

used_small : (s n i : ℕ) → allowed_n n ≡ true → used_slot s n i ≡ true → i < 17
used_small zero n i a u = absurd (true_or_false u refl)
used_small (suc zero) n i a u = absurd (true_or_false u refl)
used_small (suc (suc zero)) n i a u = let l = leb-true i (lg n) u in let p = allowed_n_is n a in omega (arith, p.small)
used_small (suc (suc (suc zero))) n i a u = let l = leb-true i 16 u in omega arith
used_small (suc (suc (suc (suc s)))) n i a u = absurd (true_or_false u refl)

open_none : (s n i : ℕ) → open_days s n 0 i ≡ []
open_none zero n i = refl
open_none (suc zero) n i = refl
open_none (suc (suc zero)) n i = rw (zero-mod n)
open_none (suc (suc (suc zero))) n i = rw (zero-mod (2 ^ i))
open_none (suc (suc (suc (suc s)))) n i = refl

-- a service that has closed no day
pub holds_fresh : (s n : ℕ) → allowed_n n ≡ true → Holds s n [] (start_value s n) (replicate 17 (start_value s n))
holds_fresh s n a =
    record {
      size = length-replicate {A = Value} 17 (start_value s n);
      black_holds = start_bytes s n;
      slot_holds = λ i z u. rw (get_or-replicate {A = Value} 17 i (start_value s n) z (used_small s n i a u), open_none s n i) (start_bytes s n);
    }

-- ---- one more day

get_d_each : (f : ℕ → Value → Value) (j i : ℕ) (l : List Value) (z : Value) → i < length l → get_or (each f j l) i z ≡ f (j + i) (get_or l i z)
get_d_each f j i [] z h = absurd (omega arith)
get_d_each f j zero (x ∷ l) z h = ap (λ (k : ℕ). f k x) (sym (add-zero j))
get_d_each f j (suc i) (x ∷ l) z h = get_d_each f (suc j) i l z (omega arith) ∙ (let e : suc j + i ≡ j + suc i = omega arith in ap (λ (k : ℕ). f k (get_or l i z)) e)

length_each : (f : ℕ → Value → Value) (j : ℕ) (l : List Value) → length (each f j l) ≡ length l
length_each f j [] = refl
length_each f j (x ∷ l) = ap suc (length_each f (suc j) l)

module _ (s n : ℕ) (E : List (List ℕ)) (day : List ℕ) where
  abbrev d : ℕ
  d = length E

  abbrev F : List (List ℕ)
  F = E ++ (day ∷ [])

  grown_length : length F ≡ suc d
  grown_length = omega (arith, length-append E (day ∷ []))

  old_day : (x : ℕ) → (1 ≤ x) × (x ≤ d) → day_of E x ≡ day_of F x
  old_day x b = sym (get_or-append E (day ∷ []) [] (pred x) (omega (arith, b.0, b.1)))

  new_day : day_of F (suc d) ≡ day
  new_day = get_or_at E day [] [] d refl

  -- a value over earlier days is the same
  pub value_old : (c : List ℕ) → Within d c → value sha256 (start s n) E c ≡ value sha256 (start s n) F c
  value_old c w = value_same sha256 E F c (start s n) (λ x m. old_day x (w x m))

  -- and with the new day at its end it is the link
  value_new : (v : Value) (h c : List ℕ) → Within d c → bytes_of v.words ≡ value sha256 (start s n) E c → bytes_of h ≡ digest sha256 day →
      bytes_of (linked v h).words ≡ value sha256 (start s n) F (c ++ (suc d ∷ []))
  unfolding linked sha256
  value_new v h c w e q =
      ap (λ (x : List ℕ). bytes_of (hashed (1 ∷ x))) (ap₂ (λ (x y : List ℕ). x ++ y) (e ∙ value_old c w) (q ∙ ap (digest sha256) (sym new_day))) ∙
      sym (value_append sha256 F c (suc d ∷ []) (start s n))

  days_within : Within d (days d)
  days_within x m = let b = up_from_bounds 1 d x m in omega arith

  module _ (a : allowed_n n ≡ true) (b : Value) (slots : List Value) (h : List ℕ) (held : Holds s n E b slots) (hash : bytes_of h ≡ digest sha256 day) where
    black_next : bytes_of (linked b h).words ≡ value sha256 (start s n) F (days (suc d))
    black_next = value_new b h (days d) days_within held.black_holds hash ∙ ap (value sha256 (start s n) F) (sym (up_from_snoc 1 d ∙ ap (λ (x : ℕ). days d ++ (x ∷ [])) one_more))
      where
        one_more : 1 + d ≡ suc d
        one_more = omega arith

    slot_next : (i : ℕ) (z : Value) → used_slot s n i ≡ true → bytes_of (get_or (linked_slots s n (suc d) h slots) i z).words ≡ value sha256 (start s n) F (grown s n d i)
    unfolding linked_slots
    slot_next i z u =
        let l : i < length slots = omega (arith, held.size, used_small s n i a u) in
        ap (λ (v : Value). bytes_of v.words) (get_d_each (link_slot s n (suc d) h) 0 i slots z l ∙ ap (λ (k : ℕ). link_slot s n (suc d) h k (get_or slots i z)) (zero-add i)) ∙
        go (links_slot s n (suc d) i)
      where
        go : (c : Bool) → bytes_of (cond c (linked (get_or slots i z) h) (get_or slots i z)).words ≡ value sha256 (start s n) F (cond c (open_days s n d i ++ (suc d ∷ [])) (open_days s n d i))
        go true = value_new (get_or slots i z) h (open_days s n d i) (open_within s n d i) (held.slot_holds i z u) hash
        go false = held.slot_holds i z u ∙ value_old (open_days s n d i) (open_within s n d i)

    linked_size : length (linked_slots s n (suc d) h slots) ≡ 17
    unfolding linked_slots
    linked_size = length_each (link_slot s n (suc d) h) 0 slots ∙ held.size

    slot_after : (i : ℕ) (z : Value) → used_slot s n i ≡ true →
        bytes_of (get_or (restarted s n (suc d) (start_value s n) (linked_slots s n (suc d) h slots)) i z).words ≡ value sha256 (start s n) F (open_days s n (suc d) i)
    unfolding restarted
    slot_after i z u =
        let l : i < length (linked_slots s n (suc d) h slots) = omega (arith, linked_size, used_small s n i a u) in
        ap (λ (v : Value). bytes_of v.words)
        (get_d_each (restart_slot s n (suc d) (start_value s n)) 0 i (linked_slots s n (suc d) h slots) z l ∙ ap
        (λ (k : ℕ). restart_slot s n (suc d) (start_value s n) k (get_or (linked_slots s n (suc d) h slots) i z)) (zero-add i)) ∙
        go (stores_slot s n (suc d) i) refl
      where
        go : (c : Bool) → stores_slot s n (suc d) i ≡ c → bytes_of (cond c (start_value s n) (get_or (linked_slots s n (suc d) h slots) i z)).words ≡ value sha256 (start s n) F (open_days s n (suc d) i)
        go true e = start_bytes s n ∙ ap (value sha256 (start s n) F) (sym (ended s n d i a u e).1)
        go false e = slot_next i z u ∙ ap (value sha256 (start s n) F) (goes_on s n d i a u e)

    -- the running hashes after the day
    pub holds_next : {b' : Value} {slots' : List Value} → b' ≡ linked b h → slots' ≡ restarted s n (suc d) (start_value s n) (linked_slots s n (suc d) h slots) → Holds s n F b' slots'
    unfolding restarted
    holds_next {b'} {slots'} eb es =
        record {
          size = ap length es ∙ length_each (restart_slot s n (suc d) (start_value s n)) 0 (linked_slots s n (suc d) h slots) ∙ linked_size;
          black_holds = ap (λ (v : Value). bytes_of v.words) eb ∙ black_next ∙ ap (λ (k : ℕ). value sha256 (start s n) F (days k)) (sym grown_length);
          slot_holds = λ i z u. ap (λ (l : List Value). bytes_of (get_or l i z).words) es ∙ slot_after i z u ∙ ap (λ (k : ℕ). value sha256 (start s n) F (open_days s n k i)) (sym grown_length);
        }

    -- each named value of the day
    all_days : last_days (suc d) (suc d) ≡ days (suc d)
    all_days = let e : suc (suc d - suc d) ≡ 1 = omega arith in ap (λ (x : ℕ). up_from x (suc d)) e

    abbrev pub Right : Name → Type 0
    Right x = bytes_of (current (linked b h) (linked_slots s n (suc d) h slots) x).words ≡ value sha256 (start s n) F (covered_days n x)

    black_right : (x : Name) → x among (black (suc d) ∷ []) → Right x
    black_right x m = rw (Memᴰ.eq_of_singleton m) (black_next ∙ ap (value sha256 (start s n) F) (sym all_days))

    slot_right : (i : ℕ) → used_slot s n i ≡ true → stores_slot s n (suc d) i ≡ true →
        bytes_of (get_or (linked_slots s n (suc d) h slots) i (linked b h)).words ≡ value sha256 (start s n) F (covered_days n (slot_name s i (suc d)))
    slot_right i u e = slot_next i (linked b h) u ∙ ap (value sha256 (start s n) F) (ended s n d i a u e).0

-- each named value of the day is that of its chain
pub names_of_day_right : (s n : ℕ) (E : List (List ℕ)) (day : List ℕ) (a : allowed_n n ≡ true) (b : Value) (slots : List Value) (h : List ℕ) (held : Holds s n E b slots)
    (hash : bytes_of h ≡ digest sha256 day) → suc (length E) ≤ 65536 → (x : Name) → x among names_of_day s n (suc (length E)) → Right s n E day a b slots h held hash x
names_of_day_right zero n E day a b slots h held hash few x m = elim m [ ]
names_of_day_right (suc zero) n E day a b slots h held hash few x m =
    black_right 1 n E day a b slots h held hash x (cond_mem (divides n (suc (length E))) (black (suc (length E)) ∷ []) m).1
names_of_day_right (suc (suc zero)) n E day a b slots h held hash few x m =
    go (Memᴰ.append_cases (map (λ (i : ℕ). tile i g) (up_from 0 (suc (lg n)))) r.1)
  where
    g : ℕ
    g = suc (length E)

    r : (divides n g ≡ true) × (x among (map (λ i. tile i g) (up_from 0 (suc (lg n))) ++ (black g ∷ [])))
    r = cond_mem (divides n g) (map (λ i. tile i g) (up_from 0 (suc (lg n))) ++ (black g ∷ [])) m

    part : (i : ℕ) × (i among up_from 0 (suc (lg n))) × (tile i g ≡ x) → Right 2 n E day a b slots h held hash x
    part q =
        let k = up_from_bounds 0 (suc (lg n)) q.0 q.1 in
        let u : leb q.0 (lg n) ≡ true = le-leb q.0 (lg n) (omega arith) in
        rw (← q.2) (slot_right 2 n E day a b slots h held hash q.0 u (rw (u, r.0)))

    go : (x among map (λ (i : ℕ). tile i g) (up_from 0 (suc (lg n)))) ⊎ (x among (black g ∷ [])) → Right 2 n E day a b slots h held hash x
    go (inl k) = part (Memᴰ.of_map (λ (i : ℕ). tile i g) (up_from 0 (suc (lg n))) k)
    go (inr k) = black_right 2 n E day a b slots h held hash x k
names_of_day_right (suc (suc (suc zero))) n E day a b slots h held hash few x m = go (Memᴰ.append_cases (map (λ (l : ℕ). tree l g) (levels g)) m)
  where
    g : ℕ
    g = suc (length E)

    part : (l : ℕ) × (l among levels g) × (tree l g ≡ x) → Right 3 n E day a b slots h held hash x
    part q =
        let e : divides (2 ^ q.0) g ≡ true = (keep_mem (λ l. divides (2 ^ l) g) (up_from 0 g) q.0 q.1).1 in
        let k = level_small q.0 g (omega arith) few e in
        rw (← q.2) (slot_right 3 n E day a b slots h held hash q.0 (le-leb q.0 16 k) e)

    go : (x among map (λ (l : ℕ). tree l g) (levels g)) ⊎ (x among cond (stores_black_of_tree n g) (black g ∷ []) []) → Right 3 n E day a b slots h held hash x
    go (inl k) = part (Memᴰ.of_map (λ (l : ℕ). tree l g) (levels g) k)
    go (inr k) = black_right 3 n E day a b slots h held hash x (cond_mem (stores_black_of_tree n g) (black g ∷ []) k).1
names_of_day_right (suc (suc (suc (suc s)))) n E day a b slots h held hash few x m = elim m [ ]

bytes_values : (n : ℕ) (start : List ℕ) (F : List (List ℕ)) (b : Value) (l : List Value) (xs : List Name) →
    ((x : Name) → x among xs → bytes_of (current b l x).words ≡ value sha256 start F (covered_days n x)) → value_bytes (map (current b l) xs) ≡ values sha256 start F (map (covered_days n) xs)
unfolding value_bytes
bytes_values n start F b l [] f = refl
bytes_values n start F b l (x ∷ xs) f = ap₂ (λ (p q : List ℕ). p ++ q) (f x (Memᴰ.head refl)) (bytes_values n start F b l xs (λ y m. f y (Memᴰ.tail m)))

-- the values of the day are those of the chains that close at it
pub day_values_are : (s n : ℕ) (E : List (List ℕ)) (day : List ℕ) (a : allowed_n n ≡ true) (b : Value) (slots : List Value) (h : List ℕ) → Holds s n E b slots →
    bytes_of h ≡ digest sha256 day → suc (length E) ≤ 65536 →
    value_bytes (day_values s n (suc (length E)) (linked b h) (linked_slots s n (suc (length E)) h slots)) ≡
    values sha256 (start s n) (E ++ (day ∷ [])) (chains_of_day s n (suc (length E)))
unfolding day_values chains_of_day
day_values_are s n E day a b slots h held hash few =
    bytes_values n (start s n) (E ++ (day ∷ [])) (linked b h) (linked_slots s n (suc (length E)) h slots) (names_of_day s n (suc (length E)))
    (names_of_day_right s n E day a b slots h held hash few)
