-- The open day: what it asks, the values that its step gives, their bytes written to a part, the record after it.
use mathlib.Core.Path.{◌≡◌, refl, sym, ap, ◌∙◌}
use mathlib.Core.Bool.{true}
use mathlib.Core.List.{List, [], ◌∷◌, ◌++◌, append_assoc, append-nil}
use Prim.Native.Nat.{ℕ, suc, ◌+◌, ◌*◌, ◌≤◌, ◌<◌}
use native.Mathlib.Numerals.{add-one}
use native.Mathlib.Omega.{arith}
use lib.ListN.{length, get_or, take, length-append}
use lib.Seq.{take-suc}
use Rattle.refusals.specs.Refusals.{book_limit, day_limit}
use Rattle.buffers.specs.Private.{Wrote}
use Rattle.buffers.proofs.Writes.{wrote_join}
use Rattle.sha256_words.specs.Words.{bytes_of}
use Rattle.hasher.specs.declared.Hasher.{Hasher}
use Rattle.hasher.specs.Hasher.{begun}
use Rattle.layouts.specs.Layouts.{allowed_scheme, allowed_n, chains_of_day}
use Rattle.layouts.proofs.AllowedLaws.{setup_is, allowed_scheme_is}
use Rattle.chains.specs.declared.Value.{Value}
use Rattle.chains.specs.Step.{linked, linked_slots, restarted, day_values, value_bytes}
use Rattle.chains.specs.Private.{levels_linked}
use Rattle.chains.proofs.Slots.{black_slots, none_restarted}
use Rattle.chains.proofs.Levels.{tree_linked}
use Rattle.chains.proofs.Values.{day_few, chains_of_day-length, quiet_values}
use Rattle.service.specs.declared.Record.{Record}
use Rattle.service.specs.Contract.{day_count, digest_of, linked_of, day_bytes, next_day, closed_blocks}
use Rattle.service.specs.Private.{Open, Linked, After, ClosedDay}
use Rattle.service.proofs.RecordLaws.{Allowed, allowed_is}

-- what the layouts ask of a record, and of its open day
pub setup_asks : (r : Record) → Allowed r → (allowed_scheme r.scheme ≡ true) × (allowed_n r.n ≡ true)
setup_asks r a = let u = setup_is r.scheme r.n r.f a.setup in (u.scheme_ok, u.n_ok)

pub day_asks : (r : Record) → Open r →
    (allowed_scheme r.scheme ≡ true) × (allowed_n r.n ≡ true) × (1 ≤ r.days + 1) × (r.days + 1 ≤ book_limit)
day_asks r o =
    let u = setup_asks r (allowed_is r o.allowed) in
    (u.0, u.1, omega arith, omega (arith, o.day_left))

pub open_bytes : (r : Record) → Open r → r.bytes ≤ day_limit
open_bytes r o = (allowed_is r o.allowed).bytes_most

pub open_n : (r : Record) → Open r → allowed_n r.n ≡ true
open_n r o = (day_asks r o).1

-- ---- the chains with the day linked, by scheme

module _ (r : Record) {h : List ℕ} {b : Value} (eh : h ≡ digest_of r) (eb : b ≡ linked r.black h) where
  black_is : b ≡ linked r.black (digest_of r)
  black_is = eb ∙ ap (linked r.black) eh

  slots_of : {l : List Value} → l ≡ linked_slots r.scheme r.n (r.days + 1) h r.running → Linked r b l
  slots_of e = record { black_is = black_is; slots_are = e ∙ rw (eh, add-one r.days) }

  pub tiles_linked : {l : List Value} → r.scheme ≡ 2 → l ≡ linked_slots 2 r.n (r.days + 1) h r.running → Linked r b l
  tiles_linked es e = slots_of (rw es e)

  pub levels_linked_lem : {l : List Value} → r.scheme ≡ 3 → l ≡ levels_linked h r.running → Linked r b l
  levels_linked_lem es e = slots_of (tree_linked r.scheme r.n (r.days + 1) h r.running es e)

  pub black_linked : {l : List Value} → allowed_scheme r.scheme ≡ true → (r.scheme ≡ 2 → ⊥) → (r.scheme ≡ 3 → ⊥) → l ≡ r.running → Linked r b l
  black_linked a x y e =
      let s = allowed_scheme_is r.scheme a in
      let one : r.scheme ≡ 1 = omega (arith, x, y) in
      slots_of (e ∙ rw one (black_slots r.n (r.days + 1) h r.running))

pub ruleset day_links = (open_bytes, open_n, tiles_linked, levels_linked_lem, black_linked)

-- ---- the day's values, the record after it

pub count_is : (r : Record) {k : ℕ} → k ≡ length (chains_of_day r.scheme r.n (r.days + 1)) → k ≡ day_count r
count_is r e = e ∙ ap (λ (g : ℕ). length (chains_of_day r.scheme r.n g)) (add-one r.days)

pub day_fits : (r : Record) (size : ℕ) {k : ℕ} → k ≡ day_count r → Open r → 32 * day_count r ≤ size → (k ≤ 17) × (32 * k ≤ size)
day_fits r size e o room =
    let a = day_asks r o in
    let few = day_few r.scheme r.n (r.days + 1) a.0 a.1 a.2 a.3 in
    (omega (arith, sym (chains_of_day-length r.scheme r.n (r.days + 1)), count_is r {k = length (chains_of_day r.scheme r.n (r.days + 1))} refl), omega arith)

module _ (r : Record) {b : Value} {slots : List Value} (l : Linked r b slots) where
  values_are : day_values r.scheme r.n (r.days + 1) b slots ≡ day_values r.scheme r.n (suc r.days) (linked r.black (digest_of r)) (linked_of r)
  values_are = rw (l.black_is, l.slots_are, add-one r.days)

  pub day_bytes_lem : (k : ℕ) (v : List Value) → take k v ≡ day_values r.scheme r.n (r.days + 1) b slots → day_bytes r ≡ value_bytes (take k v)
  unfolding day_bytes
  day_bytes_lem k v e = sym (ap value_bytes (e ∙ values_are))

  -- a day without values
  pub quiet_after : day_count r ≡ 0 → After r b slots
  quiet_after z =
      record {
        black_is = l.black_is;
        slots_are = l.slots_are ∙ sym (none_restarted r.scheme r.n (suc r.days) r.start (linked_of r) (omega arith)
            (sym (chains_of_day-length r.scheme r.n (suc r.days)) ∙ z));
      }

  pub restarted_after : {next : List Value} → next ≡ restarted r.scheme r.n (r.days + 1) r.start slots → After r b next
  restarted_after e = record { black_is = l.black_is; slots_are = e ∙ rw (l.slots_are, add-one r.days) }

pub quiet_written : (r : Record) (part : List ℕ) → day_count r ≡ 0 → Wrote 0 (day_bytes r) part (32 * day_count r) part
unfolding day_bytes value_bytes
quiet_written r part z =
    let e = quiet_values r.scheme r.n (suc r.days) (linked r.black (digest_of r)) (linked_of r) (sym (chains_of_day-length r.scheme r.n (suc r.days)) ∙ z) in
    rw (z, e) (record { count = refl; list = refl })

pub closed_of : (r : Record) {k v m : ℕ} {state : Record} {old part : List ℕ} → k ≡ day_count r → v ≡ k → state ≡ next_day r → m ≡ closed_blocks r → Wrote 0 (day_bytes r) old (32 * k) part →
    ClosedDay r old (record { values = v; blocks = m }) state part
closed_of r ek ev es em w = record { result_is = rw (ev, ek, em); state_is = es; part_is = rw ek at w }

pub after_next : (r : Record) {b : Value} {slots : List Value} → After r b slots → {h : Hasher} → h ≡ begun (0 ∷ []) →
    record { scheme = r.scheme; n = r.n; f = r.f; days = r.days + 1; bytes = 0; hash = h.words; block = h.block; black = b; running = slots; start = r.start; season = r.season } ≡ next_day r
unfolding next_day
after_next r a e = rw (e, a.black_is, a.slots_are, add-one r.days)

-- ---- values written one by one

value_bytes_append : (xs ys : List Value) → value_bytes (xs ++ ys) ≡ value_bytes xs ++ value_bytes ys
unfolding value_bytes
value_bytes_append [] ys = refl
value_bytes_append (x ∷ xs) ys =
    ap (λ (r : List ℕ). bytes_of x.words ++ r) (value_bytes_append xs ys) ∙ sym (append_assoc (bytes_of x.words) (value_bytes xs) (value_bytes ys))

one_value : (v : Value) → value_bytes (v ∷ []) ≡ bytes_of v.words
unfolding value_bytes
one_value v = append-nil (bytes_of v.words)

module _ (values : List Value) (old : List ℕ) where
  pub no_value_written : Wrote 0 (value_bytes (take 0 values)) old 0 old
  unfolding value_bytes
  no_value_written = record { count = refl; list = refl }

  pub value_written : (part next b : List ℕ) (i w r : ℕ) (z : Value) → Wrote 0 (value_bytes (take i values)) old (32 * i) part →
      b ≡ bytes_of (get_or values i z).words → length b ≡ 32 → w ≡ i → Wrote (32 * w) b part r next →
      i < length values → 32 * (i + 1) ≤ length old → Wrote 0 (value_bytes (take (i + 1) values)) old (32 * (i + 1)) next
  value_written part next b i w r z before eb lb ew here h room =
      wrote_join 0 (value_bytes (take (i + 1) values)) (value_bytes (take i values)) b old part next (32 * i) (32 * (i + 1)) more
      (omega (arith, before.count, ap length more, length-append (value_bytes (take i values)) b)) before (rw (ew, end) at here)
    where
      more : value_bytes (take (i + 1) values) ≡ value_bytes (take i values) ++ b
      more = rw (add-one, take-suc values i z h, value_bytes_append, one_value, eb)

      end : r ≡ 32 * (i + 1)
      end = omega (arith, here.count)
