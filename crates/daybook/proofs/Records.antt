-- Every record that a list of calls leaves has the sizes and numbers of its type, and counts the values written.
use mathlib.Core.Path.{◌≡◌, refl, sym, ap, ◌∙◌}
use mathlib.Core.Bool.{Bool, true, false, cond}
use mathlib.Core.List.{List, [], ◌∷◌}
use Prim.Native.Nat.{ℕ, zero, suc, ◌-◌, ◌^◌, ◌<◌}
use native.Mathlib.Omega.{arith}
use lib.ListN.{length, get_or, take, drop, replicate, length-append}
use Rattle.refusals.specs.Refusals.{number_of, unless_refused}
use Rattle.sha256_words.specs.Words.{add32, initial, words}
use Rattle.sha256.specs.Sha256.{schedule, rounds, summed, compress, chunks, blocks, hashed}
use Rattle.hasher.specs.declared.Hasher.{Hasher}
use Rattle.hasher.specs.Hasher.{rest, filled, onward, begun}
use Rattle.hasher.proofs.Laws.{length_rest}
use Rattle.layouts.specs.Layouts.{setup_refusal}
use Rattle.layouts.proofs.AllowedLaws.{setup_is, allowed_scheme_is, allowed_n_is, allowed_f_is}
use Rattle.chains.specs.declared.Value.{Value}
use Rattle.chains.specs.Step.{start_value, linked, each, links_slot, stores_slot, link_slot, restart_slot, linked_slots, restarted}
use Rattle.chains.specs.Book.{book_of}
use Rattle.chains.proofs.BookLaws.{book_length}
use Rattle.service.specs.declared.Record.{Record}
use Rattle.service.specs.Contract.{at_start, fresh, opened, turns, turned, current, grown, digest_of, next_day, added, add_refusal, closing, close_refusal, written_so_far}
use Rattle.service.proofs.CallLaws.{opened_number}
use Rattle.journal.specs.Journal.{Journal}
use Rattle.journal.specs.Run.{Call, add, close, called, state_after, seasons_of}
use Rattle.journal.proofs.RunLaws.{Keeps, record_allowed}
use Rattle.journal.proofs.SeasonLaws.{entries_present, from_open, open_book}
use Rattle.record_bytes.specs.Bytes.{Words, Slots, Fits}
use Rattle.record_bytes.proofs.Laws.{record_round_trip}
use Rattle.daybook.specs.Claim.{wrote}
use Rattle.daybook.specs.Records.{Told, RecordsTold}

-- ---- words that a hash value has

abbrev Below : List ℕ → Type 0
Below [] = Unit {0}
Below (x ∷ l) = (x < 2 ^ 32) × Below l

below_at : (l : List ℕ) → Below l → (i : ℕ) → get_or l i 0 < 2 ^ 32
below_at [] b i = omega arith
below_at (x ∷ l) b zero = b.0
below_at (x ∷ l) b (suc i) = below_at l b.1 i

sum_below : (x y : ℕ) → add32 x y < 2 ^ 32
unfolding add32
sum_below x y = omega arith

summed_words : (h v : List ℕ) → Words (summed h v)
unfolding summed
summed_words h v = (refl, below_at (summed h v) (sum_below _ _, (sum_below _ _, (sum_below _ _, (sum_below _ _, (sum_below _ _, (sum_below _ _, (sum_below _ _, (sum_below _ _, tt)))))))))

chunks_words : (k : ℕ) (h l : List ℕ) → Words h → Words (chunks k h l)
unfolding chunks compress
chunks_words zero h l w = w
chunks_words (suc k) h l w =
    chunks_words k (compress h (words (take 64 l))) (drop 64 l) (summed_words h (rounds h (schedule (words (take 64 l)) 64) 64))

initial_words : Words initial
unfolding initial
initial_words = (refl, below_at initial (omega arith, (omega arith, (omega arith, (omega arith, (omega arith, (omega arith, (omega arith, (omega arith, tt)))))))))

begun_words : (m : List ℕ) → Words (begun m).words
unfolding begun onward blocks
begun_words m = chunks_words _ initial m initial_words

begun_block : (m : List ℕ) → length (begun m).block ≡ 64
unfolding begun onward filled
begun_block m =
    let e = length-append (rest m) (replicate (64 - length (rest m)) 0) in
    let z = length_zeros (64 - length (rest m)) in omega (arith, length_rest m)
  where
    length_zeros : (k : ℕ) → length (replicate {A = ℕ} k 0) ≡ k
    length_zeros zero = refl
    length_zeros (suc k) = ap suc (length_zeros k)

hashed_words : (m : List ℕ) → Words (hashed m)
unfolding hashed blocks
hashed_words m = chunks_words _ initial _ initial_words

linked_words : (v : Value) (h : List ℕ) → Words (linked v h).words
unfolding linked
linked_words v h = hashed_words _

start_words : (s n : ℕ) → Words (start_value s n).words
unfolding start_value
start_words s n = hashed_words _

-- ---- slots

each_slots : (f : ℕ → Value → Value) → ((i : ℕ) (v : Value) → Words v.words → Words (f i v).words) →
    (i : ℕ) (l : List Value) → Slots l → Slots (each f i l)
each_slots f h i [] s = tt
each_slots f h i (v ∷ vs) s = (h i v s.0, each_slots f h (suc i) vs s.1)

cond_words : (b : Bool) (v w : Value) → Words v.words → Words w.words → Words (cond b v w).words
cond_words true v w x y = x
cond_words false v w x y = y

same_slots : (k : ℕ) (v : Value) → Words v.words → Slots (replicate k v)
same_slots zero v w = tt
same_slots (suc k) v w = (w, same_slots k v w)

-- ---- the chains' words, after each call

pub record Chained (r : Record) : Type 0 where
  black_fits : Words r.black.words
  running_fit : Slots r.running
  start_fits : Words r.start.words

chained_next : (r : Record) → Chained r → Chained (next_day r)
unfolding next_day linked_slots restarted
chained_next r c =
    let s = r.scheme in let n = r.n in let g = suc r.days in let h = digest_of r in
    record {
      black_fits = linked_words r.black h;
      running_fit =
          each_slots (restart_slot s n g r.start) (λ i v w. cond_words (stores_slot s n g i) r.start v c.start_fits w)
          0 (each (link_slot s n g h) 0 r.running)
          (each_slots (link_slot s n g h) (λ i v w. cond_words (links_slot s n g i) (linked v h) v (linked_words v h) w) 0 r.running c.running_fit);
      start_fits = c.start_fits;
    }

-- a new season has the start in each chain
pub chained_current : (r : Record) → Chained r → Chained (current r)
unfolding current turned at_start
chained_current r c = elim (turns r) as (λ b. Chained (cond b (turned r) r)) [
  | true ↦ record { black_fits = c.start_fits; running_fit = same_slots 17 r.start c.start_fits; start_fits = c.start_fits }
  | false ↦ c
]

chained_grown : (r : Record) (piece : List ℕ) → Chained r → Chained (grown r piece)
unfolding grown
chained_grown r piece c = record { black_fits = c.black_fits; running_fit = c.running_fit; start_fits = c.start_fits }

chained_unless : (x : ℕ) (new old : Record) → Chained new → Chained old → Chained (unless_refused x new old)
chained_unless zero new old n o = n
chained_unless (suc x) new old n o = o

pub chained_called : (r : Record) (c : Call) → Chained r → Chained (called r c).state
unfolding added closing
chained_called r (add piece) h =
    chained_unless (add_refusal r (length piece)) (grown (current r) piece) r (chained_grown (current r) piece (chained_current r h)) h
chained_called r (close part) h = chained_unless (close_refusal r (length part)) (next_day (current r)) r (chained_next (current r) (chained_current r h)) h

chained_after : (r : Record) (cs : List Call) → Chained r → Chained (state_after r cs)
chained_after r [] h = h
chained_after r (c ∷ cs) h = chained_after (called r c).state cs (chained_called r c h)

pub chained_open : (s n f : ℕ) → number_of (opened s n f).answer ≡ 0 → Chained (opened s n f).state
unfolding opened fresh at_start
chained_open s n f e =
    let w = start_words s n in
    rw (sym (opened_number s n f) ∙ e) (record { black_fits = w; running_fit = same_slots 17 (start_value s n) w; start_fits = w })

-- ---- the record that a list of calls leaves

setup_small : (s n f : ℕ) → setup_refusal s n f ≡ 0 → (s < 2 ^ 32) × (n < 2 ^ 32) × (f < 2 ^ 32)
setup_small s n f e =
    let u = setup_is s n f e in
    let a = allowed_scheme_is s u.scheme_ok in
    let b = allowed_n_is n u.n_ok in
    let c = allowed_f_is s f u.f_ok in (omega (arith, a.1), omega (arith, b.most), omega (arith, c.1))

module _ {s n f : ℕ} {j : Journal} {r : Record} (k : Keeps s n f j r) (c : Chained r) where
  pub fits_kept : Fits r
  fits_kept =
      let small = setup_small s n f k.setup_ok in
      record {
        counts = (
          omega (arith, k.scheme_is, small.0),
          omega (arith, k.n_is, small.1),
          omega (arith, k.f_is, small.2),
          omega (arith, k.days_are, k.days_most),
          omega (arith, k.bytes_are, k.bytes_most),
        );
        hash_fits = rw (ap (λ (h : Hasher). h.words) k.open_day_lem) (begun_words (0 ∷ j.day));
        black_fits = c.black_fits;
        running_many = k.chains_hold.size;
        running_fit = c.running_fit;
        block_many = ap (λ (h : Hasher). length h.block) k.open_day_lem ∙ begun_block (0 ∷ j.day);
        start_fits = c.start_fits;
        season_fits = omega (arith, k.season_most);
      }

  told_kept : (written : List ℕ) → written ≡ book_of s n j.entries → Told r written
  unfolding written_so_far
  told_kept written e =
      let size = ap length e ∙ book_length s n j.entries in
      record {
        fits = fits_kept;
        same = record_round_trip r fits_kept;
        not_refused = rw (record_allowed k);
        counted = rw (record_allowed k, k.scheme_is, k.n_is, k.days_are) (sym size);
      }

pub records_told : RecordsTold
records_told s n f opens cs =
    let r = state_after (opened s n f).state cs in
    let here = (from_open s n f opens cs).state in
    told_kept here.keeps (chained_after (opened s n f).state cs (chained_open s n f opens)) (wrote s n f cs r.season)
    (open_book s n f opens cs r.season ∙ ap (book_of s n) (entries_present (seasons_of s n cs) r.season (sym here.season_is)))
