-- The schedules and the rounds of all lanes, up to a block's compression in each.
-- Assumes nothing.
use Prim.Native.Nat.{ℕ, zero, suc, ◌+◌, ◌-◌, ◌≤◌, ◌<◌}
use mathlib.Core.{Path.◌≡◌, Path.refl, Path.sym, Path.ap, Path.ap₂, Path.◌∙◌, List.List, List.[], List.◌∷◌, List.◌++◌, List.map-append, Logic.⊎_elim}
use native.Mathlib.{Omega.arith, Numerals.add-one, Nat.add-zero, Nat.add-suc}
use borrow.Author.Count.{below_more}
use borrow.Author.Tests.{lt-ltb, le-ltb, ltb-true, ltb-false}
use lib.Dec.{ltb}
use lib.ListN.{length, get_or, take, drop, set, replicate}
use Rattle.std.proofs.lemmas.List.{get_or-replicate}
use lib.Seq.{get_or-set_same, get_or-set_other, get_or-drop, take_all, take_at, take-suc-set, length-take-le}
use Rattle.std.proofs.lemmas.List.{take-map}
use Rattle.lists.proofs.Laws.{split}
use Rattle.sha256_words.specs.Words.{k_table}
use Rattle.sha256.specs.Sha256.{later, scheduled, grown, schedule, round, rounds, summed, compress}
use Rattle.sha256.specs.Private.{mixed, rounds_on}
use Rattle.sha256.proofs.Steps.{begins, later_take}
use Rattle.lanes.specs.Lanes.{word_of, lane, lane_after, compressed, lane_after_same, compressed_same}
use Rattle.lanes.specs.Private.{puts, Wide, Lanes, on_lane, four_on, sum_of, schedule_of, always, worked_by}
use Rattle.lanes.proofs.LaneLaws.{length_lane, at_lane, by_lanes, Through, through_next}

-- ---- the schedules, row by row

-- the word after those of the rows
word_later : (w : List (List ℕ)) (i j : ℕ) {x : ℕ} → x ≡ mixed (get_or (get_or w (i - 2) []) j 0) (get_or (get_or w (i - 7) []) j 0) (get_or (get_or w (i - 15) []) j 0) (get_or (get_or w (i - 16) []) j 0)
    → x ≡ later (lane w j) i
unfolding later mixed
word_later w i j e = e ∙ sym (rw (at_lane w j (i - 2), at_lane w j (i - 7), at_lane w j (i - 15), at_lane w j (i - 16)))

pub row_next : (w : List (List ℕ)) (i j : ℕ) (row : List ℕ) {x : ℕ} → ((k : ℕ) → k < j → get_or row k 0 ≡ later (lane w k) i)
    → x ≡ mixed (get_or (get_or w (i - 2) []) j 0) (get_or (get_or w (i - 7) []) j 0) (get_or (get_or w (i - 15) []) j 0) (get_or (get_or w (i - 16) []) j 0)
    → j < length row → (k : ℕ) → k < j + 1 → get_or (set row j x) k 0 ≡ later (lane w k) i
row_next w i j row {x} h e l = below_more _ _
    (λ k b. get_or-set_other row j k x 0 (λ q. omega arith) ∙ h k b)
    (get_or-set_same row j x 0 l ∙ word_later w i j e)

pub scheduled_first : (m l : List ℕ) (i : ℕ) → i < 16 → get_or m i 0 ≡ scheduled m l i
unfolding scheduled
scheduled_first m l i h = rw (lt-ltb i 16 h)

scheduled_later : (m l : List ℕ) (i : ℕ) {x : ℕ} → x ≡ later l i → 16 ≤ i → x ≡ scheduled m l i
unfolding scheduled
scheduled_later m l i e h = rw (le-ltb i 16 h) e

pub word_next : (m : List ℕ) (w : List (List ℕ)) (i : ℕ) {x : ℕ}
    → x ≡ mixed (get_or (get_or w (i - 2) []) 0 0) (get_or (get_or w (i - 7) []) 0 0) (get_or (get_or w (i - 15) []) 0 0) (get_or (get_or w (i - 16) []) 0 0)
    → 16 ≤ i → x ≡ scheduled m (lane w 0) i
word_next m w i e h = scheduled_later m (lane w 0) i (word_later w i 0 e) h

lane_take : (i : ℕ) (w : List (List ℕ)) (j : ℕ) → lane (take i w) j ≡ take i (lane w j)
unfolding lane
lane_take i w j = sym (take-map (word_of j) i w)

-- the first i rows are those of the schedule of b, and then word i is its next
from_rows : (b : List ℕ) (w : List (List ℕ)) (i j : ℕ) → lane (take i w) j ≡ schedule b i → scheduled b (lane w j) i ≡ scheduled b (schedule b i) i
from_rows b w i j e = ⊎_elim
    (λ t. let h : i < 16 = ltb-true i 16 t in sym (scheduled_first b (lane w j) i h) ∙ scheduled_first b (schedule b i) i h)
    (λ f. let h : 16 ≤ i = ltb-false i 16 f in
    sym (scheduled_later b (lane w j) i refl h)
    ∙ scheduled_later b (schedule b i) i (sym (later_take (lane w j) i h) ∙ ap (λ (z : List ℕ). later z i) (sym (lane_take i w j) ∙ e)) h)
    (split (ltb i 16))

row_more : (b : List ℕ) (w : List (List ℕ)) (i j : ℕ) (row : List ℕ) → lane (take i w) j ≡ schedule b i → i < length w → get_or row j 0 ≡ scheduled b (schedule b i) i
    → lane (take (i + 1) (set w i row)) j ≡ schedule b (i + 1)
unfolding lane schedule grown
row_more b w i j row e l h = rw (add-one, take-suc-set w i row l, map-append (word_of j) (take i w) (row ∷ [])) (ap₂ (λ (a : List ℕ) (x : ℕ). a ++ x ∷ []) e h)

pub schedules_first : (w : List (List ℕ)) → length w ≡ 64 → (j : ℕ) → j < 16 → lane (take 16 w) j ≡ schedule (lane (take 16 w) j) 16
schedules_first w l j h =
    let n : length (lane (take 16 w) j) ≡ 16 = length_lane (take 16 w) j ∙ length-take-le 16 w (omega arith) in
    sym (begins (lane (take 16 w) j) 16 n (omega arith) ∙ take_all 16 (lane (take 16 w) j) (omega (arith, n)))

pub schedules_next : (m w : List (List ℕ)) (i : ℕ) (row : List ℕ) → ((j : ℕ) → j < 16 → lane (take i w) j ≡ schedule (lane m j) i) → ((j : ℕ) → j < 16 → get_or row j 0 ≡ later (lane w j) i)
    → 16 ≤ i → i < length w → (j : ℕ) → j < 16 → lane (take (i + 1) (set w i row)) j ≡ schedule (lane m j) (i + 1)
schedules_next m w i row e h a b j l =
    row_more (lane m j) w i j row (e j l) b (scheduled_later (lane m j) (lane w j) i (h j l) a ∙ from_rows (lane m j) w i j (e j l))

pub schedules_all : (m w : List (List ℕ)) (i : ℕ) → ((j : ℕ) → j < 16 → lane (take i w) j ≡ schedule (lane m j) i) → i ≤ 64 → 64 ≤ i → length w ≡ 64 → Lanes 64 (schedule_of m) w
unfolding schedule_of
schedules_all m w i h a b l =
    let q : i ≡ 64 = omega arith in
    record { size = l; each = λ j c. ap (λ (z : List (List ℕ)). lane z j) (sym (take_all 64 w (omega arith))) ∙ (rw q at (h j c)) }

pub same_none : (m : List ℕ) (j : ℕ) → lane [] j ≡ schedule m 0
unfolding lane schedule
same_none m j = refl

pub same_next : (m : List ℕ) (w : List (List ℕ)) (i x : ℕ) → ((j : ℕ) → j < 16 → lane (take i w) j ≡ schedule m i) → x ≡ scheduled m (lane w 0) i
    → i < length w → (j : ℕ) → j < 16 → lane (take (i + 1) (set w i (replicate 16 x))) j ≡ schedule m (i + 1)
same_next m w i x e h b j l =
    row_more m w i j (replicate 16 x) (e j l) b (get_or-replicate 16 j x 0 l ∙ h ∙ from_rows m w i 0 (e 0 (omega arith)))

pub same_all : (m : List ℕ) (w : List (List ℕ)) (i : ℕ) → ((j : ℕ) → j < 16 → lane (take i w) j ≡ schedule m i) → i ≤ 64 → 64 ≤ i → length w ≡ 64 → Lanes 64 (always (schedule m 64)) w
same_all m w i h a b l =
    let q : i ≡ 64 = omega arith in
    record { size = l; each = λ j c. ap (λ (z : List (List ℕ)). lane z j) (sym (take_all 64 w (omega arith))) ∙ (rw q at (h j c)) }

-- ---- the rounds, four at a time

pub on_none : (w : List (List ℕ)) (k : List ℕ) (t : ℕ) (v : List ℕ) (j : ℕ) → v ≡ on_lane w k t 0 v j
unfolding on_lane rounds_on
on_none w k t v j = refl

pub on_next : (w : List (List ℕ)) (k : List ℕ) (t i : ℕ) (v : List ℕ) (j : ℕ) {r u : List ℕ} → r ≡ on_lane w k t i v j
    → u ≡ round r (get_or k (t + i) 0) (get_or (get_or w (t + i) []) j 0) → u ≡ on_lane w k t (i + 1) v j
unfolding on_lane rounds_on
on_next w k t i v j e eu =
    eu ∙ rw (add-one, get_or-drop t (lane w j) i 0, at_lane w j (t + i)) (ap (λ (x : List ℕ). round x (get_or k (t + i) 0) (get_or (get_or w (t + i) []) j 0)) e)

pub rounds_turn : (w : List (List ℕ)) (k : List ℕ) (t j : ℕ) (s r : List (List ℕ)) {v u : List ℕ} {q : List (List ℕ)} → Through 8 (four_on w k t s) j s r → v ≡ lane r j → u ≡ on_lane w k t 4 v j
    → q ≡ puts r j u → length u ≡ 8 → j < 16 → Through 8 (four_on w k t s) (j + 1) s q
unfolding four_on
rounds_turn w k t j s r b ev eu eq l h = through_next 8 (four_on w k t s) j s r _ b eq
    (eu ∙ ap (λ (x : List ℕ). on_lane w k t 4 x j) (ev ∙ b.kept j (omega arith))) l h

pub sum_turn : (a : List (List ℕ)) (j : ℕ) (s r : List (List ℕ)) {g v u : List ℕ} {q : List (List ℕ)} → Through 8 (sum_of a s) j s r → g ≡ lane a j → v ≡ lane r j → u ≡ summed g v
    → q ≡ puts r j u → length u ≡ 8 → j < 16 → Through 8 (sum_of a s) (j + 1) s q
unfolding sum_of
sum_turn a j s r b eg ev eu eq l h = through_next 8 (sum_of a s) j s r _ b eq (eu ∙ ap₂ summed eg (ev ∙ b.kept j (omega arith))) l h

rounds_on_lem : (h w : List ℕ) (t n : ℕ) → rounds_on (rounds h w t) (drop t w) k_table t n ≡ rounds h w (t + n)
unfolding rounds_on rounds
rounds_on_lem h w t zero = rw add-zero
rounds_on_lem h w t (suc n) =
    rw (add-suc, get_or-drop t w n 0) (ap (λ (v : List ℕ). round v (get_or k_table (t + n) 0) (get_or w (t + n) 0)) (rounds_on_lem h w t n))

-- what holds before round t, for the hash values s and the schedules w
pub record Before (s w : List (List ℕ)) (t : ℕ) (v : List (List ℕ)) : Type 0 where
  pub size : length v ≡ 8
  pub wide : Wide v
  pub value : (j : ℕ) → j < 16 → lane v j ≡ rounds (lane s j) (lane w j) t

pub before_first : (s w : List (List ℕ)) → length s ≡ 8 → Wide s → Before s w 0 s
unfolding rounds
before_first s w e l = record { size = e; wide = l; value = λ j l. refl }

pub before_next : (s w : List (List ℕ)) (t n : ℕ) {v : List (List ℕ)} {k : List ℕ} {u : List (List ℕ)} → Before s w t v → k ≡ k_table → Lanes 8 (four_on w k t v) u → Wide u → n ≡ t + 4 → Before s w n u
unfolding four_on on_lane
before_next s w t n b ek lu wu en =
    record {
      size = lu.size;
      wide = wu;
      value = λ j h. lu.each j h ∙ rw (b.value j h, ek, en) (rounds_on_lem (lane s j) (lane w j) t 4);
    }

pub worked_by_lem : (s w : List (List ℕ)) (t : ℕ) (v : List (List ℕ)) {r : List (List ℕ)} → Before s w t v → t ≡ 64 → Lanes 8 (sum_of s v) r → Lanes 8 (worked_by s w) r
unfolding sum_of worked_by
worked_by_lem s w t v b q lr =
    record { size = lr.size; each = λ j h. lr.each j h ∙ ap (summed (lane s j)) (b.value j h ∙ ap (rounds (lane s j) (lane w j)) q) }

compress_by : (h w m : List ℕ) → w ≡ schedule m 64 → summed h (rounds h w 64) ≡ compress h m
unfolding compress
compress_by h w m e = rw e

pub compressed_by : (s m rest w r : List (List ℕ)) {a : List (List ℕ)} → a ≡ m → length a ≡ 16 → Lanes 64 (schedule_of (take 16 (a ++ rest))) w → Lanes 8 (worked_by s w) r → Wide r → r ≡ compressed s m
unfolding compressed worked_by schedule_of
compressed_by s m rest w r {a} e n lw lr wr = by_lanes 8 (lane_after s m) r wr
    record {
      size = lr.size;
      each = λ j h. lr.each j h
          ∙ compress_by (lane s j) (lane w j) (lane m j) (lw.each j h ∙ ap (λ (x : List (List ℕ)). schedule (lane x j) 64) (take_at a rest 16 n ∙ e));
    }

pub compressed_same_lem : (s : List (List ℕ)) (m : List ℕ) (w r : List (List ℕ)) → Lanes 64 (always (schedule m 64)) w → Lanes 8 (worked_by s w) r → Wide r → r ≡ compressed_same s m
unfolding compressed_same worked_by
compressed_same_lem s m w r lw lr wr = by_lanes 8 (lane_after_same s m) r wr
    record { size = lr.size; each = λ j h. lr.each j h ∙ compress_by (lane s j) (lane w j) m (lw.each j h) }
