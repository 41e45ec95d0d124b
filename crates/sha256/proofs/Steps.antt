-- The schedule's recursion, and the window that slides over it, up to a block's compression.
-- Assumes nothing.
use Prim.Native.Nat.{ℕ, zero, suc, ◌*◌, ◌+◌, ◌-◌, ◌%◌, ◌≤◌, ◌<◌}
use mathlib.Core.{Path.◌≡◌, Path.refl, Path.sym, Path.ap, Path.◌∙◌, List.List, List.[], List.◌∷◌, Logic.⊎_elim}
use native.Mathlib.{Omega.arith, Nat.add-suc, Nat.add-zero, Nat.eq-or-lt_of_le, Nat.le_of_suc-le-suc}
use borrow.Author.Tests.{lt-ltb, le-ltb}
use lib.ListN.{length, get_or, take, drop, length-set, length-append, length-drop}
use lib.Seq.{take-suc, get_or-take, get_or-drop, take_all, take-append-le, get_or_at, get_or-set_same, get_or-set_other, ext_get_or, length-take-le}
use Rattle.sha256_words.specs.Words.{k_table}
use Rattle.sha256.specs.Sha256.{later, scheduled, grown, schedule, round, rounds, compress, summed}
use Rattle.sha256.specs.Private.{window, mixed, slid, slides, rounds_on}

-- ---- the schedule's words

pub length_schedule : (m : List ℕ) (n : ℕ) → length (schedule m n) ≡ n
unfolding schedule grown
length_schedule m zero = refl
length_schedule m (suc n) =
    length-append (schedule m n) (scheduled m (schedule m n) n ∷ []) ∙ omega (arith, length_schedule m n)

-- its first sixteen are the block's
pub begins : (m : List ℕ) (t : ℕ) → length m ≡ 16 → t ≤ 16 → schedule m t ≡ take t m
unfolding schedule grown scheduled
begins m zero e l = refl
begins m (suc t) e l =
    rw (lt-ltb t 16 (omega arith), take-suc m t 0 (omega arith), begins m t e (omega arith))

-- the schedule of fewer words is a beginning of that of more
prefix : (m : List ℕ) (i k : ℕ) → take i (schedule m (i + k)) ≡ schedule m i
unfolding schedule grown
prefix m i zero = rw add-zero (take_all i (schedule m i) (omega (arith, length_schedule m i)))
prefix m i (suc k) =
    rw add-suc
    (take-append-le i (schedule m (i + k)) (scheduled m (schedule m (i + k)) (i + k) ∷ []) (omega (arith, length_schedule m (i + k)))
    ∙ prefix m i k)

pub before : (m : List ℕ) (i n : ℕ) → i ≤ n → take i (schedule m n) ≡ schedule m i
before m i n l = let e : n ≡ i + (n - i) = omega arith in rw e (prefix m i (n - i))

pub later_take : (w : List ℕ) (t : ℕ) → 16 ≤ t → later (take t w) t ≡ later w t
unfolding later
later_take w t h =
    rw (get_or-take t w (t - 2) 0 (omega arith), get_or-take t w (t - 7) 0 (omega arith), get_or-take t w (t - 15) 0 (omega arith), get_or-take t w (t - 16) 0 (omega arith))

last : (m : List ℕ) (i : ℕ) → get_or (schedule m (suc i)) i 0 ≡ scheduled m (schedule m i) i
unfolding schedule grown
last m i = get_or_at (schedule m i) (scheduled m (schedule m i) i) [] 0 i (length_schedule m i)

-- word i + 16 of a schedule of more words, by the words before it
pub recurs : (m : List ℕ) (i n : ℕ) → i + 16 < n
    → get_or (schedule m n) (i + 16) 0
    ≡ mixed (get_or (schedule m n) (i + 14) 0) (get_or (schedule m n) (i + 9) 0) (get_or (schedule m n) (i + 1) 0) (get_or (schedule m n) i 0)
unfolding scheduled later mixed
recurs m i n l =
    let e : take (suc (i + 16)) (schedule m n) ≡ schedule m (suc (i + 16)) = before m (suc (i + 16)) n l in
    let s : take (i + 16) (schedule m n) ≡ schedule m (i + 16) = before m (i + 16) n (omega arith) in
    let a : i + 16 - 2 ≡ i + 14 = omega arith in
    let b' : i + 16 - 7 ≡ i + 9 = omega arith in
    let c : i + 16 - 15 ≡ i + 1 = omega arith in
    let d : i + 16 - 16 ≡ i = omega arith in
    sym (get_or-take (suc (i + 16)) (schedule m n) (i + 16) 0 (omega arith)) ∙ ap (λ (w : List ℕ). get_or w (i + 16) 0) e ∙ last m (i + 16)
    ∙ rw (le-ltb (i + 16) 16 (omega arith)) (ap (λ (w : List ℕ). later w (i + 16)) (sym s) ∙ later_take (schedule m n) (i + 16) (omega arith) ∙ rw (a, b', c, d))

-- ---- the window

at_window : (w : List ℕ) (t j : ℕ) → j < 16 → get_or (window w t) j 0 ≡ get_or w (t + j) 0
at_window w t j l = get_or-take 16 (drop t w) j 0 l ∙ get_or-drop t w j 0

length_window : (w : List ℕ) (t : ℕ) → t + 16 ≤ length w → length (window w t) ≡ 16
length_window w t l = length-take-le 16 (drop t w) (rw length-drop (omega arith))

length_slides : (n : ℕ) (w : List ℕ) → length (slides n w) ≡ length w
unfolding slides slid
length_slides zero w = refl
length_slides (suc n) w = rw length-set (length_slides n w)

-- after n words the ring starts at n: its word k is word t + n + k of the schedule
module _ (m : List ℕ) (size t : ℕ) (fits : t + 32 ≤ size) where
  abbrev w : List ℕ
  w = window (schedule m size) t

  length_ring : (n : ℕ) → length (slides n w) ≡ 16
  length_ring n = length_slides n w ∙ length_window (schedule m size) t (omega (arith, length_schedule m size))

  renewed : (n : ℕ) → n < 16
      → ((k : ℕ) → k < 16 → get_or (slides n w) ((n + k) % 16) 0 ≡ get_or (schedule m size) (t + n + k) 0)
      → get_or (slides (suc n) w) n 0 ≡ get_or (schedule m size) (t + n + 16) 0
  unfolding slides slid
  renewed n l h =
      let e : (n + 0) % 16 ≡ n = omega arith in
      let z : get_or (slides n w) n 0 ≡ get_or (schedule m size) (t + n) 0 = rw (e, add-zero) at (h 0 (omega arith)) in
      rw (get_or-set_same (slides n w) n _ 0 (omega (arith, length_ring n)), h 14 (omega arith), h 9 (omega arith), h 1 (omega arith), z)
      (sym (recurs m (t + n) size (omega arith)))

  ring : (n k : ℕ) → n ≤ 16 → k < 16 → get_or (slides n w) ((n + k) % 16) 0 ≡ get_or (schedule m size) (t + n + k) 0
  unfolding slides slid
  ring zero k l lk =
      let e : (0 + k) % 16 ≡ k = omega arith in
      let f : t + 0 + k ≡ t + k = omega arith in
      rw (e, f) (at_window (schedule m size) t k lk)
  ring (suc n) k l lk = ⊎_elim
      (λ e.
      let i : (suc n + k) % 16 ≡ n = omega arith in
      let j : t + suc n + k ≡ t + n + 16 = omega arith in
      rw (i, j) (renewed n (omega arith) (λ k' l'. ring n k' (omega arith) l')))
      (λ lt.
      let i : (suc n + k) % 16 ≡ (n + suc k) % 16 = omega arith in
      let j : t + suc n + k ≡ t + n + suc k = omega arith in
      rw (i, j) (get_or-set_other (slides n w) n ((n + suc k) % 16) _ 0 (λ e. omega arith) ∙ ring n (suc k) (omega arith) (omega arith)))
      (eq-or-lt_of_le (le_of_suc-le-suc lk))

  slides_window : slides 16 w ≡ window (schedule m size) (t + 16)
  slides_window =
      let lw : length (window (schedule m size) (t + 16)) ≡ 16 = length_window (schedule m size) (t + 16) (omega (arith, length_schedule m size)) in
      ext_get_or 0 (slides 16 w) (window (schedule m size) (t + 16)) (length_ring 16 ∙ sym lw)
      (λ i l.
      let li : i < 16 = omega (arith, length_ring 16) in
      let e : (16 + i) % 16 ≡ i = omega arith in
      (rw e at (ring 16 i (omega arith) li)) ∙ sym (at_window (schedule m size) (t + 16) i li))

rounds_window : (h w : List ℕ) (t n : ℕ) → n ≤ 16 → rounds_on (rounds h w t) (window w t) k_table t n ≡ rounds h w (t + n)
unfolding rounds_on rounds
rounds_window h w t zero l = rw add-zero
rounds_window h w t (suc n) l =
    rw (add-suc, at_window w t n l) (ap (λ (v : List ℕ). round v (get_or k_table (t + n) 0) (get_or w (t + n) 0)) (rounds_window h w t n (omega arith)))

-- ---- the four turns of sixteen rounds

abbrev all : List ℕ → List ℕ
all m = schedule m 64

-- what holds before a turn
pub record Before (h m : List ℕ) (turn : ℕ) (v w : List ℕ) : Type 0 where
  pub value : v ≡ rounds h (all m) (16 * turn)
  pub words_are : turn < 4 → w ≡ window (all m) (16 * turn)

pub before_first : (h m : List ℕ) → length m ≡ 16 → Before h m 0 h m
unfolding rounds
before_first h m l =
    record {
      value = refl;
      words_are = λ t. sym (take_all 16 m (omega arith)) ∙ sym (begins m 16 l (omega arith)) ∙ sym (before m 16 64 (omega arith));
    }

pub before_next : (h m : List ℕ) (turn : ℕ) {v w k u x : List ℕ} → Before h m turn v w → turn < 4 → k ≡ k_table → u ≡ rounds_on v w k (16 * turn) 16
    → (turn < 3 → x ≡ slides 16 w) → Before h m (turn + 1) u x
before_next h m turn b l ek eu ex =
    let next : 16 * (turn + 1) ≡ 16 * turn + 16 = omega arith in
    record {
      value = rw next (eu ∙ rw (ek, b.words_are l, b.value) (rounds_window h (all m) (16 * turn) 16 (omega arith)));
      words_are = λ t. rw next (ex (omega arith) ∙ rw (b.words_are l) (slides_window m 64 (16 * turn) (omega arith)));
    }

pub compressed : (h m : List ℕ) (turn : ℕ) {v w r : List ℕ} → Before h m turn v w → turn ≡ 4 → r ≡ summed h v → r ≡ compress h m
unfolding compress
compressed h m turn b e er = er ∙ ap (summed h) (b.value ∙ ap (λ (n : ℕ). rounds h (all m) (16 * n)) e)
