-- A block's schedule made ready, and the rounds with it. Assumes nothing.
use Prim.Native.Nat.{ℕ, zero, suc, ◌+◌, ◌-◌, ◌*◌, ◌≤◌, ◌<◌}
use mathlib.Core.{Path.◌≡◌, Path.refl, Path.sym, Path.ap, Path.◌∙◌, List.List, List.[], List.◌∷◌, List.◌++◌}
use native.Mathlib.{Omega.arith, Numerals.add-one, Nat.add-zero, Nat.add-suc, Nat.zero-add}
use borrow.Author.{Count.below_more, Tests.le-ltb}
use lib.ListN.{length, get_or, take, set, length-set, get_or-append}
use lib.Seq.{take-suc-set, take_all, take_at, get_or-set_same, get_or-set_other}
use Rattle.sha256_words.specs.Words.{add32, k_table}
use Rattle.sha256.specs.Sha256.{later, scheduled, grown, schedule, t1, round, rounds, summed, compress}
use Rattle.sha256.specs.Private.{mixed, rounds_on}
use Rattle.sha256.proofs.Steps.{begins, later_take}
use Rattle.prepared.specs.Private.{Prepared, worked}

-- ---- the schedule: its first i words stand in w

pub schedule_first : (m rest : List ℕ) {a : List ℕ} → a ≡ m → length m ≡ 16 → take 16 (a ++ rest) ≡ schedule m 16
schedule_first m rest {a} e n = rw e (take_at m rest 16 n ∙ sym (begins m 16 n (omega arith) ∙ take_all 16 m (omega arith)))

pub schedule_next : (m w : List ℕ) (i a : ℕ) {x : ℕ} → take i w ≡ schedule m i → 16 ≤ i → i < length w → a ≡ get_or w (i - 2) 0
    → x ≡ mixed a (get_or w (i - 7) 0) (get_or w (i - 15) 0) (get_or w (i - 16) 0)
    → take (i + 1) (set w i x) ≡ schedule m (i + 1)
unfolding schedule grown scheduled later mixed
schedule_next m w i a {x} e l k ea ex =
    rw (add-one, take-suc-set w i x k, le-ltb i 16 l, e)
    (ap (λ (y : ℕ). schedule m i ++ y ∷ []) ((rw ea at ex) ∙ sym (later_take w i l) ∙ ap (λ (z : List ℕ). later z i) e))

-- the two words that are carried, at first and after a turn
pub carried_first : (m rest : List ℕ) (j : ℕ) {a : List ℕ} → a ≡ m → length m ≡ 16 → j < 16 → get_or m j 0 ≡ get_or (a ++ rest) j 0
carried_first m rest j e n l = rw e (sym (get_or-append m rest 0 j (omega arith)))

pub carried_on : (w : List ℕ) (i x : ℕ) {b : ℕ} → b ≡ get_or w (i - 1) 0 → 16 ≤ i → b ≡ get_or (set w i x) (i + 1 - 2) 0
carried_on w i x e l = let p : i + 1 - 2 ≡ i - 1 = omega arith in e ∙ rw p (sym (get_or-set_other w i (i - 1) x 0 (λ q. omega arith)))

pub carried_new : (w : List ℕ) (i x : ℕ) → i < length w → x ≡ get_or (set w i x) (i + 1 - 1) 0
carried_new w i x l = let p : i + 1 - 1 ≡ i = omega arith in rw p (sym (get_or-set_same w i x 0 l))

pub schedule_all : (m w : List ℕ) (i : ℕ) → take i w ≡ schedule m i → i ≡ 64 → length w ≡ 64 → w ≡ schedule m 64
schedule_all m w i e q n = sym (take_all 64 w (omega arith)) ∙ (rw q at e)

-- ---- the constants added: to the first i words of s

pub record Added (k s : List ℕ) (i : ℕ) (w : List ℕ) : Type 0 where
  pub within : i ≤ 64
  pub size : length w ≡ 64
  pub done : (q : ℕ) → q < i → get_or w q 0 ≡ add32 (get_or k q 0) (get_or s q 0)
  pub kept : (q : ℕ) → i ≤ q → get_or w q 0 ≡ get_or s q 0

pub added_none : (k s : List ℕ) → length s ≡ 64 → Added k s 0 s
added_none k s n = record { within = omega arith; size = n; done = λ q l. absurd (omega arith); kept = λ q l. refl }

pub added_next : (k s : List ℕ) (i : ℕ) (w : List ℕ) {x : ℕ} → Added k s i w → i < 64 → x ≡ add32 (get_or k i 0) (get_or w i 0) → Added k s (i + 1) (set w i x)
added_next k s i w {x} a l ex =
    record {
      within = omega arith;
      size = simp length-set a.size;
      done = below_more (λ q. get_or (set w i x) q 0 ≡ add32 (get_or k q 0) (get_or s q 0)) i (λ q h. get_or-set_other w i q x 0 (λ e. omega arith) ∙ a.done q h)
          (get_or-set_same w i x 0 (omega (arith, a.size)) ∙ ex ∙ ap (add32 (get_or k i 0)) (a.kept i (omega arith)));
      kept = λ q h. get_or-set_other w i q x 0 (λ e. omega arith) ∙ a.kept q (omega arith);
    }

pub prepared_of : (m k s : List ℕ) (i : ℕ) (w : List ℕ) → Added k s i w → 64 ≤ i → k ≡ k_table → s ≡ schedule m 64 → Prepared m w
prepared_of m k s i w a l ek es = record { size = a.size; each = λ q h. a.done q (omega arith) ∙ rw (ek, es) }

-- ---- the rounds

rounds_more : (h w : List ℕ) (t n : ℕ) → rounds_on (rounds_on h [] w 0 t) [] w t n ≡ rounds_on h [] w 0 (t + n)
unfolding rounds_on
rounds_more h w t zero = rw add-zero
rounds_more h w t (suc n) = rw (add-suc, zero-add) (ap (λ (v : List ℕ). round v (get_or w (t + n) 0) 0) (rounds_more h w t n))

pub turn_first : (h w : List ℕ) → h ≡ rounds_on h [] w 0 0
unfolding rounds_on
turn_first h w = refl

pub turn_next : (h w : List ℕ) (t : ℕ) {v u : List ℕ} → v ≡ rounds_on h [] w 0 (16 * t) → u ≡ rounds_on v [] w (16 * t) 16 → u ≡ rounds_on h [] w 0 (16 * (t + 1))
turn_next h w t e eu =
    let q : 16 * (t + 1) ≡ 16 * t + 16 = omega arith in
    eu ∙ rw (q, e) (rounds_more h w (16 * t) 16)

pub worked_of : (h w : List ℕ) (t : ℕ) {v r : List ℕ} → v ≡ rounds_on h [] w 0 (16 * t) → t ≡ 4 → r ≡ summed h v → r ≡ worked h w
unfolding worked
worked_of h w t e q er = er ∙ ap (summed h) (rw q at e)

-- ---- a prepared block serves as the block

-- the sum of a round's constant and word for its constant, and no word
add_first : (x k w : ℕ) → add32 (add32 x (add32 k w)) 0 ≡ add32 (add32 x k) w
unfolding add32
add_first x k w = omega arith

round_first : (v : List ℕ) (k w : ℕ) → round v (add32 k w) 0 ≡ round v k w
unfolding round t1
round_first v k w = rw add_first

rounds_are : (h m w : List ℕ) → Prepared m w → (n : ℕ) → n ≤ 64 → rounds_on h [] w 0 n ≡ rounds h (schedule m 64) n
unfolding rounds_on rounds
rounds_are h m w p zero l = refl
rounds_are h m w p (suc n) l =
    rw (zero-add, p.each n l, rounds_are h m w p n (omega arith)) (round_first (rounds h (schedule m 64) n) (get_or k_table n 0) (get_or (schedule m 64) n 0))

pub worked_is : (h m w : List ℕ) → Prepared m w → worked h w ≡ compress h m
unfolding worked compress
worked_is h m w p = ap (summed h) (rounds_are h m w p 64 (omega arith))
