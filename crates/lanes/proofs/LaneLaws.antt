-- Laws of lanes: their words, rows with given lanes, a lane put into rows, and a loop over all lanes.
-- Assumes nothing.
use Prim.Native.Nat.{ℕ, zero, suc, ◌+◌, ◌≤◌, ◌<◌}
use mathlib.Core.{Path.◌≡◌, Path.refl, Path.sym, Path.ap, Path.◌∙◌, List.List, List.[], List.◌∷◌, List.map, Logic.⊎_elim}
use native.Mathlib.{Omega.arith, Numerals.add-one, Nat.eq-or-lt_of_le}
use lib.ListN.{length, get_or, set, take, get_or-map, length-map, length-set}
use lib.Seq.{ext_get_or, get_or-set_same, get_or-set_other}
use mir.Syntax.{w32}
use mir.Val.{Val}
use denote.Shadow.{shadow}
use denote.Array.{each}
use borrow.Kind.Array.{e_int, e_arr}
use Rattle.lists.specs.Lists.{up_from}
use Rattle.lists.proofs.Laws.{length-up_from}
use Rattle.lanes.specs.Lanes.{word_of, lane, row_of, rows}
use Rattle.lanes.specs.Private.{puts, Wide, Lanes}

-- ---- words of lanes and of rows

pub length_lane : (l : List (List ℕ)) (j : ℕ) → length (lane l j) ≡ length l
unfolding lane
length_lane l j = length-map l (word_of j)

pub at_lane : (l : List (List ℕ)) (j i : ℕ) → get_or (lane l j) i 0 ≡ get_or (get_or l i []) j 0
unfolding lane
at_lane l j i = get_or-map (word_of j) l i []

made_from : {A : Type 0} (g : ℕ → A) (i n k : ℕ) (d : A) → k < n → get_or (map g (up_from i n)) k d ≡ g (i + k)
made_from g i zero k d l = absurd (omega arith)
made_from g i (suc n) zero d l = let e : i + 0 ≡ i = omega arith in rw e
made_from g i (suc n) (suc k) d l = let e : i + suc k ≡ suc i + k = omega arith in rw e (made_from g (suc i) n k d (omega arith))

made : {A : Type 0} (g : ℕ → A) (n k : ℕ) (d : A) → k < n → get_or (map g (up_from 0 n)) k d ≡ g k
made g n k d l = let e : 0 + k ≡ k = omega arith in made_from g 0 n k d l ∙ ap g e

length_made : {A : Type 0} (g : ℕ → A) (n : ℕ) → length (map g (up_from 0 n)) ≡ n
length_made g n = length-map (up_from 0 n) g ∙ length-up_from 0 n

pub length_rows : (n : ℕ) (f : ℕ → List ℕ) → length (rows n f) ≡ n
unfolding rows
length_rows n f = length_made (row_of f) n

at_row : (n : ℕ) (f : ℕ → List ℕ) (i : ℕ) → i < n → get_or (rows n f) i [] ≡ row_of f i
unfolding rows
at_row n f i h = made (row_of f) n i [] h

at_rows : (n : ℕ) (f : ℕ → List ℕ) (i j : ℕ) → i < n → j < 16 → get_or (get_or (rows n f) i []) j 0 ≡ get_or (f j) i 0
at_rows n f i j h l = ap (λ (r : List ℕ). get_or r j 0) (at_row n f i h) ∙ made (λ (k : ℕ). get_or (f k) i 0) 16 j 0 l

-- ---- rows with given lanes

-- that an array's rows are arrays of sixteen words, as its type says
pub wide_by_type : (l : List (List ℕ)) (us : List Val) → shadow (each (List ℕ) (e_arr (e_int w32) 16).ty.own_val l us) → Wide l
wide_by_type [] us h = tt
wide_by_type (r ∷ l) [] h = absurd h
wide_by_type (r ∷ l) (u ∷ us) h = (h.0.1.0.1, wide_by_type l us h.1)

pub lane_rows : (n : ℕ) (f : ℕ → List ℕ) (j : ℕ) → j < 16 → length (f j) ≡ n → lane (rows n f) j ≡ f j
lane_rows n f j h e =
    let s : length (lane (rows n f) j) ≡ n = length_lane (rows n f) j ∙ length_rows n f in
    ext_get_or 0 (lane (rows n f) j) (f j) (s ∙ sym e)
    (λ i b. at_lane (rows n f) j i ∙ at_rows n f i j (omega (arith, s)) h)

pub lane_read : (s : List (List ℕ)) (j : ℕ) (v : List ℕ) → length v ≡ length s → ((i : ℕ) → i < length s → get_or v i 0 ≡ get_or (get_or s i []) j 0) → v ≡ lane s j
lane_read s j v e h = ext_get_or 0 v (lane s j) (e ∙ sym (length_lane s j)) (λ i b. h i (omega (arith, e)) ∙ sym (at_lane s j i))

width : (l : List (List ℕ)) (i : ℕ) → Wide l → i < length l → length (get_or l i []) ≡ 16
width [] i w h = absurd (omega arith)
width (r ∷ l) zero w h = w.0
width (r ∷ l) (suc i) w h = width l i w.1 (omega arith)

pub by_lanes : (n : ℕ) (f : ℕ → List ℕ) (l : List (List ℕ)) → Wide l → Lanes n f l → l ≡ rows n f
by_lanes n f l w h = ext_get_or [] l (rows n f) (h.size ∙ sym (length_rows n f))
    (λ i b. let c : i < n = omega (arith, h.size) in
    let wide : length (get_or l i []) ≡ 16 = width l i w b in
    ext_get_or 0 (get_or l i []) (get_or (rows n f) i []) (wide ∙ sym (ap length (at_row n f i c) ∙ length_made (λ (k : ℕ). get_or (f k) i 0) 16))
    (λ j d. let k : j < 16 = omega (arith, wide) in
    sym (at_lane l j i) ∙ ap (λ (v : List ℕ). get_or v i 0) (h.each j k) ∙ sym (at_rows n f i j c k)))

-- ---- a lane put into rows

pub length_puts : (l : List (List ℕ)) (j : ℕ) (v : List ℕ) → length (puts l j v) ≡ length l
unfolding puts
length_puts [] j v = refl
length_puts (r ∷ l) j [] = refl
length_puts (r ∷ l) j (x ∷ v) = ap suc (length_puts l j v)

wide_puts : (l : List (List ℕ)) (j : ℕ) (v : List ℕ) → Wide l → Wide (puts l j v)
unfolding puts
wide_puts [] j v w = w
wide_puts (r ∷ l) j [] w = w
wide_puts (r ∷ l) j (x ∷ v) w = (length-set r j x ∙ w.0, wide_puts l j v w.1)

put_lane : (l : List (List ℕ)) (j : ℕ) (v : List ℕ) → j < 16 → Wide l → length v ≡ length l → lane (puts l j v) j ≡ v
unfolding puts lane
put_lane [] j [] h w e = refl
put_lane [] j (x ∷ v) h w e = absurd (omega arith)
put_lane (r ∷ l) j [] h w e = absurd (omega arith)
put_lane (r ∷ l) j (x ∷ v) h w e =
    rw (get_or-set_same r j x 0 (omega (arith, w.0))) (ap (λ (u : List ℕ). x ∷ u) (put_lane l j v h w.1 (omega arith)))

put_other : (l : List (List ℕ)) (j : ℕ) (v : List ℕ) (k : ℕ) → (k ≡ j → ⊥) → lane (puts l j v) k ≡ lane l k
unfolding puts lane
put_other [] j v k n = refl
put_other (r ∷ l) j [] k n = refl
put_other (r ∷ l) j (x ∷ v) k n =
    rw (get_or-set_other r j k x 0 n) (ap (λ (u : List ℕ). get_or r k 0 ∷ u) (put_other l j v k n))

-- the loop of a put
pub puts_none : (l : List (List ℕ)) (j : ℕ) → l ≡ puts l j []
unfolding puts
puts_none [] j = refl
puts_none (r ∷ l) j = refl

puts_more : (l : List (List ℕ)) (j : ℕ) (v : List ℕ) (i : ℕ) → i < length l → i < length v
    → set (puts l j (take i v)) i (set (get_or (puts l j (take i v)) i []) j (get_or v i 0)) ≡ puts l j (take (suc i) v)
unfolding puts
puts_more [] j v i h b = absurd (omega arith)
puts_more (r ∷ l) j [] i h b = absurd (omega arith)
puts_more (r ∷ l) j (x ∷ v) zero h b = ap (λ (u : List (List ℕ)). set r j x ∷ u) (puts_none l j)
puts_more (r ∷ l) j (x ∷ v) (suc i) h b = ap (λ (u : List (List ℕ)). set r j x ∷ u) (puts_more l j v i (omega arith) (omega arith))

pub puts_next : (l : List (List ℕ)) (j : ℕ) (v : List ℕ) (i : ℕ) {r : List (List ℕ)} → r ≡ puts l j (take i v) → i < length l → i < length v
    → set r i (set (get_or r i []) j (get_or v i 0)) ≡ puts l j (take (i + 1) v)
puts_next l j v i e h b = rw (add-one, e) (puts_more l j v i h b)

-- ---- a loop over all lanes: those below j are f's, the others are as they were

pub record Through (n : ℕ) (f : ℕ → List ℕ) (j : ℕ) (s r : List (List ℕ)) : Type 0 where
  pub size : length r ≡ n
  pub wide : Wide r
  pub done : (i : ℕ) → i < j → lane r i ≡ f i
  pub kept : (i : ℕ) → j ≤ i → lane r i ≡ lane s i

pub through_none : (n : ℕ) (f : ℕ → List ℕ) (s : List (List ℕ)) → length s ≡ n → Wide s → Through n f 0 s s
through_none n f s e w = record { size = e; wide = w; done = λ i l. absurd (omega arith); kept = λ i l. refl }

pub through_next : (n : ℕ) (f : ℕ → List ℕ) (j : ℕ) (s r : List (List ℕ)) (u : List ℕ) {q : List (List ℕ)} → Through n f j s r → q ≡ puts r j u → u ≡ f j → length u ≡ n → j < 16
    → Through n f (j + 1) s q
through_next n f j s r u t eq eu lu h =
    record {
      size = ap length eq ∙ length_puts r j u ∙ t.size;
      wide = rw eq (wide_puts r j u t.wide);
      done = λ i l. ap (λ (x : List (List ℕ)). lane x i) eq ∙ ⊎_elim
          (λ e. rw e (put_lane r j u h t.wide (lu ∙ sym t.size) ∙ eu))
          (λ k. put_other r j u i (λ e. omega arith) ∙ t.done i k)
          (eq-or-lt_of_le (let m : i ≤ j = omega arith in m));
      kept = λ i l. ap (λ (x : List (List ℕ)). lane x i) eq ∙ put_other r j u i (λ e. omega arith) ∙ t.kept i (omega arith);
    }

pub through_all : (n : ℕ) (f : ℕ → List ℕ) (j : ℕ) (s r : List (List ℕ)) → Through n f j s r → 16 ≤ j → Lanes n f r
through_all n f j s r t h = record { size = t.size; each = λ i l. t.done i (omega arith) }
