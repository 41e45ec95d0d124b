-- The cases of the tests on slots, and the loops over them.
use mathlib.Core.Path.{◌≡◌, refl, sym, ap, ap₂, ◌∙◌}
use mathlib.Core.Bool.{Bool, true, false, not, ◌&&◌, cond}
use mathlib.Core.Logic.{◌⊎◌, inl, inr}
use mathlib.Core.List.{List, [], ◌∷◌, map}
use Prim.Native.Nat.{ℕ, zero, suc, ◌+◌, ◌%◌, ◌^◌, ◌≤◌, ◌<◌}
use native.Mathlib.Omega.{arith}
use native.Mathlib.Numerals.{add-one}
use lib.Dec.{eqb, leb}
use lib.ListN.{length, get_or, set, length-append, length-map}
use lib.Pow.{pow-lt, pow_mono}
use borrow.Author.Tests.{eqb-true, eq-eqb, leb-true, leb-false, lt-leb}
use Rattle.lists.proofs.Laws.{split, bool_ext}
use Rattle.layouts.specs.Layouts.{divides, lg, black, tree, levels, stored_once, stores_black_of_tree, names_of_day}
use Rattle.layouts.proofs.Counts.{lg_unique, lg_bounds, power_of, of_power}
use Rattle.chains.specs.declared.Value.{Value}
use Rattle.chains.specs.Private.{none}
use Rattle.chains.specs.Step.{linked, links_slot, stores_slot, stores_black, link_slot, restart_slot, each, linked_slots, restarted}

-- ---- whether black is a value of its own

-- black covers what the last chain of the tree does exactly at a power of two
pub once_power : (g : ℕ) → 1 ≤ g → stored_once g ≡ eqb (2 ^ lg g) g
once_power g p = bool_ext (stored_once g) (eqb (2 ^ lg g) g) forth (λ e. of_power (lg g) g (eqb-true (2 ^ lg g) g e))
  where
    is : (l : ℕ) × (2 ^ l ≡ g) → eqb (2 ^ lg g) g ≡ true
    is r =
        let b : 2 ^ r.0 < 2 ^ suc r.0 = pow-lt {i = r.0} {j = suc r.0} (omega arith) in
        let q : lg g ≡ r.0 = lg_unique g r.0 (omega (arith, r.1)) (omega (arith, r.1)) in
        eq-eqb (2 ^ lg g) g (ap (λ (x : ℕ). 2 ^ x) q ∙ r.1)

    forth : stored_once g ≡ true → eqb (2 ^ lg g) g ≡ true
    forth e = is (power_of g e)

pub black_tree : (s n g k w : ℕ) → s ≡ 3 → 1 ≤ g → g % n ≡ 0 → k ≡ lg g → w ≡ 2 ^ k → not (eqb w g) ≡ stores_black s n g
black_tree s n g k w e p h q v = rw (e, eq-eqb (g % n) 0 h, once_power g p, v, q)

-- the lg of a day is at most 16
pub lg_day : (g k : ℕ) → 1 ≤ g → g ≤ 65536 → k ≡ lg g → k ≤ 16
lg_day g k p l e = go (split (leb k 16))
  where
    b : (2 ^ lg g ≤ g) × (g < 2 ^ suc (lg g))
    b = lg_bounds g p

    go : (leb k 16 ≡ true) ⊎ (leb k 16 ≡ false) → k ≤ 16
    go (inl h) = leb-true k 16 h
    go (inr h) =
        let m : 17 ≤ k = leb-false k 16 h in
        let w : 2 ^ 17 ≤ 2 ^ k = pow_mono m in
        let v : 2 ^ k ≤ g = rw e b.0 in
        absurd (omega arith)

-- ---- a function at each slot, by a loop

abbrev pub upto : (ℕ → Value → Value) → ℕ → ℕ → List Value → List Value
upto f j zero l = l
upto f j (suc k) [] = []
upto f j (suc k) (x ∷ l) = f j x ∷ upto f (suc j) k l

put_at : (z : Value) (f : ℕ → Value → Value) (j k : ℕ) (l : List Value) → k < length l → set (upto f j k l) k (f (j + k) (get_or l k z)) ≡ upto f j (suc k) l
put_at z f j k [] h = absurd (omega arith)
put_at z f j zero (x ∷ l) h = let e : j + 0 ≡ j = omega arith in rw e
put_at z f j (suc k) (x ∷ l) h = let e : j + suc k ≡ suc j + k = omega arith in rw e (ap (λ (r : List Value). f j x ∷ r) (put_at z f (suc j) k l (omega arith)))

keep_at : (z : Value) (f : ℕ → Value → Value) (j k : ℕ) (l : List Value) → f (j + k) (get_or l k z) ≡ get_or l k z → upto f j k l ≡ upto f j (suc k) l
keep_at z f j zero [] h = refl
keep_at z f j zero (x ∷ l) h = let e : j + 0 ≡ j = omega arith in ap (λ (v : Value). v ∷ l) (sym (rw e at h))
keep_at z f j (suc k) [] h = refl
keep_at z f j (suc k) (x ∷ l) h = let e : j + suc k ≡ suc j + k = omega arith in ap (λ (r : List Value). f j x ∷ r) (keep_at z f (suc j) k l (rw e at h))

-- a turn of the loop: slot i is written, or stays as f leaves it
pub upto_put : (z : Value) (f : ℕ → Value → Value) (i : ℕ) (l r : List Value) {w : Value} → r ≡ upto f 0 i l → w ≡ f i (get_or l i z) → i < length l → set r i w ≡ upto f 0 (i + 1) l
upto_put z f i l r e q h =
    let o : 0 + i ≡ i = omega arith in
    rw (add-one, q, e) (ap (λ (x : ℕ). set (upto f 0 i l) i (f x (get_or l i z))) (sym o) ∙ put_at z f 0 i l h)

upto_keep : (z : Value) (f : ℕ → Value → Value) (i : ℕ) (l r : List Value) → r ≡ upto f 0 i l → f i (get_or l i z) ≡ get_or l i z → r ≡ upto f 0 (i + 1) l
upto_keep z f i l r e h =
    let o : 0 + i ≡ i = omega arith in
    rw add-one (e ∙ keep_at z f 0 i l (rw o h))

-- slot i by the code's tests
pub tile_put : (z : Value) (n g : ℕ) (h : List ℕ) (i : ℕ) (l r : List Value) (b : Bool) {w : Value} → r ≡ upto (link_slot 2 n g h) 0 i l → b ≡ links_slot 2 n g i → b ≡ true
    → w ≡ linked (get_or l i z) h → i < length l → set r i w ≡ upto (link_slot 2 n g h) 0 (i + 1) l
tile_put z n g h i l r b e t q ew k = upto_put z (link_slot 2 n g h) i l r e (rw (sym t ∙ q) ew) k

pub tile_keep : (n g : ℕ) (h : List ℕ) (i : ℕ) (l r : List Value) (b : Bool) → r ≡ upto (link_slot 2 n g h) 0 i l → b ≡ links_slot 2 n g i → b ≡ false
    → r ≡ upto (link_slot 2 n g h) 0 (i + 1) l
tile_keep n g h i l r b e t q = upto_keep none (link_slot 2 n g h) i l r e (rw (sym t ∙ q))

pub restart_put : (s n g : ℕ) (start : Value) (i : ℕ) (l r : List Value) (b : Bool) → r ≡ upto (restart_slot s n g start) 0 i l → b ≡ stores_slot s n g i → b ≡ true
    → i < length l → set r i start ≡ upto (restart_slot s n g start) 0 (i + 1) l
restart_put s n g start i l r b e t q k = upto_put none (restart_slot s n g start) i l r e (rw (sym t ∙ q)) k

pub restart_keep : (s n g : ℕ) (start : Value) (i : ℕ) (l r : List Value) (b : Bool) → r ≡ upto (restart_slot s n g start) 0 i l → b ≡ stores_slot s n g i → b ≡ false
    → r ≡ upto (restart_slot s n g start) 0 (i + 1) l
restart_keep s n g start i l r b e t q = upto_keep none (restart_slot s n g start) i l r e (rw (sym t ∙ q))

pub upto_all : (f : ℕ → Value → Value) (j k : ℕ) (l : List Value) → length l ≤ k → upto f j k l ≡ each f j l
upto_all f j zero [] h = refl
upto_all f j zero (x ∷ l) h = absurd (omega arith)
upto_all f j (suc k) [] h = refl
upto_all f j (suc k) (x ∷ l) h = ap (λ (r : List Value). f j x ∷ r) (upto_all f (suc j) k l (omega arith))

pub restarted_done : (s n g : ℕ) (start : Value) (i : ℕ) (l : List Value) {r : List Value} → r ≡ upto (restart_slot s n g start) 0 i l → 17 ≤ i → length l ≡ 17 → r ≡
    restarted s n g start l
unfolding restarted
restarted_done s n g start i l e p q = e ∙ upto_all (restart_slot s n g start) 0 i l (omega arith)

-- ---- scheme 1: no slot is linked, none starts again

each_same : (f : ℕ → Value → Value) → ((i : ℕ) (v : Value) → f i v ≡ v) → (j : ℕ) (l : List Value) → each f j l ≡ l
each_same f h j [] = refl
each_same f h j (x ∷ l) = ap₂ (λ (v : Value) (r : List Value). v ∷ r) (h j x) (each_same f h (suc j) l)

pub black_slots : (n g : ℕ) (h : List ℕ) (l : List Value) → l ≡ linked_slots 1 n g h l
unfolding linked_slots
black_slots n g h l = sym (each_same (link_slot 1 n g h) (λ i v. refl) 0 l)

pub black_kept : (n g : ℕ) (start : Value) (h : List ℕ) (l : List Value) → l ≡ restarted 1 n g start (linked_slots 1 n g h l)
unfolding restarted
black_kept n g start h l = black_slots n g h l ∙ sym (each_same (restart_slot 1 n g start) (λ i v. refl) 0 (linked_slots 1 n g h l))

-- ---- scheme 2: the slots of the tile chains

-- a function that leaves the slots from m on is done after m of them
upto_used : (f : ℕ → Value → Value) (m : ℕ) → ((i : ℕ) (v : Value) → m ≤ i → f i v ≡ v) → (j k : ℕ) (l : List Value) → m ≤ j + k → upto f j k l ≡ each f j l
upto_used f m h j zero [] p = refl
upto_used f m h j zero (x ∷ l) p = ap₂ (λ (v : Value) (r : List Value). v ∷ r) (sym (h j x (omega arith))) (upto_used f m h (suc j) zero l (omega arith))
upto_used f m h j (suc k) [] p = refl
upto_used f m h j (suc k) (x ∷ l) p = ap (λ (r : List Value). f j x ∷ r) (upto_used f m h (suc j) k l (omega arith))

pub tiles_linked : (n g : ℕ) (h : List ℕ) (i : ℕ) (l : List Value) {r : List Value} → lg n < i → r ≡ upto (link_slot 2 n g h) 0 i l → r ≡ linked_slots 2 n g h l
unfolding linked_slots
tiles_linked n g h i l past e = e ∙ upto_used (link_slot 2 n g h) (suc (lg n)) (λ j v p. rw (lt-leb j (lg n) p)) 0 i l (omega arith)

-- ---- a day without values: no slot starts again

-- its own chain ends at each day
some_level : (g : ℕ) → 1 ≤ g → length (levels g) ≡ 0 → ⊥
some_level zero p e = omega arith
some_level (suc g) p e =
    let o : suc g % 1 ≡ 0 = omega arith in
    let q = rw (eq-eqb (suc g % 1) 0 o) at e in
    omega (arith, q)

pub none_restarted : (s n g : ℕ) (start : Value) (l : List Value) → 1 ≤ g → length (names_of_day s n g) ≡ 0 → restarted s n g start l ≡ l
unfolding restarted
none_restarted zero n g start l p e = each_same (restart_slot 0 n g start) (λ i v. refl) 0 l
none_restarted (suc zero) n g start l p e = each_same (restart_slot 1 n g start) (λ i v. refl) 0 l
none_restarted (suc (suc zero)) n g start l p e = go (divides n g) refl
  where
    off : (c : Bool) → c && false ≡ false
    off c = elim c as (λ c. c && false ≡ false) [ true ↦ refl | false ↦ refl ]

    go : (c : Bool) → divides n g ≡ c → each (restart_slot 2 n g start) 0 l ≡ l
    go true q = absurd (let r = rw q at e in omega (arith, r))
    go false q = each_same (restart_slot 2 n g start) (λ i v. rw (q, off (leb i (lg n)))) 0 l
none_restarted (suc (suc (suc zero))) n g start l p e =
    absurd (some_level g p (let r = length-append (map (λ (k : ℕ). tree k g) (levels g)) (cond (stores_black_of_tree n g) (black g ∷ []) []) in omega (
      arith,
      r,
      length-map (levels g) (λ (k : ℕ). tree k g),
    )))
none_restarted (suc (suc (suc (suc s)))) n g start l p e = each_same (restart_slot (suc (suc (suc (suc s)))) n g start) (λ i v. refl) 0 l
