-- The slots 0 to 15 linked in lanes.
-- Assumes nothing.
use Prim.Native.Nat.{ℕ, zero, suc, ◌+◌, ◌<◌}
use mathlib.Core.Path.{◌≡◌, refl, ap, ◌∙◌}
use mathlib.Core.List.{List, [], ◌∷◌}
use native.Mathlib.Omega.{arith}
use borrow.Author.Count.{below_more}
use lib.ListN.{length, get_or, set}
use Rattle.lanes.specs.Lanes.{lane}
use Rattle.lanes.specs.Private.{puts, Lanes}
use Rattle.lanes.proofs.LaneLaws.{Through, through_next}
use Rattle.links.specs.Private.{front, link_of}
use Rattle.links.proofs.Links.{link_of_lem}
use Rattle.chains.specs.declared.Value.{Value}
use Rattle.chains.specs.Step.{linked, linked_slots}
use Rattle.chains.specs.Private.{none, words_at, front_of, Fronts, link_each, levels_linked}
use Rattle.chains.proofs.Slots.{upto, upto_put, upto_all}

-- an element that is there, whatever stands for one that is not
any_default : (l : List Value) (i : ℕ) (y z : Value) → i < length l → get_or l i y ≡ get_or l i z
any_default [] i y z h = absurd (omega arith)
any_default (x ∷ l) zero y z h = refl
any_default (x ∷ l) (suc i) y z h = any_default l i y z (omega arith)

length_front : (v h : List ℕ) → length (front v h) ≡ 16
unfolding front
length_front v h = refl

-- ---- the first blocks

pub fronts_turn : (slots : List Value) (z : Value) (h : List ℕ) (j : ℕ) (w₀ w : List (List ℕ)) {m : List ℕ} {q : List (List ℕ)} → Through 16 (front_of slots h) j w₀ w
    → m ≡ front (get_or slots j z).words h → q ≡ puts w j m → j < 16 → length slots ≡ 17 → Through 16 (front_of slots h) (j + 1) w₀ q
fronts_turn slots z h j w₀ w {m} b em eq l n =
    through_next 16 (front_of slots h) j w₀ w m b eq (em ∙ ap (λ (v : Value). front v.words h) (any_default slots j z none (omega arith)))
    (ap length em ∙ length_front (get_or slots j z).words h) l

pub eight_more : (slots : List Value) (z : Value) (j : ℕ) → ((i : ℕ) → i < j → length (words_at slots i) ≡ 8) → length (get_or slots j z).words ≡ 8 → j < 16
    → length slots ≡ 17 → (i : ℕ) → i < j + 1 → length (words_at slots i) ≡ 8
eight_more slots z j h e l n =
    below_more _ _ h (ap (λ (v : Value). length v.words) (any_default slots j none z (omega arith)) ∙ e)

-- ---- both blocks

pub links_are : (slots : List Value) (h : List ℕ) (m s : List (List ℕ)) → Fronts slots h m → Lanes 8 (link_of m h) s → length h ≡ 8 → (j : ℕ) → j < 16
    → lane s j ≡ (linked (get_or slots j none) h).words
unfolding linked
links_are slots h m s f ls lh j l = link_of_lem (words_at slots j) h (f.blocks_are.each j l) refl refl refl (ls.each j l) (f.eights j l) lh

-- ---- the links as values, one by one

value_of : (v : Value) (h : List ℕ) {u : List ℕ} → u ≡ (linked v h).words → record { words = u } ≡ linked v h
unfolding linked
value_of v h e = rw e

pub levels_next : (h : List ℕ) (s : List (List ℕ)) (i : ℕ) (l r : List Value) {u : List ℕ} → r ≡ upto (link_each h) 0 i l → u ≡ lane s i → lane s i ≡ (linked (get_or l i none) h).words
    → i < length l → set r i (record { words = u }) ≡ upto (link_each h) 0 (i + 1) l
levels_next h s i l r e eu ls b = upto_put none (link_each h) i l r e (value_of (get_or l i none) h (eu ∙ ls)) b

pub levels_done : (z : Value) (h : List ℕ) (i : ℕ) (l r : List Value) {w : Value} → r ≡ upto (link_each h) 0 i l → i ≡ 16 → w ≡ linked (get_or l 16 z) h
    → length l ≡ 17 → set r 16 w ≡ levels_linked h l
unfolding levels_linked
levels_done z h i l r e q ew n = upto_put z (link_each h) 16 l r (rw q at e) ew (omega arith) ∙ upto_all (link_each h) 0 17 l (omega arith)

pub tree_linked : (s n g : ℕ) (h : List ℕ) (l : List Value) {r : List Value} → s ≡ 3 → r ≡ levels_linked h l → r ≡ linked_slots s n g h l
unfolding levels_linked linked_slots
tree_linked s n g h l es er = rw es er
