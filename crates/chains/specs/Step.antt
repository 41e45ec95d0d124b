-- The running hashes (SPEC 5.1), and what one more day does to them (SPEC 5.4). Definitions only.
-- There is one for black and seventeen slots: tile chain c(i) in slot i, or the tree's level l in slot l.
use Rattle.std.specs.Prelude.{Bool, true, false, ◌&&◌, cond, List, [], ◌∷◌, ◌++◌, map, ℕ, zero, suc, ◌+◌, ◌^◌, leb, get_or}
use Rattle.layouts.specs.Layouts.{divides, lg, Name, black, tile, tree, offset, covers, stores_black_of_tree, names_of_day}
use Rattle.sha256.specs.Sha256.{hashed, hashed_blocks}
use Rattle.sha256_words.specs.Words.{bytes_of}
use Rattle.chains.specs.declared.Value.{Value}
use Rattle.chains.specs.Book.{start_input}

-- 02's start of a chain (SPEC 3.4), as words
unfoldable pub start_value : ℕ → ℕ → Value
start_value scheme n = record { words = hashed (start_input scheme n) }

-- 01's link of a value and a digest (SPEC 3.5), as words; and the blocks compressed for it
abbrev pub link_bytes : Value → List ℕ → List ℕ
link_bytes v h = 1 ∷ (bytes_of v.words ++ bytes_of h)

unfoldable pub linked : Value → List ℕ → Value
linked v h = record { words = hashed (link_bytes v h) }

unfoldable pub link_blocks : Value → List ℕ → ℕ
link_blocks v h = hashed_blocks (link_bytes v h)

-- whether day g is linked to slot i: each tile chain that covers it; each level of the tree
abbrev pub links_slot : ℕ → ℕ → ℕ → ℕ → Bool
links_slot zero n g i = false
links_slot (suc zero) n g i = false
links_slot (suc (suc zero)) n g i = leb i (lg n) && covers n i (offset n g)
links_slot (suc (suc (suc zero))) n g i = true
links_slot (suc (suc (suc (suc s)))) n g i = false

-- whether the chain of slot i is a value of day g, and so starts again
abbrev pub stores_slot : ℕ → ℕ → ℕ → ℕ → Bool
stores_slot zero n g i = false
stores_slot (suc zero) n g i = false
stores_slot (suc (suc zero)) n g i = leb i (lg n) && divides n g
stores_slot (suc (suc (suc zero))) n g i = divides (2 ^ i) g
stores_slot (suc (suc (suc (suc s)))) n g i = false

-- whether black is a value of its own of day g (SPEC 4.9)
abbrev pub stores_black : ℕ → ℕ → ℕ → Bool
stores_black zero n g = false
stores_black (suc zero) n g = divides n g
stores_black (suc (suc zero)) n g = divides n g
stores_black (suc (suc (suc zero))) n g = stores_black_of_tree n g
stores_black (suc (suc (suc (suc s)))) n g = false

abbrev pub link_slot : ℕ → ℕ → ℕ → List ℕ → ℕ → Value → Value
link_slot scheme n g h i v = cond (links_slot scheme n g i) (linked v h) v

abbrev pub restart_slot : ℕ → ℕ → ℕ → Value → ℕ → Value → Value
restart_slot scheme n g start i v = cond (stores_slot scheme n g i) start v

-- a function of the index and the value, at each slot from i on
abbrev pub each : (ℕ → Value → Value) → ℕ → List Value → List Value
each f i [] = []
each f i (v ∷ vs) = f i v ∷ each f (suc i) vs

-- the slots with day g linked; and with those started again whose chains are values of day g
unfoldable pub linked_slots : ℕ → ℕ → ℕ → List ℕ → List Value → List Value
linked_slots scheme n g h slots = each (link_slot scheme n g h) 0 slots

-- the blocks compressed to link day g to the slots from i on
abbrev pub slot_blocks : ℕ → ℕ → ℕ → List ℕ → ℕ → List Value → ℕ
slot_blocks scheme n g h i [] = 0
slot_blocks scheme n g h i (v ∷ vs) =
    cond (links_slot scheme n g i) (link_blocks v h) 0 + slot_blocks scheme n g h (suc i) vs

unfoldable pub restarted : ℕ → ℕ → ℕ → Value → List Value → List Value
restarted scheme n g start slots = each (restart_slot scheme n g start) 0 slots

-- the value of a named chain (SPEC 5.4), from the running hashes that have day g linked
abbrev pub current : Value → List Value → Name → Value
current b slots (black g) = b
current b slots (tile i g) = get_or slots i b
current b slots (tree l g) = get_or slots l b

-- the values of day g, in book order
unfoldable pub day_values : ℕ → ℕ → ℕ → Value → List Value → List Value
day_values scheme n g b slots = map (current b slots) (names_of_day scheme n g)

-- values as bytes, end to end
unfoldable pub value_bytes : List Value → List ℕ
value_bytes [] = []
value_bytes (v ∷ vs) = bytes_of v.words ++ value_bytes vs

-- ---- 02's links of a day (SPEC 17.2)

-- how many of the first k slots day g is linked to
abbrev pub slot_links : ℕ → ℕ → ℕ → ℕ → ℕ
slot_links scheme n g zero = 0
slot_links scheme n g (suc k) = slot_links scheme n g k + cond (links_slot scheme n g k) 1 0

-- black once, and each of the seventeen slots that day g is linked to
unfoldable pub links_of : ℕ → ℕ → ℕ → ℕ
links_of scheme n g = suc (slot_links scheme n g 17)
