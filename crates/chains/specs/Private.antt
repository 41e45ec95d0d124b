-- What private contracts cite: what one day more gives, and the form of the code of the tree's links. Definitions only.
use Rattle.std.specs.Prelude.{◌≡◌, List, [], ℕ, ◌<◌, length, get_or}
use Rattle.layouts.specs.Layouts.{names_of_day}
use Rattle.lanes.specs.Private.{Lanes}
use Rattle.links.specs.Private.{front}
use Rattle.chains.specs.declared.DayStep.{DayStep}
use Rattle.chains.specs.declared.Value.{Value}
use Rattle.chains.specs.Step.{linked, each, linked_slots}

-- the running hashes with day g linked, and the number of its values
pub record DayLinked (scheme n g : ℕ) (b : Value) (slots : List Value) (h : List ℕ) (r : DayStep) : Type 0 where
  pub black_is : r.black ≡ linked b h
  pub slots_are : r.slots ≡ linked_slots scheme n g h slots
  pub count_is : r.count ≡ length (names_of_day scheme n g)

-- ---- the links of the slots 0 to 15 in lanes

-- what stands for a slot that is not there; the words of slot j
abbrev pub none : Value
none = record { words = [] }

abbrev pub words_at : List Value → ℕ → List ℕ
words_at slots j = (get_or slots j none).words

abbrev pub front_of : List Value → List ℕ → ℕ → List ℕ
front_of slots h j = front (words_at slots j) h

-- r has the first block of the link of slot j in lane j
pub record Fronts (slots : List Value) (h : List ℕ) (r : List (List ℕ)) : Type 0 where
  pub blocks_are : Lanes 16 (front_of slots h) r
  pub eights : (j : ℕ) → j < 16 → length (words_at slots j) ≡ 8

-- every slot linked
abbrev pub link_each : List ℕ → ℕ → Value → Value
link_each h i v = linked v h

unfoldable pub levels_linked : List ℕ → List Value → List Value
levels_linked h slots = each (link_each h) 0 slots
