-- Acceptance and listing by local rules: the laws `accepted_rules` and `listing_is_listed` say that they are 01's.
-- Definitions only. A value is looked up by name.
use Rattle.std.specs.Prelude.{◌≡◌, ◌⊎◌, Bool, true, false, not, ◌&&◌, ◌||◌, cond, List, ℕ, zero, suc, pred, ◌+◌, ◌-◌, ◌*◌, ◌/◌, ◌%◌, ◌^◌, ◌≤◌, ◌<◌, eqb, leb, length, get_or}
use Rattle.refusals.specs.Refusals.{book_limit}
use Rattle.lists.specs.Lists.{every, up_from}
use Rattle.layouts.specs.Layouts.{divides, allowed_scheme, allowed_n, lg, Name, black, tile, tree, chains}
use Rattle.layouts.specs.Private.{position}

-- what the tests 1 2 3 7 12 leave of a table
pub record Table (scheme n d : ℕ) (t : List ℕ) : Type 0 where
  pub scheme_ok : allowed_scheme scheme ≡ true
  pub n_ok : allowed_n n ≡ true
  pub some : 1 ≤ d
  pub most : d ≤ book_limit
  pub whole : divides n d ≡ true
  pub size : length t ≡ length (chains scheme n d)

-- the table has the values of the days 1 to g
pub record Has (scheme n g : ℕ) (t : List ℕ) : Type 0 where
  pub scheme_ok : allowed_scheme scheme ≡ true
  pub n_ok : allowed_n n ≡ true
  pub some : 1 ≤ g
  pub most : g ≤ book_limit
  pub size : length (chains scheme n g) ≤ length t

-- and g closes an interval, or a chain of the tree's level l
pub record Interval (scheme n g : ℕ) (t : List ℕ) : Type 0 where
  pub has : Has scheme n g t
  pub whole : divides n g ≡ true

pub record Chain (n l g : ℕ) (t : List ℕ) : Type 0 where
  pub has : Has 3 n g t
  pub whole : divides (2 ^ l) g ≡ true
  pub level : l ≤ 16

-- each value is 0 or 1
abbrev pub Bits : List ℕ → Type 0
Bits t = (p : ℕ) → (get_or t p 0 ≡ 0) ⊎ (get_or t p 0 ≡ 1)

abbrev pub alike : Bool → Bool → Bool
alike true b = b
alike false b = not b

-- ---- rules

-- the value passes
unfoldable pub passes : ℕ → ℕ → List ℕ → Name → Bool
passes scheme n t x = eqb (get_or t (position scheme n x) 0) 1

-- black of the interval before passes, or there is none
unfoldable pub prior : ℕ → ℕ → List ℕ → ℕ → Bool
prior scheme n t g = leb g n || passes scheme n t (black (g - n))

-- where c(0) passes, so does c(i)
unfoldable pub tile_rule : ℕ → List ℕ → ℕ → ℕ → Bool
tile_rule n t g i = not (passes 2 n t (tile 0 g)) || passes 2 n t (tile i g)

-- the interval that ends at g: no black passes after one that fails; black is what stood before it and the interval's
-- own
unfoldable pub block_rule : ℕ → ℕ → List ℕ → ℕ → Bool
block_rule zero n t g = false
block_rule (suc zero) n t g = not (passes 1 n t (black g)) || prior 1 n t g
block_rule (suc (suc zero)) n t g =
    alike (passes 2 n t (black g)) (prior 2 n t g && passes 2 n t (tile 0 g))
    && every (tile_rule n t g) (up_from 1 (lg n))
block_rule (suc (suc (suc zero))) n t g = alike (passes 3 n t (black g)) (prior 3 n t g && passes 3 n t (tree (lg n) g))
block_rule (suc (suc (suc (suc s)))) n t g = false

unfoldable pub block_at : ℕ → ℕ → List ℕ → ℕ → Bool
block_at scheme n t k = block_rule scheme n t (k * n)

-- the tree's chain of level l + 1 that ends at g is its two halves
unfoldable pub halves_rule : ℕ → List ℕ → ℕ → ℕ → Bool
halves_rule n t l g =
    alike (passes 3 n t (tree (suc l) g)) (passes 3 n t (tree l (g - 2 ^ l)) && passes 3 n t (tree l g))

unfoldable pub halves_at : ℕ → List ℕ → ℕ → ℕ → Bool
halves_at n t l k = halves_rule n t l (k * 2 ^ suc l)

-- of the days 1 to g the last whose own chain of the tree fails is s, or none does and s is 0
pub record LastFailed (n : ℕ) (t : List ℕ) (g s : ℕ) : Type 0 where
  pub most : s ≤ g
  pub failed : (s ≡ 0) ⊎ (passes 3 n t (tree 0 s) ≡ false)
  pub later : (x : ℕ) → s < x → x ≤ g → passes 3 n t (tree 0 x) ≡ true

-- the tree's chain of level l that ends at g passes exactly if day s comes before it
unfoldable pub since_rule : ℕ → List ℕ → ℕ → ℕ → ℕ → Bool
since_rule n t g s l = alike (passes 3 n t (tree l g)) (leb (2 ^ l + s) g)

-- and so each of level 1 and up, or one does not
pub record DayRules (n : ℕ) (t : List ℕ) (g s : ℕ) (r : Bool) : Type 0 where
  pub holds : r ≡ true → (l : ℕ) → divides (2 ^ suc l) g ≡ true → since_rule n t g s (suc l) ≡ true
  pub fails : r ≡ false → (l : ℕ) × (divides (2 ^ suc l) g ≡ true) × (since_rule n t g s (suc l) ≡ false)

unfoldable pub level_rule : ℕ → ℕ → List ℕ → ℕ → Bool
level_rule n d t l = every (halves_at n t l) (up_from 1 (d / 2 ^ suc l))

unfoldable pub levels_rule : ℕ → ℕ → List ℕ → Bool
levels_rule n d t = every (level_rule n d t) (up_from 0 16)

unfoldable pub blocks_rule : ℕ → ℕ → ℕ → List ℕ → Bool
blocks_rule scheme n d t = every (block_at scheme n t) (up_from 1 (d / n))

unfoldable pub rules : ℕ → ℕ → ℕ → List ℕ → Bool
rules scheme n d t = blocks_rule scheme n d t && (not (eqb scheme 3) || levels_rule n d t)

-- ---- listing

-- the end of a day's interval
abbrev pub end_of : ℕ → ℕ → ℕ
end_of n day = suc (pred day / n) * n

-- the tile chain whose bit has weight 2^j
unfoldable pub tile_bit : ℕ → List ℕ → ℕ → ℕ → Bool
tile_bit n t g j = passes 2 n t (tile (lg n - j) g)

-- a number whose bit j is 1 exactly where p j, for j below k
abbrev pub one : Bool → ℕ
one b = cond b 1 0

unfoldable pub number : (ℕ → Bool) → ℕ → ℕ
number p zero = 0
number p (suc k) = one (p k) * 2 ^ k + number p k

-- no chain that passes covers a number x: bit j of x is 1 where p j
unfoldable pub bit_rule : (ℕ → Bool) → ℕ → ℕ → Bool
bit_rule p x j = not (p j && eqb (x / 2 ^ j % 2) 0)

unfoldable pub bits_rule : (ℕ → Bool) → ℕ → ℕ → Bool
bits_rule p l x = every (bit_rule p x) (up_from 0 l)

-- a day is listed
unfoldable pub is_listed : ℕ → ℕ → List ℕ → ℕ → Bool
is_listed zero n t day = false
is_listed (suc zero) n t day = not (passes 1 n t (black (end_of n day)))
is_listed (suc (suc zero)) n t day =
    not (passes 2 n t (tile 0 (end_of n day))) && bits_rule (tile_bit n t (end_of n day)) (lg n) (pred day)
is_listed (suc (suc (suc zero))) n t day = not (passes 3 n t (tree 0 day))
is_listed (suc (suc (suc (suc s)))) n t day = false
