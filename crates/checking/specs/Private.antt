-- The running hashes that a check carries, what a day asks of them and gives, and what no refusal leaves. Definitions
-- only; private contracts cite them.
use Rattle.std.specs.Prelude.{◌≡◌, true, List, ℕ, ◌*◌, ◌≤◌, length, replicate}
use Rattle.refusals.specs.Refusals.{book_limit}
use Rattle.layouts.specs.Layouts.{allowed_scheme, allowed_n, names_of_day, chains}
use Rattle.ledger.specs.Private.{EndsHold}
use Rattle.chains.specs.declared.Value.{Value}
use Rattle.chains.specs.Step.{start_value, linked, linked_slots, restarted, day_values}
use Rattle.comparing.specs.Private.{compared}

-- a layout, the start of its chains, and what they have come to
pub record State : Type 0 where
  pub scheme : ℕ
  pub n : ℕ
  pub start : Value
  pub black : Value
  pub slots : List Value

-- before the first day
abbrev pub fresh : ℕ → ℕ → State
fresh scheme n =
    record {
      scheme = scheme;
      n = n;
      start = start_value scheme n;
      black = start_value scheme n;
      slots = replicate 17 (start_value scheme n);
    }

-- scheme 1, where the slots stay those of the start
abbrev pub black_alone : ℕ → Value → State
black_alone n black =
    record {
      scheme = 1;
      n = n;
      start = start_value 1 n;
      black = black;
      slots = replicate 17 (start_value 1 n);
    }

-- the slots with day g, whose digest is h, linked
abbrev pub linked_of : State → ℕ → List ℕ → List Value
linked_of s g h = linked_slots s.scheme s.n g h s.slots

-- after day g: the chains that are values of it have started again
abbrev pub after : State → ℕ → List ℕ → State
after s g h =
    record {
      scheme = s.scheme;
      n = s.n;
      start = s.start;
      black = linked s.black h;
      slots = restarted s.scheme s.n g s.start (linked_of s g h);
    }

-- what a day asks: it is one of a book's days, and there is room for its values and their outcomes
pub record DayReady (s : State) (g bookSize places : ℕ) : Type 0 where
  pub scheme_ok : allowed_scheme s.scheme ≡ true
  pub n_ok : allowed_n s.n ≡ true
  pub some : 1 ≤ g
  pub most : g ≤ book_limit
  pub book_long : 32 * length (names_of_day s.scheme s.n g) ≤ bookSize
  pub outcomes_long : length (names_of_day s.scheme s.n g) ≤ places

-- what no refusal leaves
pub record Ready (scheme n d : ℕ) (ends : List ℕ) (size bookSize workSize places : ℕ) : Type 0 where
  pub scheme_ok : allowed_scheme scheme ≡ true
  pub n_ok : allowed_n n ≡ true
  pub days_most : d ≤ book_limit
  pub ends_hold : EndsHold d ends size
  pub book_long : 32 * length (chains scheme n d) ≤ bookSize
  pub work_long : 32 * d ≤ workSize
  pub outcomes_long : length (chains scheme n d) ≤ places

-- the values of day g compared with the front of the book
abbrev pub compared_day : State → ℕ → List ℕ → List ℕ → List ℕ
compared_day s g h book =
    compared (day_values s.scheme s.n g (linked s.black h) (linked_of s g h)) book
