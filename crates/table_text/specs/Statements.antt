-- 01's form by its parts, with 02's fifth field: a text is formed exactly if it is laid out so, and its numbers are
-- then those of its fields. Statements only; proofs/FormLaws.antt proves each.
use Rattle.std.specs.Prelude.{◌≡◌, ◌⊎◌, true, List, [], ◌∷◌, ◌++◌, map, ℕ}
use Rattle.number_text.specs.Numbers.{comma, line_feed, digit_of, digits, number_from, Number}
use Rattle.reading.specs.Numbers.{validation_before}
use Rattle.table_text.specs.Text.{is_formed, scheme_in, n_in, f_in, d_in, passed_in, outcomes_in}

-- the parts: four numbers, and outcomes that are digits only
pub record Parts (scheme n f d outcomes : List ℕ) : Type 0 where
  pub scheme_ok : Number scheme
  pub n_ok : Number n
  pub f_ok : Number f
  pub d_ok : Number d
  pub outcomes_ok : digits outcomes ≡ outcomes

-- `scheme,N,F,D`, a line feed, the outcomes, a line feed
pub record Laid (s scheme n f d outcomes : List ℕ) : Type 0 where
  pub parts : Parts scheme n f d outcomes
  pub text :
      s ≡ scheme ++ (comma ∷ (n ++ (comma ∷ (f ++ (comma ∷ (d ++ (line_feed ∷ (outcomes ++ (line_feed ∷ [])))))))))

-- `scheme,N,F,D,P`, and the same after it (SPEC 19.5)
pub record LaidWithPassed (s scheme n f d passed outcomes : List ℕ) : Type 0 where
  pub parts : Parts scheme n f d outcomes
  pub passed_ok : Number passed
  pub text :
      s ≡ scheme ++ (comma ∷ (n ++ (comma ∷ (f ++ (comma ∷ (d ++ (comma ∷
      (passed ++ (line_feed ∷ (outcomes ++ (line_feed ∷ [])))))))))))

-- what is read of such a text; passed is the P that is meant
pub record ReadAs (s scheme n f d : List ℕ) (passed : ℕ) (outcomes : List ℕ) : Type 0 where
  pub formed : is_formed s ≡ true
  pub scheme_is : scheme_in s ≡ number_from 0 scheme
  pub n_is : n_in s ≡ number_from 0 n
  pub f_is : f_in s ≡ number_from 0 f
  pub d_is : d_in s ≡ number_from 0 d
  pub passed_is : passed_in s ≡ passed
  pub outcomes_are : outcomes_in s ≡ map digit_of outcomes

-- four fields mean D − F·N
abbrev pub LaidIsRead : Type 0
LaidIsRead =
    (s scheme n f d outcomes : List ℕ) → Laid s scheme n f d outcomes →
    ReadAs s scheme n f d (validation_before (number_from 0 n) (number_from 0 f) (number_from 0 d)) outcomes

abbrev pub LaidWithPassedIsRead : Type 0
LaidWithPassedIsRead =
    (s scheme n f d passed outcomes : List ℕ) → LaidWithPassed s scheme n f d passed outcomes →
    ReadAs s scheme n f d (number_from 0 passed) outcomes

abbrev pub FormedIsLaid : Type 0
FormedIsLaid =
    (s : List ℕ) → is_formed s ≡ true →
    (scheme : List ℕ) × (n : List ℕ) × (f : List ℕ) × (d : List ℕ) × (passed : List ℕ) × (outcomes : List ℕ) ×
    (Laid s scheme n f d outcomes ⊎ LaidWithPassed s scheme n f d passed outcomes)
