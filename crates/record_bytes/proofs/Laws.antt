-- Decoding and encoding undo each other, both ways.
-- Assumes nothing.
use Prim.Native.Nat.{ℕ, zero, suc, ◌+◌, ◌*◌, ◌/◌, ◌%◌, ◌^◌, ◌≤◌, ◌<◌}
use mathlib.Core.Path.{◌≡◌, refl, sym, ap, ap₂, ◌∙◌}
use mathlib.Core.List.{List, [], ◌∷◌, ◌++◌, append_assoc, append-nil}
use native.Mathlib.Omega.{arith}
use native.Mathlib.Numerals.{towards_suc}
use lib.ListN.{length, get_or, take, drop, length-append, length-drop, take-append-drop, replicate}
use lib.Seq.{take_all, take_at, drop_at, drop-drop, drop-cons, take-add, get_or-append_seam, get_or-append-add}
use Rattle.chains.specs.declared.Value.{Value}
use Rattle.service.specs.Contract.{no_value, zeros}
use Rattle.service.specs.declared.Record.{Record}
use Rattle.record_bytes.specs.Bytes.{hash_at, black_at, running_at, block_at, start_at, season_at, record_size, numbers_bytes, slots_bytes, bytes_of_record, number_at, numbers_at, value_at, slots_at, record_of, Words, Slots, Fits}

-- ---- bytes, to a record and back

abbrev Below : List ℕ → Type 0
Below b = (i : ℕ) → get_or b i 0 < 256

digits_of_number : (p q r s : ℕ) → p < 256 → q < 256 → r < 256 → s < 256
    → numbers_bytes ((p + q * 2 ^ 8 + r * 2 ^ 16 + s * 2 ^ 24) ∷ []) ≡ p ∷ q ∷ r ∷ s ∷ []
unfolding numbers_bytes
digits_of_number p q r s a b c d =
    let x = p + q * 2 ^ 8 + r * 2 ^ 16 + s * 2 ^ 24 in
    let d₁ : x / 2 ^ 8 ≡ q + r * 2 ^ 8 + s * 2 ^ 16 = omega arith in
    let d₂ : x / 2 ^ 16 ≡ r + s * 2 ^ 8 = omega arith in
    let d₃ : x / 2 ^ 24 ≡ s = omega arith in
    let e₁ : x % 256 ≡ p = omega arith in
    let e₂ : (q + r * 2 ^ 8 + s * 2 ^ 16) % 256 ≡ q = omega arith in
    let e₃ : (r + s * 2 ^ 8) % 256 ≡ r = omega arith in
    let e₄ : s % 256 ≡ s = omega arith in
    rw (e₁, d₁, e₂, d₂, e₃, d₃, e₄)

first_four : (b : List ℕ) (i : ℕ) → i + 4 ≤ length b → get_or b i 0 ∷ get_or b (i + 1) 0 ∷ get_or b (i + 2) 0 ∷ get_or b (i + 3) 0 ∷ [] ≡ take 4 (drop i b)
first_four b i l =
    simp towards_suc
    (sym
    (ap (take 4) (drop-cons b i 0 (omega arith)) ∙ ap (λ (x : List ℕ). get_or b i 0 ∷ take 3 x) (drop-cons b (suc i) 0 (omega arith))
    ∙ ap (λ (x : List ℕ). get_or b i 0 ∷ get_or b (suc i) 0 ∷ take 2 x) (drop-cons b (suc (suc i)) 0 (omega arith))
    ∙ ap (λ (x : List ℕ). get_or b i 0 ∷ get_or b (suc i) 0 ∷ get_or b (suc (suc i)) 0 ∷ take 1 x) (drop-cons b (suc (suc (suc i))) 0 (omega arith))))

-- a run that goes on where the one before ended
runs_join : (b x : List ℕ) (i m k : ℕ) → x ≡ take m (drop i b) → (y : List ℕ) → y ≡ take k (drop (i + m) b) → x ++ y ≡ take (m + k) (drop i b)
runs_join b x i m k e y q = ap₂ (λ (s t : List ℕ). s ++ t) e (q ∙ ap (take k) (sym (drop-drop m i b))) ∙ sym (take-add m k (drop i b))

module _ (b : List ℕ) (below : Below b) where
  number_run : (i : ℕ) → i + 4 ≤ length b → numbers_bytes (number_at b i ∷ []) ≡ take 4 (drop i b)
  unfolding number_at
  number_run i l = digits_of_number (get_or b i 0) (get_or b (i + 1) 0) (get_or b (i + 2) 0) (get_or b (i + 3) 0) (below i) (below (i + 1)) (below (i + 2)) (below (i + 3)) ∙ first_four b i l

  numbers_run : (k i : ℕ) → i + k * 4 ≤ length b → numbers_bytes (numbers_at k b i) ≡ take (k * 4) (drop i b)
  unfolding numbers_at numbers_bytes
  numbers_run zero i l = refl
  numbers_run (suc k) i l =
      let e : 4 + k * 4 ≡ suc k * 4 = omega arith in
      runs_join b (numbers_bytes (number_at b i ∷ [])) i 4 (k * 4) (number_run i (omega arith)) (numbers_bytes (numbers_at k b (i + 4))) (numbers_run k (i + 4) (omega arith)) ∙ ap
      (λ (x : ℕ). take x (drop i b)) e

  slots_run : (k i : ℕ) → i + k * 32 ≤ length b → slots_bytes (slots_at k b i) ≡ take (k * 32) (drop i b)
  unfolding slots_at slots_bytes value_at
  slots_run zero i l = refl
  slots_run (suc k) i l =
      let e : 32 + k * 32 ≡ suc k * 32 = omega arith in
      runs_join b (numbers_bytes (numbers_at 8 b i)) i 32 (k * 32) (numbers_run 8 i (omega arith)) (slots_bytes (slots_at k b (i + 32))) (slots_run k (i + 32) (omega arith)) ∙ ap
      (λ (x : ℕ). take x (drop i b)) e

  run_and_rest : (i m : ℕ) {x y : List ℕ} → x ≡ take m (drop i b) → y ≡ drop (i + m) b → x ++ y ≡ drop i b
  run_and_rest i m e q = ap₂ (λ (s t : List ℕ). s ++ t) e (q ∙ sym (drop-drop m i b)) ∙ take-append-drop m (drop i b)

  counts_run : length b ≡ record_size → numbers_bytes (number_at b 0 ∷ number_at b 4 ∷ number_at b 8 ∷ number_at b 12 ∷ number_at b 16 ∷ []) ≡ take hash_at b
  unfolding numbers_at
  counts_run l = numbers_run 5 0 (omega arith)

  -- the bytes of the record that record_size bytes say are those bytes
  pub bytes_round_trip : length b ≡ record_size → bytes_of_record (record_of b) ≡ b
  unfolding bytes_of_record record_of value_at
  bytes_round_trip l =
      let e₇ = number_run season_at (omega arith) ∙ take_all 4 (drop season_at b) (omega (arith, length-drop season_at b)) in
      let e₆ = run_and_rest start_at 32 (numbers_run 8 start_at (omega arith)) e₇ in
      let e₅ = run_and_rest block_at 64 refl e₆ in
      let e₄ = run_and_rest running_at 544 (slots_run 17 running_at (omega arith)) e₅ in
      let e₃ = run_and_rest black_at 32 (numbers_run 8 black_at (omega arith)) e₄ in
      let e₂ = run_and_rest hash_at 32 (numbers_run 8 hash_at (omega arith)) e₃ in
      run_and_rest 0 hash_at (counts_run l) e₂

-- ---- a record, to bytes and back

word_of_digits : (x : ℕ) → x < 2 ^ 32 → x % 256 + x / 2 ^ 8 % 256 * 2 ^ 8 + x / 2 ^ 16 % 256 * 2 ^ 16 + x / 2 ^ 24 % 256 * 2 ^ 24 ≡ x
word_of_digits x l =
    let d₁ : x / 2 ^ 8 ≡ x / 2 ^ 8 % 256 + x / 2 ^ 16 * 256 = omega arith in
    let d₂ : x / 2 ^ 16 ≡ x / 2 ^ 16 % 256 + x / 2 ^ 24 * 256 = omega arith in
    let d₃ : x / 2 ^ 24 % 256 ≡ x / 2 ^ 24 = omega arith in
    omega arith

length_numbers : (xs : List ℕ) → length (numbers_bytes xs) ≡ length xs * 4
unfolding numbers_bytes
length_numbers [] = refl
length_numbers (x ∷ xs) = let e = length_numbers xs in omega arith

number_read : (pre post : List ℕ) (x : ℕ) → x < 2 ^ 32 → number_at (pre ++ (numbers_bytes (x ∷ []) ++ post)) (length pre) ≡ x
unfolding number_at numbers_bytes
number_read pre post x l =
    let ys = numbers_bytes (x ∷ []) ++ post in
    let e₀ : get_or (pre ++ ys) (length pre) 0 ≡ x % 256 = get_or-append_seam pre (x % 256) (x / 2 ^ 8 % 256 ∷ x / 2 ^ 16 % 256 ∷ x / 2 ^ 24 % 256 ∷ post) 0 in
    let e₁ : get_or (pre ++ ys) (length pre + 1) 0 ≡ x / 2 ^ 8 % 256 = get_or-append-add pre ys 1 0 in
    let e₂ : get_or (pre ++ ys) (length pre + 2) 0 ≡ x / 2 ^ 16 % 256 = get_or-append-add pre ys 2 0 in
    let e₃ : get_or (pre ++ ys) (length pre + 3) 0 ≡ x / 2 ^ 24 % 256 = get_or-append-add pre ys 3 0 in
    rw (e₀, e₁, e₂, e₃) (word_of_digits x l)

numbers_read : (xs pre post : List ℕ) → ((i : ℕ) → get_or xs i 0 < 2 ^ 32) → numbers_at (length xs) (pre ++ (numbers_bytes xs ++ post)) (length pre) ≡ xs
unfolding numbers_at numbers_bytes
numbers_read [] pre post h = refl
numbers_read (x ∷ xs) pre post h =
    let front = pre ++ numbers_bytes (x ∷ []) in
    let at : length front ≡ length pre + 4 = length-append pre (numbers_bytes (x ∷ [])) in
    let on : front ++ (numbers_bytes xs ++ post) ≡ pre ++ (numbers_bytes (x ∷ xs) ++ post) = append_assoc pre (numbers_bytes (x ∷ [])) (numbers_bytes xs ++ post) in
    ap₂ (λ (y : ℕ) (ys : List ℕ). y ∷ ys) (number_read pre (numbers_bytes xs ++ post) x (h 0))
    (sym (ap₂ (λ (l : List ℕ) (i : ℕ). numbers_at (length xs) l i) on at) ∙ numbers_read xs front post (λ i. h (suc i)))

value_read : (pre post : List ℕ) (v : Value) → Words v.words → value_at (pre ++ (numbers_bytes v.words ++ post)) (length pre) ≡ v
unfolding value_at
value_read pre post v w =
    let e : numbers_at 8 (pre ++ (numbers_bytes v.words ++ post)) (length pre) ≡ v.words =
    ap (λ (k : ℕ). numbers_at k (pre ++ (numbers_bytes v.words ++ post)) (length pre)) (sym w.0) ∙ numbers_read v.words pre post w.1 in
    ap {B = Value} (λ l. record { words = l }) e

slots_read : (vs : List Value) (pre post : List ℕ) → Slots vs → slots_at (length vs) (pre ++ (slots_bytes vs ++ post)) (length pre) ≡ vs
unfolding slots_at slots_bytes
slots_read [] pre post h = refl
slots_read (v ∷ vs) pre post h =
    let bytes = numbers_bytes v.words in
    let front = pre ++ bytes in
    let rest = slots_bytes vs ++ post in
    let at : length front ≡ length pre + 32 = length-append pre bytes ∙ (let e = length_numbers v.words in let n = h.0.0 in omega arith) in
    let regrouped : pre ++ ((bytes ++ slots_bytes vs) ++ post) ≡ pre ++ (bytes ++ rest) = ap (λ (l : List ℕ). pre ++ l) (append_assoc bytes (slots_bytes vs) post) in
    let on : front ++ rest ≡ pre ++ ((bytes ++ slots_bytes vs) ++ post) = append_assoc pre bytes rest ∙ sym regrouped in
    ap₂ (λ (y : Value) (ys : List Value). y ∷ ys) (ap (λ (l : List ℕ). value_at l (length pre)) regrouped ∙ value_read pre rest v h.0)
    (sym (ap₂ (λ (l : List ℕ) (i : ℕ). slots_at (length vs) l i) on at) ∙ slots_read vs front post h.1)

same_record : (b : List ℕ) (r : Record) → number_at b 0 ≡ r.scheme → number_at b 4 ≡ r.n → number_at b 8 ≡ r.f → number_at b 12 ≡ r.days → number_at b 16 ≡ r.bytes
    → numbers_at 8 b hash_at ≡ r.hash → take 64 (drop block_at b) ≡ r.block → value_at b black_at ≡ r.black → slots_at 17 b running_at ≡ r.running → value_at b start_at ≡ r.start
    → number_at b season_at ≡ r.season → record_of b ≡ r
unfolding record_of
same_record b r e₁ e₂ e₃ e₄ e₅ e₆ e₇ e₈ e₉ e₁₀ e₁₁ = rw (e₁, e₂, e₃, e₄, e₅, e₆, e₇, e₈, e₉, e₁₀, e₁₁)

length_slots : (vs : List Value) → Slots vs → length (slots_bytes vs) ≡ length vs * 32
unfolding slots_bytes
length_slots [] h = refl
length_slots (v ∷ vs) h =
    length-append (numbers_bytes v.words) (slots_bytes vs) ∙ (let a = length_numbers v.words in let n = h.0.0 in let e = length_slots vs h.1 in omega arith)

-- five numbers, and what follows them
counts_read : (v w x y z : ℕ) (post : List ℕ) → v < 2 ^ 32 → w < 2 ^ 32 → x < 2 ^ 32 → y < 2 ^ 32 → z < 2 ^ 32 → let b = numbers_bytes (v ∷ w ∷ x ∷ y ∷ z ∷ []) ++ post in
    (number_at b 0 ≡ v) × (number_at b 4 ≡ w) × (number_at b 8 ≡ x) × (number_at b 12 ≡ y) × (number_at b 16 ≡ z)
unfolding numbers_bytes
counts_read v w x y z post a b c d e = (
  number_read [] (numbers_bytes (w ∷ x ∷ y ∷ z ∷ []) ++ post) v a,
  number_read (numbers_bytes (v ∷ [])) (numbers_bytes (x ∷ y ∷ z ∷ []) ++ post) w b,
  number_read (numbers_bytes (v ∷ w ∷ [])) (numbers_bytes (y ∷ z ∷ []) ++ post) x c,
  number_read (numbers_bytes (v ∷ w ∷ x ∷ [])) (numbers_bytes (z ∷ []) ++ post) y d,
  number_read (numbers_bytes (v ∷ w ∷ x ∷ y ∷ [])) post z e,
)

-- the record that a record's bytes say is that record
pub record_round_trip : (r : Record) → Fits r → record_of (bytes_of_record r) ≡ r
unfolding bytes_of_record
record_round_trip r fits =
    let five = r.scheme ∷ r.n ∷ r.f ∷ r.days ∷ r.bytes ∷ [] in
    let cs = numbers_bytes five in
    let hs = numbers_bytes r.hash in
    let ks = numbers_bytes r.black.words in
    let ss = slots_bytes r.running in
    let ts = numbers_bytes r.start.words in
    let us = numbers_bytes (r.season ∷ []) in
    let x₆ = ts ++ us in
    let x₅ = r.block ++ x₆ in
    let x₄ = ss ++ x₅ in
    let x₃ = ks ++ x₄ in
    let b = bytes_of_record r in
    let c = fits.counts in
    let n = counts_read r.scheme r.n r.f r.days r.bytes (hs ++ x₃) c.0 c.1 c.2 c.3 c.4 in
    let lc : length cs ≡ hash_at = length_numbers five in
    let lh : length hs ≡ 32 = length_numbers r.hash ∙ ap (λ (k : ℕ). k * 4) fits.hash_fits.0 in
    let lk : length ks ≡ 32 = length_numbers r.black.words ∙ ap (λ (k : ℕ). k * 4) fits.black_fits.0 in
    let lt : length ts ≡ 32 = length_numbers r.start.words ∙ ap (λ (k : ℕ). k * 4) fits.start_fits.0 in
    let ls : length ss ≡ 544 = length_slots r.running fits.running_fit ∙ ap (λ (k : ℕ). k * 32) fits.running_many in
    let f₂ = cs ++ hs in
    let f₃ = f₂ ++ ks in
    let f₄ = f₃ ++ ss in
    let f₅ = f₄ ++ r.block in
    let f₆ = f₅ ++ ts in
    let p₂ : length f₂ ≡ black_at = length-append cs hs ∙ omega arith in
    let p₃ : length f₃ ≡ running_at = length-append f₂ ks ∙ omega arith in
    let p₄ : length f₄ ≡ block_at = length-append f₃ ss ∙ omega arith in
    let p₅ : length f₅ ≡ start_at = length-append f₄ r.block ∙ omega (arith, fits.block_many) in
    let p₆ : length f₆ ≡ season_at = length-append f₅ ts ∙ omega arith in
    let b₂ : f₂ ++ x₃ ≡ b = append_assoc cs hs x₃ in
    let b₃ : f₃ ++ x₄ ≡ b = append_assoc f₂ ks x₄ ∙ b₂ in
    let b₄ : f₄ ++ x₅ ≡ b = append_assoc f₃ ss x₅ ∙ b₃ in
    let b₅ : f₅ ++ x₆ ≡ b = append_assoc f₄ r.block x₆ ∙ b₄ in
    let b₆ : f₆ ++ us ≡ b = append_assoc f₅ ts us ∙ b₅ in
    let hash : numbers_at 8 b hash_at ≡ r.hash =
    sym (ap₂ (λ (k i : ℕ). numbers_at k b i) fits.hash_fits.0 lc) ∙ numbers_read r.hash cs x₃ fits.hash_fits.1 in
    let black : value_at b black_at ≡ r.black = sym (ap₂ (λ (l : List ℕ) (i : ℕ). value_at l i) b₂ p₂) ∙ value_read f₂ x₄ r.black fits.black_fits in
    let running : slots_at 17 b running_at ≡ r.running =
    ap (λ (k : ℕ). slots_at k b running_at) (sym fits.running_many) ∙ sym (ap₂ (λ (l : List ℕ) (i : ℕ). slots_at (length r.running) l i) b₃ p₃)
    ∙ slots_read r.running f₃ x₅ fits.running_fit in
    let block : take 64 (drop block_at b) ≡ r.block =
    ap (λ (l : List ℕ). take 64 (drop block_at l)) (sym b₄) ∙ ap (take 64) (drop_at f₄ x₅ block_at p₄) ∙ take_at r.block x₆ 64 fits.block_many in
    let start : value_at b start_at ≡ r.start =
    sym (ap₂ (λ (l : List ℕ) (i : ℕ). value_at l i) b₅ p₅) ∙ value_read f₅ us r.start fits.start_fits in
    let season : number_at b season_at ≡ r.season =
    sym (ap₂ (λ (l : List ℕ) (i : ℕ). number_at l i) (ap (λ (l : List ℕ). f₆ ++ l) (append-nil us) ∙ b₆) p₆) ∙ number_read f₆ [] r.season fits.season_fits in
    same_record b r n.0 n.1 n.2 n.3 n.4 hash block black running start season

-- a refused open's record, as bytes
pub zeros_bytes : bytes_of_record zeros ≡ replicate record_size 0
unfolding bytes_of_record numbers_bytes slots_bytes zeros no_value
zeros_bytes = refl
