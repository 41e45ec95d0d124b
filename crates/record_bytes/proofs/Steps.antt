-- The steps of the loops that read and write a record's bytes.
-- Assumes nothing.
use Rattle.std.proofs.Common.{◌≡◌, ℕ, zero, suc, ◌+◌, ◌-◌, ◌*◌, ◌/◌, ◌%◌, ◌^◌, ◌≤◌, ◌<◌, List, [], ◌∷◌, ◌++◌, append_assoc, append-nil, length, get_or, take, drop, set, replicate, arith, refl, sym, ap, ◌∙◌, add-one, take-suc, length-append, length-take-le, take_at, take_all}
use Rattle.std.proofs.lemmas.List.Edits.{fill_by_more}
use Rattle.std.specs.Int.{to_le_bytes, w32}
use borrow.Rule.Slice.PartMut.{put_mid}
use Rattle.chains.specs.declared.Value.{Value}
use Rattle.service.specs.declared.Record.{Record}
use Rattle.record_bytes.specs.Bytes.{record_size, bytes_of_record, running_at, block_at, numbers_bytes, slots_bytes, number_at, numbers_at, value_at, slots_at}

-- ---- reading

-- what f gives at n places, each a step on from the one before
read_by : {A : Type 0} (f : ℕ → A) (g : ℕ → ℕ → List A) (step : ℕ) → ((i : ℕ) → g 0 i ≡ []) → ((n i : ℕ) → g (suc n) i ≡ f i ∷ g n (i + step))
    → (d : A) (n i : ℕ) (r : List A) → length r ≡ n → ((k : ℕ) → k < n → get_or r k d ≡ f (i + step * k)) → r ≡ g n i
read_by f g step e₀ e₁ d zero i [] e h = sym (e₀ i)
read_by f g step e₀ e₁ d zero i (x ∷ r) e h = absurd (omega arith)
read_by f g step e₀ e₁ d (suc n) i [] e h = absurd (omega arith)
read_by f g step e₀ e₁ d (suc n) i (x ∷ r) e h =
    let here : i + step * 0 ≡ i = omega arith in
    let first : x ≡ f i = h 0 (omega arith) ∙ ap f here in
    let others = read_by f g step e₀ e₁ d n (i + step) r (omega arith) (λ k l. let on : i + step * suc k ≡ i + step + step * k = omega arith in h (suc k) (omega arith) ∙ ap f on) in
    rw (first, others) (sym (e₁ n i))

pub numbers_read_are : (b : List ℕ) (n i : ℕ) (r : List ℕ) → length r ≡ n → ((k : ℕ) → k < n → get_or r k 0 ≡ number_at b (i + 4 * k)) → r ≡ numbers_at n b i
unfolding numbers_at
numbers_read_are b n i r e h = read_by (number_at b) (λ n i. numbers_at n b i) 4 (λ i. refl) (λ n i. refl) 0 n i r e h

abbrev pub none : Value
none = record { words = replicate 8 0 }

pub slots_read_are : (b : List ℕ) (i : ℕ) (r : List Value) → length r ≡ 17 → ((k : ℕ) → k < 17 → get_or r k none ≡ value_at b (i + 32 * k)) → r ≡ slots_at 17 b i
unfolding slots_at
slots_read_are b i r e h = read_by (value_at b) (λ n i. slots_at n b i) 32 (λ i. refl) (λ n i. refl) none 17 i r e h

pub set_next : {A : Type 0} (f : ℕ → A) (xs : List A) (k : ℕ) (x d : A) → k < length xs → x ≡ f k → ((j : ℕ) → j < k → get_or xs j d ≡ f j) → (j : ℕ) → j < k + 1 → get_or (set xs k x) j d ≡ f j
set_next f xs k x d l e h = rw e (fill_by_more f xs k d l h)

-- ---- writing

numbers_append : (xs ys : List ℕ) → numbers_bytes (xs ++ ys) ≡ numbers_bytes xs ++ numbers_bytes ys
unfolding numbers_bytes
numbers_append [] ys = refl
numbers_append (x ∷ xs) ys = ap (λ (l : List ℕ). x % 256 ∷ x / 2 ^ 8 % 256 ∷ x / 2 ^ 16 % 256 ∷ x / 2 ^ 24 % 256 ∷ l) (numbers_append xs ys)

slots_append : (xs ys : List Value) → slots_bytes (xs ++ ys) ≡ slots_bytes xs ++ slots_bytes ys
unfolding slots_bytes
slots_append [] ys = refl
slots_append (x ∷ xs) ys = ap (λ (l : List ℕ). numbers_bytes x.words ++ l) (slots_append xs ys) ∙ sym (append_assoc (numbers_bytes x.words) (slots_bytes xs) (slots_bytes ys))

pub number_put : (p b w y : List ℕ) (at end k : ℕ) → end ≡ at + 4 → k < length w → end ≤ length b → y ≡ to_le_bytes w32 (get_or w k 0) → take at b ≡ p ++ numbers_bytes (take k w)
    → take end (put_mid at (at + 4 - at) b y) ≡ p ++ numbers_bytes (take (k + 1) w)
unfolding numbers_bytes
number_put p b w y at end k q l room ey e =
    let four : length y ≡ 4 = ap length ey in
    let size : length (take at b ++ y) ≡ at + 4 = omega (arith, length-append (take at b) y, length-take-le at b (omega arith)) in
    let rest = drop (at + 4 - at) (drop at b) in
    let front : take (at + 4) (put_mid at (at + 4 - at) b y) ≡ take at b ++ y = ap (take (at + 4)) (sym (append_assoc (take at b) y rest)) ∙ take_at (take at b ++ y) rest (at + 4) size in
    let one : numbers_bytes (take (k + 1) w) ≡ numbers_bytes (take k w) ++ y = rw (add-one, take-suc w k 0 l, numbers_append, ey) in
    rw (q, front, one, e) (append_assoc p (numbers_bytes (take k w)) y)

pub slot_put : (p b : List ℕ) {q : List ℕ} (w : List Value) (d : Value) (k : ℕ) → k < length w → length (get_or w k d).words ≡ 8
    → take (running_at + 32 * k + 4 * length (get_or w k d).words) b ≡ q ++ numbers_bytes (get_or w k d).words → q ≡ p ++ slots_bytes (take k w)
    → take (running_at + 32 * (k + 1)) b ≡ p ++ slots_bytes (take (k + 1) w)
unfolding slots_bytes
slot_put p b w d k l e h q =
    let on : running_at + 32 * (k + 1) ≡ running_at + 32 * k + 4 * length (get_or w k d).words = omega arith in
    let one : slots_bytes (take (k + 1) w) ≡ slots_bytes (take k w) ++ numbers_bytes (get_or w k d).words = rw (add-one, take-suc w k d l, slots_append, append-nil) in
    rw (on, h, one, q) (append_assoc p (slots_bytes (take k w)) (numbers_bytes (get_or w k d).words))

pub slots_put : (p b : List ℕ) (w : List Value) (k : ℕ) → k ≡ 17 → length w ≡ 17 → take (running_at + 32 * k) b ≡ p ++ slots_bytes (take k w) → take block_at b ≡ p ++ slots_bytes w
slots_put p b w k e l h = (rw (e, take_all 17 w (omega arith)) at h)

-- eight numbers, written from a place on
pub through : (at : ℕ) {n : ℕ} {q : List ℕ} (b : List ℕ) → n ≡ 8 → take (at + 4 * n) b ≡ q → take (at + 32) b ≡ q
through at b e h = (rw e at h)

-- the parts of a record, each behind the one before
pub record_put : {p q r s u v : List ℕ} (b : List ℕ) (t : Record) → p ≡ numbers_bytes (t.scheme ∷ t.n ∷ t.f ∷ t.days ∷ t.bytes ∷ []) → q ≡ p ++ numbers_bytes t.hash
    → r ≡ q ++ numbers_bytes t.black.words → s ≡ r ++ slots_bytes t.running → u ≡ s ++ t.block → v ≡ u ++ numbers_bytes t.start.words → length b ≡ record_size
    → take record_size b ≡ v ++ numbers_bytes (t.season ∷ []) → b ≡ bytes_of_record t
unfolding bytes_of_record
record_put b t e₁ e₂ e₃ e₄ e₅ e₆ l e₇ = sym (take_all record_size b (omega arith)) ∙ (rw (e₇, e₆, e₅, e₄, e₃, e₂, e₁) (simp append_assoc))
