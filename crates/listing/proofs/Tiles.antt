-- The days of a failed tile: the passing chains as a number, and what is written so far once more for each bit that is 0.
use mathlib.Core.{Path.◌≡◌, Path.refl, Path.sym, Path.ap, Path.ap₂, Path.◌∙◌, Logic.inl, Logic.inr, Bool.Bool, Bool.true, Bool.false}
use Rattle.std.proofs.Common.{ℕ, zero, suc, ◌+◌, ◌-◌, ◌*◌, ◌/◌, ◌%◌, ◌^◌, ◌<◌, ◌≤◌, List, [], ◌∷◌, ◌++◌, map, length, get_or, take, drop, set, length-append, length-drop, length-set, length-take-le, get_or-drop, get_or-take, take-suc, take_at, drop-set-lt, drop_at, set-set, eq-eqb, ne_eqb}
use mathlib.Core.List.{map-append}
use native.Mathlib.{Nat.pow-succ', Nat.suc-mul, Nat.div-one, Nat.div-le_self, Nat.div-mul-le_self, Nat.div-eq_of_lt, Nat.mod-eq_of_lt, Numerals.add-one, Omega.arith}
use mir.Val.{bool_byte}
use lib.{Dec.eqb, Pow.pow_pos, Pow.pow_mono, Pow.shr-shr}
use lib.ListN.{length-map, get_or-append}
use lib.Seq.{take-set-le}
use Rattle.lists.proofs.Laws.{split}
use Rattle.layouts.specs.Layouts.{lg, tile}
use Rattle.acceptance.specs.Private.{passes, one, number, tile_bit}
use Rattle.acceptance.proofs.Listed.{number_small, number_bit, tile_bit_lem}
use Rattle.buffers.specs.Private.{Wrote}
use Rattle.buffers.proofs.Writes.{wrote_none, wrote_one, wrote_as, wrote_length, wrote_join}
use Rattle.listing.specs.Private.{Tile, bit_of, tile_days, later}

-- ---- a number by its bits

-- one bit more of the number of p, from the highest on
pub number_none : (p : ℕ → Bool) (k : ℕ) → 0 ≡ number p k / 2 ^ (k + 1 - 1)
number_none p k = let e : k + 1 - 1 ≡ k = omega arith in rw e (sym (div-eq_of_lt (number_small p k)))

pub number_next : (p : ℕ → Bool) (k i m r : ℕ) {b : Bool} → 1 ≤ i → i ≤ k → m ≡ number p k / 2 ^ (k + 1 - i) → b ≡ p (k - i) → r ≡ 2 * m + one b → r ≡ number p k / 2 ^ (k + 1 - (i + 1))
number_next p k i m r {b} o l e f h =
    let j = k - i in
    let q : suc j ≡ k + 1 - i = omega arith in
    let x : k + 1 - (i + 1) ≡ j = omega arith in
    let s : number p k / 2 ^ j / 2 ≡ number p k / 2 ^ suc j = shr-shr (number p k) j 1 ∙ ap (λ x. number p k / 2 ^ x) (add-one j) in
    let u : number p k / 2 ^ suc j ≡ m = ap (λ x. number p k / 2 ^ x) q ∙ sym e in
    let v : number p k / 2 ^ j % 2 ≡ one b = number_bit p k j (omega arith) ∙ ap one (sym f) in
    rw x (omega arith)

pub number_all : (p : ℕ → Bool) (k i m : ℕ) → k < i → m ≡ number p k / 2 ^ (k + 1 - i) → m ≡ number p k
number_all p k i m a e = let q : k + 1 - i ≡ 0 = omega arith in e ∙ rw q (div-one (number p k))

-- a bit as a number
pub bit_one : (b : Bool) → bool_byte b ≡ one b
bit_one true = refl
bit_one false = refl

pub bit_few : (b : Bool) → bool_byte b ≤ 1
bit_few true = omega arith
bit_few false = omega arith

pub number_few : (p : ℕ → Bool) (k j m : ℕ) → k ≤ 8 → m ≡ number p k / 2 ^ j → m < 65536
number_few p k j m l e =
    let a = number_small p k in
    let b : 2 ^ k ≤ 2 ^ 8 = pow_mono l in
    let c = div-le_self (number p k) (2 ^ j) in
    omega arith

bit_back : (a : Bool) → eqb (one a) 1 ≡ a
bit_back true = refl
bit_back false = refl

pub number_bits : (p : ℕ → Bool) (k j : ℕ) → j < k → bit_of (number p k) j ≡ p j
number_bits p k j l = rw (number_bit p k j l) (bit_back (p j))

-- the chain c(i) at its bit
pub bit_at : (n : ℕ) (t : List ℕ) (g i : ℕ) {k : ℕ} {b : Bool} → k ≡ lg n → i ≤ k → b ≡ passes 2 n t (tile i g) → b ≡ tile_bit n t g (k - i)
bit_at n t g i e l h = rw e (h ∙ sym (tile_bit_lem n t g i (omega arith)))

-- ---- the days by the number

pub tile_congr : (p q : ℕ → Bool) (l day : ℕ) → ((j : ℕ) → j < l → p j ≡ q j) → tile_days p l day ≡ tile_days q l day
unfolding tile_days
tile_congr p q zero day f = refl
tile_congr p q (suc l) day f =
    rw (f l (omega arith), tile_congr p q l day (λ j h. f j (omega arith)), tile_congr p q l (day + 2 ^ l) (λ j h. f j (omega arith)))

tile_size : (p : ℕ → Bool) (l day : ℕ) → length (tile_days p l day) ≤ 2 ^ l
unfolding tile_days
tile_size p zero day = omega arith
tile_size p (suc l) day =
    let x = tile_size p l day in
    let y = tile_size p l (day + 2 ^ l) in
    let z = length-append (tile_days p l day) (tile_days p l (day + 2 ^ l)) in
    let q = pow-succ' 2 l in
    elim (split (p l)) [ inl e ↦ rw e (omega arith) | inr e ↦ rw e (omega arith) ]

-- the same days, w later
tile_later : (p : ℕ → Bool) (l day w : ℕ) → day + 2 ^ l + w ≤ 2 ^ 32 → map (later w) (tile_days p l day) ≡ tile_days p l (day + w)
unfolding tile_days
tile_later p zero day w h = rw (mod-eq_of_lt {n = day + w} {m = 2 ^ 32} (omega arith))
tile_later p (suc l) day w h =
    let q = pow-succ' 2 l in
    let a = tile_later p l day w (omega arith) in
    let b = tile_later p l (day + 2 ^ l) w (omega arith) in
    let c : day + 2 ^ l + w ≡ day + w + 2 ^ l = omega arith in
    elim (split (p l)) [
      | inl e ↦ rw e (b ∙ rw c)
      | inr e ↦ rw e (map-append (later w) (tile_days p l day) (tile_days p l (day + 2 ^ l)) ∙ ap₂ (λ x y. x ++ y) a (b ∙ rw c))
    ]

-- ---- what stands in the list once more

-- what was written, read back
wrote_part : (at r : ℕ) (F l m : List ℕ) → at ≤ length l → Wrote at F l r m → take (r - at) (drop at m) ≡ F
wrote_part at r F l m h u =
    let a = length-take-le at l h in
    let e : length F ≡ r - at = omega (arith, u.count) in
    ap (λ x. take (r - at) (drop at x)) u.list ∙ ap (take (r - at)) (drop_at (take at l) (F ++ drop r l) at a) ∙ take_at F (drop r l) (r - at) e

-- what stands before it
wrote_before : (at r i : ℕ) (F l m : List ℕ) → at ≤ length l → i < at → Wrote at F l r m → get_or m i 0 ≡ get_or l i 0
wrote_before at r i F l m h b u =
    let a = length-take-le at l h in
    ap (λ x. get_or x i 0) u.list ∙ get_or-append (take at l) (F ++ drop r l) 0 i (omega arith) ∙ get_or-take at l i 0 b

module _ (w at end : ℕ) (l : List ℕ) where
  -- the first k of them
  copied : ℕ → List ℕ
  copied k = map (later w) (take k (drop at l))

  pub Copied : ℕ → List ℕ → Type 0
  Copied i m = Wrote end (copied (i - at)) l (i + (end - at)) m

  pub again_none : at ≤ end → Copied at l
  unfolding copied Copied
  again_none h =
      let e : at - at ≡ 0 = omega arith in
      let f : at + (end - at) ≡ end = omega arith in
      rw f (wrote_none end (copied (at - at)) l (rw e))

  pub again_next : (i : ℕ) (m : List ℕ) → at ≤ i → i < end → end + (end - at) ≤ length l → length m ≡ length l → Copied i m → Copied (i + 1) (set m (i + (end - at)) (later w (get_or m i 0)))
  unfolding Copied copied
  again_next i m a b h n u =
      let d = later w (get_or m i 0) in
      let k : i + 1 - at ≡ suc (i - at) = omega arith in
      let r = length-drop at l in
      let z : at + (i - at) ≡ i = omega arith in
      let x : i + 1 + (end - at) ≡ i + (end - at) + 1 = omega arith in
      let f : get_or m i 0 ≡ get_or (drop at l) (i - at) 0 = wrote_before end _ i (copied (i - at)) l m (omega arith) b u ∙ sym (get_or-drop at l (i - at) 0 ∙ rw z) in
      let q : copied (i + 1 - at) ≡ copied (i - at) ++ (d ∷ []) =
      ap copied k ∙ ap (map (later w)) (take-suc (drop at l) (i - at) 0 (omega arith)) ∙ map-append (later w) (take (i - at) (drop at l)) (get_or (drop at l) (i - at) 0 ∷ []) ∙
      ap (λ x. copied (i - at) ++ (x ∷ [])) (ap (later w) (sym f)) in
      let o : length (copied (i + 1 - at)) ≡ length (copied (i - at)) + 1 = ap length q ∙ length-append (copied (i - at)) (d ∷ []) in
      let y : length (copied (i - at)) ≡ i - at = length-map (take (i - at) (drop at l)) (later w) ∙ length-take-le (i - at) (drop at l) (omega arith) in
      rw x (wrote_join end (copied (i + 1 - at)) (copied (i - at)) (d ∷ []) l m (set m (i + (end - at)) d) (i + (end - at)) (i + (end - at) + 1) q (omega arith) u
      (wrote_one (i + (end - at)) d (d ∷ []) m refl (omega arith)))

  pub again_end : (i : ℕ) (m : List ℕ) → i ≡ end → Copied i m → Wrote end (map (later w) (take (end - at) (drop at l))) l (end + (end - at)) m
  unfolding Copied copied
  again_end i m e u = rw e at u

-- ---- the days of a failed tile, doubled bit by bit

twice : (q w : ℕ) → (q + q) * w ≡ q * (2 * w)
twice q w = omega arith

-- l bits are done: from the day on that has the other bits of m
abbrev pub Doubled : ℕ → ℕ → ℕ → List ℕ → ℕ → ℕ → List ℕ → Type 0
Doubled day m at before l end after = Wrote at (tile_days (bit_of m) l (day + m / 2 ^ l * 2 ^ l)) before end after

-- before the first bit the list has the first day
pub doubled_none : (level day m at : ℕ) (l : List ℕ) → at + 2 ^ level ≤ length l → let x = set l at (day + m) in Doubled day m at x 0 (at + 1) x
unfolding tile_days
doubled_none level day m at l h =
    let p = pow_pos level in
    let o = div-one m in
    let e : day + m / 2 ^ 0 * 2 ^ 0 ≡ day + m = omega arith in
    let n = length-set l at (day + m) in
    rw set-set at (wrote_one at (day + m) (tile_days (bit_of m) 0 (day + m / 2 ^ 0 * 2 ^ 0)) (set l at (day + m)) (rw e) (omega arith))

-- what stood in its place counts for nothing
wrote_over : (at r x : ℕ) (F l m : List ℕ) → 1 ≤ length F → Wrote at F (set l at x) r m → Wrote at F l r m
wrote_over at r x F l m h u =
    record { count = u.count; list = u.list ∙ rw (take-set-le at l at x (omega arith), drop-set-lt r l at x (omega (arith, u.count))) }

tile_some : (p : ℕ → Bool) (l day : ℕ) → 1 ≤ length (tile_days p l day)
unfolding tile_days
tile_some p zero day = omega arith
tile_some p (suc l) day =
    let y = tile_some p l (day + 2 ^ l) in
    let z = length-append (tile_days p l day) (tile_days p l (day + 2 ^ l)) in
    elim (split (p l)) [ inl e ↦ rw e (omega arith) | inr e ↦ rw e (omega arith) ]

module _ {level day m at : ℕ} {before : List ℕ} (T : Tile level day m) (h : at + 2 ^ level ≤ length before) where
  module _ {l end : ℕ} {after : List ℕ} (few : l ≤ level) (u : Doubled day m at before l end after) where
    abbrev rest : ℕ
    rest = m / 2 ^ l

    pub doubled_length : length after ≡ length before
    doubled_length =
        let s = tile_size (bit_of m) l (day + rest * 2 ^ l) in
        let p : 2 ^ l ≤ 2 ^ level = pow_mono few in
        wrote_length at end (tile_days (bit_of m) l (day + rest * 2 ^ l)) before after u (omega arith)

    pub doubled_place : l < level → (at ≤ end) × (end + (end - at) ≤ length after)
    doubled_place b =
        let s = tile_size (bit_of m) l (day + rest * 2 ^ l) in
        let p : 2 ^ suc l ≤ 2 ^ level = pow_mono b in
        let q = pow-succ' 2 l in
        omega (arith, u.count, doubled_length)

    next_rest : m / 2 ^ (l + 1) ≡ rest / 2
    next_rest = sym (shr-shr m l 1)

    next_weight : 2 ^ (l + 1) ≡ 2 * 2 ^ l
    next_weight = rw add-one (pow-succ' 2 l)

    -- a bit that is 1: the days are in the upper half
    upper : (rest % 2 ≡ 0 → ⊥) → tile_days (bit_of m) (l + 1) (day + m / 2 ^ (l + 1) * 2 ^ (l + 1)) ≡ tile_days (bit_of m) l (day + rest * 2 ^ l)
    unfolding tile_days
    upper z =
        let e : rest ≡ suc (rest / 2 + rest / 2) = omega arith in
        let b : rest % 2 ≡ 1 = omega arith in
        let p : rest * 2 ^ l ≡ (rest / 2 + rest / 2) * 2 ^ l + 2 ^ l = ap (λ x. x * 2 ^ l) e ∙ suc-mul (rest / 2 + rest / 2) (2 ^ l) in
        let y : day + rest / 2 * (2 * 2 ^ l) + 2 ^ l ≡ day + rest * 2 ^ l = omega (arith, twice (rest / 2) (2 ^ l)) in
        rw (next_rest, next_weight) (rw (add-one, eq-eqb (rest % 2) 1 b, y))

    -- a bit that is 0: they are in both
    halves : rest % 2 ≡ 0 → tile_days (bit_of m) (l + 1) (day + m / 2 ^ (l + 1) * 2 ^ (l + 1)) ≡ tile_days (bit_of m) l (day + rest * 2 ^ l) ++ tile_days (bit_of m) l (day + rest * 2 ^ l + 2 ^ l)
    unfolding tile_days
    halves z =
        let e : rest ≡ rest / 2 + rest / 2 = omega arith in
        let b : rest % 2 ≡ 1 → ⊥ = λ v. omega arith in
        let p : rest * 2 ^ l ≡ (rest / 2 + rest / 2) * 2 ^ l = ap (λ x. x * 2 ^ l) e in
        let y : day + rest / 2 * (2 * 2 ^ l) ≡ day + rest * 2 ^ l = omega (arith, twice (rest / 2) (2 ^ l)) in
        rw (next_rest, next_weight) (rw (add-one, ne_eqb (rest % 2) 1 b, y))

    pub doubled_one : (rest % 2 ≡ 0 → ⊥) → Doubled day m at before (l + 1) end after
    doubled_one z = wrote_as _ (upper z) u

    pub doubled_zero : {w r : ℕ} {next : List ℕ} → l < level → w ≡ 2 ^ l → rest % 2 ≡ 0 → Wrote end (map (later w) (take (end - at) (drop at after))) after r next →
        Doubled day m at before (l + 1) r next
    doubled_zero {w} {r} {next} b i z v =
        let F = tile_days (bit_of m) l (day + rest * 2 ^ l) in
        let c : rest * 2 ^ l ≤ m = div-mul-le_self m (2 ^ l) in
        let p : 2 ^ suc l ≤ 2 ^ level = pow_mono b in
        let few : 2 ^ level ≤ 2 ^ 8 = pow_mono T.level in
        let q = pow-succ' 2 l in
        let d : map (later w) (take (end - at) (drop at after)) ≡ tile_days (bit_of m) l (day + rest * 2 ^ l + 2 ^ l) =
        rw i (ap (map (later (2 ^ l))) (wrote_part at end F before after (omega arith) u) ∙
        tile_later (bit_of m) l (day + rest * 2 ^ l) (2 ^ l) (omega (arith, T.level, T.number, T.fits))) in
        let s = tile_size (bit_of m) (l + 1) (day + m / 2 ^ (l + 1) * 2 ^ (l + 1)) in
        let k : 2 ^ (l + 1) ≡ 2 ^ suc l = rw add-one in
        wrote_join at _ F (tile_days (bit_of m) l (day + rest * 2 ^ l + 2 ^ l)) before after next end r (halves z) (omega arith) u (rw d at v)

    pub doubled_all : (x : ℕ) (old : List ℕ) → before ≡ set old at x → level ≤ l → Wrote at (tile_days (bit_of m) level day) old end after
    doubled_all x old f b =
        let e : l ≡ level = omega arith in
        let o : rest ≡ 0 = rw e (div-eq_of_lt T.number) in
        let y : day + rest * 2 ^ l ≡ day = rw o (omega arith) in
        wrote_over at end x (tile_days (bit_of m) level day) old after (tile_some (bit_of m) level day) (rw (y, e, f) at u)
