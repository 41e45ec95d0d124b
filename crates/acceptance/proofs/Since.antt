-- The tree's chains against the last failed day: what a pass over the days finds is the rule of the halves.
use mathlib.Core.{Path.◌≡◌, Path.refl, Path.sym, Path.ap, Path.ap₂, Path.◌∙◌, Logic.inl, Logic.inr, List.List}
use mathlib.Core.Bool.{Bool, true, false, not, beq, ◌&&◌, ◌||◌}
use Prim.Native.Nat.{ℕ, zero, suc, pred, ◌+◌, ◌-◌, ◌*◌, ◌/◌, ◌%◌, ◌^◌, ◌≤◌, ◌<◌}
use native.Mathlib.{Numerals.add-one, Nat.mod-one, Nat.mul-pos, Nat.zero-add, Nat.suc-add, Nat.pow-succ', Nat.eq_of_mul-eq-mul_left, Decide.dec_le, Decide.dec_lt, Decide.ℕ_discrete, Omega.arith}
use lib.{Dec.leb, Pow.pow_pos}
use Rattle.std.specs.Int.{bit_at, trailing_zeros, w32}
use Rattle.std.proofs.lemmas.{Nat.mod-pow-add, Nat.Bits.bit_at-trailing_zeros}
use borrow.Author.Tests.{eq-eqb, le-leb, lt-leb}
use Rattle.lists.specs.Lists.{up_from}
use Rattle.lists.proofs.Laws.{split, true_or_false, up_from_bounds, every_of}
use Rattle.layouts.specs.Layouts.{divides, tree, last_days}
use Rattle.layouts.specs.Private.{position}
use Rattle.layouts.proofs.{AllowedLaws.chains_few, Coverage.divisor_le, Positions.divides_half}
use Rattle.acceptance.proofs.Lookup.{position_bound, tree_named}
use Rattle.acceptance.specs.Private.{Has, Chain, alike, passes, halves_rule, halves_at, LastFailed, since_rule, DayRules, level_rule, levels_rule, is_listed}
use Rattle.acceptance.proofs.Runs.{some, some_append, some_of, some_none, last_days_mem, last_days_bounds, divides_multiple, div_whole}
use Rattle.acceptance.proofs.{Given.half_point, Given.half_split, Listed.block_number, Listed.is_listed_3, Listed.tree_3, Listed.neither, Listed.alike_eq, Listed.small_level, Steps.interval_end, Steps.alike_is}

alike_same : (a b : Bool) → a ≡ b → alike a b ≡ true
alike_same true b e = sym e
alike_same false b e = rw (← e)

-- ---- the last failed day

pub last_none : (n : ℕ) (t : List ℕ) → LastFailed n t 0 0
last_none n t = record { most = omega arith; failed = inl refl; later = λ x a b. absurd (omega arith) }

module _ (n : ℕ) (t : List ℕ) {g s : ℕ} {r : Bool} (p : 1 ≤ g) (u : LastFailed n t (g - 1) s) (e : r ≡ passes 3 n t (tree 0 g)) where
  pub last_kept : r ≡ true → LastFailed n t g s
  last_kept f =
      record {
        most = omega (arith, u.most);
        failed = u.failed;
        later = λ x a b. elim (ℕ_discrete x g) [ yes q ↦ rw q (sym e ∙ f) | no q ↦ u.later x a (omega arith) ];
      }

  pub last_new : r ≡ false → LastFailed n t g g
  last_new f = record { most = omega arith; failed = inr (sym e ∙ f); later = λ x a b. absurd (omega arith) }

-- a chain has no listed day exactly if the last failed day comes before it
chain_since : (n : ℕ) (t : List ℕ) (g s l : ℕ) → LastFailed n t g s → 2 ^ l ≤ g → not (some (is_listed 3 n t) (last_days (2 ^ l) g)) ≡ leb (2 ^ l + s) g
chain_since n t g s l u h = elim (dec_le (2 ^ l + s) g) [
  | yes b ↦ rw (
    le-leb (2 ^ l + s) g b,
    some_none (is_listed 3 n t) (last_days (2 ^ l) g) (λ x m.
        let c = last_days_bounds (2 ^ l) g x h m in
        is_listed_3 n t x ∙ ap not (u.later x (omega arith) (omega arith))),
  )
  | no b ↦ let c : g < 2 ^ l + s = omega arith in elim u.failed [
    | inl z ↦ absurd (omega arith)
    | inr f ↦ rw (lt-leb (2 ^ l + s) g c, some_of (is_listed 3 n t) {g = s} {xs = last_days (2 ^ l) g} (last_days_mem (2 ^ l) g s h (omega arith) u.most) (is_listed_3 n t s ∙ ap not f))
  ]
]

-- ---- the days so far

-- each chain that ends by day g passes exactly if no day of it is listed
pub Checked : ℕ → List ℕ → ℕ → Type 0
Checked n t g = (l x : ℕ) → 1 ≤ x → x ≤ g → divides (2 ^ l) x ≡ true → passes 3 n t (tree l x) ≡ not (some (is_listed 3 n t) (last_days (2 ^ l) x))

pub checked_none : (n : ℕ) (t : List ℕ) → Checked n t 0
unfolding Checked
checked_none n t l x a b e = absurd (omega arith)

own : (n : ℕ) (t : List ℕ) (l x s : ℕ) {r : Bool} → LastFailed n t x s → DayRules n t x s r → r ≡ true → 1 ≤ x → divides (2 ^ l) x ≡ true →
    passes 3 n t (tree l x) ≡ not (some (is_listed 3 n t) (last_days (2 ^ l) x))
unfolding since_rule
own n t zero x s u v e p w =
    let f : suc (x - 1) ≡ x = omega arith in
    rw (f, is_listed_3 n t x) (elim (passes 3 n t (tree 0 x)) as (λ b. b ≡ not (not b || false)) [ true ↦ refl | false ↦ refl ])
own n t (suc l) x s u v e p w =
    alike_eq (passes 3 n t (tree (suc l) x)) (leb (2 ^ suc l + s) x) (v.holds e l w) ∙ sym (chain_since n t x s (suc l) u (divisor_le (2 ^ suc l) x p w))

pub checked_next : (n : ℕ) (t : List ℕ) (g s : ℕ) {r : Bool} → 1 ≤ g → Checked n t (g - 1) → LastFailed n t g s → DayRules n t g s r → r ≡ true → Checked n t g
unfolding Checked
checked_next n t g s p c u v e l x a b w = elim (ℕ_discrete x g) [
  | yes q ↦ rw q (own n t l g s u v e p (rw q at w))
  | no q ↦ c l x a (omega arith) w
]

-- of day g and those before it, as a loop has them after its turn
pub days_next : (n : ℕ) (t : List ℕ) (g s : ℕ) → LastFailed n t g s → Checked n t g → LastFailed n t (g + 1 - 1) s × Checked n t (g + 1 - 1)
days_next n t g s u c = let e : g + 1 - 1 ≡ g = omega arith in rw e (u, c)

-- ---- the rule of the halves

module _ (n d : ℕ) (t : List ℕ) where
  halves_of : (l j : ℕ) → suc j * 2 ^ suc l ≤ d → Checked n t d → halves_rule n t l (suc j * 2 ^ suc l) ≡ true
  unfolding halves_rule Checked
  halves_of l j h c =
      let g : ℕ = suc j * 2 ^ suc l in
      let e = half_point j l in
      let f : g - 2 ^ l ≡ suc (j + j) * 2 ^ l = omega arith in
      let o : 1 ≤ g = mul-pos (omega arith) (pow_pos (suc l)) in
      let k : 1 ≤ suc (j + j) * 2 ^ l = mul-pos (omega arith) (pow_pos l) in
      let whole = divides_multiple (suc j) (2 ^ suc l) (pow_pos (suc l)) in
      let left : divides (2 ^ l) (g - 2 ^ l) ≡ true = rw f (divides_multiple (suc (j + j)) (2 ^ l) (pow_pos l)) in
      let x = last_days (2 ^ l) (g - 2 ^ l) in
      let y = last_days (2 ^ l) g in
      alike_same _ _ (
      c (suc l) g o h whole ∙ ap not (ap (some (is_listed 3 n t)) (half_split j l) ∙ some_append (is_listed 3 n t) x y) ∙ sym (neither (some (is_listed 3 n t) x) (some (is_listed 3 n t) y)) ∙
      sym (ap₂ (λ a b. a && b) (c l (g - 2 ^ l) (omega arith) (omega arith) left) (c l g o h (divides_half l g whole)))
      )

  levels_true : Checked n t d → levels_rule n d t ≡ true
  unfolding levels_rule level_rule halves_at
  levels_true c = every_of (level_rule n d t) (up_from 0 16) (λ l m. every_of (halves_at n t l) (up_from 1 (d / 2 ^ suc l)) (λ k q.
      let b = up_from_bounds 1 (d / 2 ^ suc l) k q in
      let e : suc (pred k) ≡ k = omega arith in
      let w = interval_end (2 ^ suc l) d k (omega arith) in
      rw e at (halves_of l (pred k) (rw e w) c)))

  pub levels_all : (g : ℕ) → g ≤ d → d ≤ g → Checked n t g → true ≡ levels_rule n d t
  levels_all g a b c = let e : g ≡ d = omega arith in sym (levels_true (rw e at c))

  pub levels_false : {g s : ℕ} {r : Bool} → d ≤ 65536 → 1 ≤ g → g ≤ d → LastFailed n t g s → DayRules n t g s r → r ≡ false → false ≡ levels_rule n d t
  unfolding since_rule
  levels_false {g} {s} small p b u v e = elim (split (levels_rule n d t)) [
    | inl f ↦ let x = v.fails e in
        let l = suc x.0 in
        let q = block_number (2 ^ l) d g (pow_pos l) (record { some = p; most = b; whole = x.1 }) in
        let a : passes 3 n t (tree l g) ≡ not (some (is_listed 3 n t) (last_days (2 ^ l) g)) = rw q at (tree_3 n d t small f l (pred (g / 2 ^ l)) (rw q b)) in
        let c = chain_since n t g s l u (divisor_le (2 ^ l) g p x.1) in
        absurd (true_or_false (alike_same (passes 3 n t (tree l g)) (leb (2 ^ l + s) g) (a ∙ c)) x.2)
    | inr f ↦ sym f
  ]

-- ---- the chains that end at a day

pub own_chain : {n g : ℕ} {t : List ℕ} → Has 3 n g t → Chain n 0 g t
own_chain {n} {g} h = record { has = h; whole = eq-eqb (g % 1) 0 (mod-one g); level = omega arith }

divides_lower : (l k g : ℕ) → divides (2 ^ (k + l)) g ≡ true → divides (2 ^ l) g ≡ true
divides_lower l zero g e = rw zero-add at e
divides_lower l (suc k) g e = divides_lower l k g (divides_half (k + l) g (rw suc-add at e))

-- an odd number of units is no whole number of the next
odd_units : (x l g : ℕ) → x * 2 ^ l ≡ g → (x % 2 ≡ 0 → ⊥) → divides (2 ^ suc l) g ≡ true → ⊥
odd_units x l g e z v =
    let k = g / 2 ^ suc l in
    let w : k * 2 ^ suc l ≡ g = div_whole (2 ^ suc l) g v in
    let f : k * 2 ^ suc l ≡ 2 ^ l * (2 * k) = rw (pow-succ' 2 l) (omega arith) in
    let q : 2 ^ l * x ≡ 2 ^ l * (2 * k) = omega arith in
    let o = eq_of_mul-eq-mul_left (2 ^ l) (pow_pos l) x (2 * k) q in
    z (omega arith)

-- where the low digits are 0, the number is a whole number of their weight
low_zeros : (g i : ℕ) → ((j : ℕ) → j < i → bit_at g j ≡ 0) → g % 2 ^ i ≡ 0
low_zeros g zero f = mod-one g
low_zeros g (suc i) f =
    let e : suc i ≡ 1 + i = omega arith in
    rw (e, mod-pow-add g 1 i, f i (omega arith), low_zeros g i (λ j l. f j (omega arith))) (omega arith)

-- the chains of the levels up to that of the lowest digit 1, and no others, end at a day
module _ {n g : ℕ} {t : List ℕ} (h : Has 3 n g t) where
  abbrev top : ℕ
  top = trailing_zeros w32 g

  lowest : (top < 32) × (bit_at g top ≡ 1) × ((i : ℕ) → i < top → bit_at g i ≡ 0)
  lowest = bit_at-trailing_zeros w32 g (omega (arith, h.some)) (omega (arith, h.most))

  closes : (l : ℕ) → l ≤ top → divides (2 ^ l) g ≡ true
  closes l a = eq-eqb (g % 2 ^ l) 0 (low_zeros g l (λ j b. lowest.2 j (omega arith)))

  closes_not : (j : ℕ) → top ≤ j → divides (2 ^ suc j) g ≡ true → ⊥
  closes_not j a v =
      let k : suc j ≡ (j - top) + suc top = omega arith in
      odd_units (g / 2 ^ top) top g (div_whole (2 ^ top) g (closes top (omega arith)))
      (λ z. let b = lowest.1 in omega arith) (divides_lower (suc top) (j - top) g (rw k at v))

  pub day_chain : (l : ℕ) → 1 ≤ l → l ≤ top → Chain n l g t
  day_chain l p a =
      let v = closes l a in
      let b : 2 ^ l ≤ g = divisor_le (2 ^ l) g h.some v in
      let e : suc (l - 1) ≡ l = omega arith in
      let c = small_level (l - 1) g 1 (omega arith) (rw e (omega arith)) h.most in
      record { has = h; whole = v; level = omega arith }

  pub day_place : {p : ℕ} (l : ℕ) → 1 ≤ l → l ≤ top → p ≡ position 3 n (tree 0 g) → (p + l ≡ position 3 n (tree l g)) × (p + l < 2 ^ 32)
  day_place l o a e =
      let q = day_chain l o a in
      let b = position_bound 3 n g (tree l g) (tree_named n g g l h.some (omega arith) q.whole) in
      let f = chains_few 3 n g refl h.n_ok h.most in
      (omega arith, omega arith)

  pub day_days : (l : ℕ) → 1 ≤ l → l ≤ top → 2 ^ l ≤ g
  day_days l o a = divisor_le (2 ^ l) g h.some (closes l a)

  module _ (s : ℕ) where
    -- what a turn finds
    pub day_turn : (l : ℕ) {w : ℕ} {a b : Bool} → w ≡ 2 ^ l → a ≡ passes 3 n t (tree l g) → b ≡ leb (w + s) g → beq a b ≡ since_rule n t g s l
    unfolding since_rule
    day_turn l e f q = rw (alike_is, f, q, e)

    pub day_next : (l : ℕ) → 1 ≤ l → ((j : ℕ) → suc j < l → since_rule n t g s (suc j) ≡ true) → since_rule n t g s l ≡ true →
        (j : ℕ) → suc j < l + 1 → since_rule n t g s (suc j) ≡ true
    day_next l o f e j b = elim (ℕ_discrete (suc j) l) [ yes q ↦ rw q e | no q ↦ f j (omega arith) ]

    pub day_stop : (l : ℕ) → 1 ≤ l → l ≤ top → since_rule n t g s l ≡ false → DayRules n t g s false
    day_stop l o a e = let k : suc (l - 1) ≡ l = omega arith in record {
      holds = λ c. absurd (true_or_false c refl);
      fails = λ c. (l - 1, rw k (closes l a), rw k e);
    }

    pub day_all : (l : ℕ) → top < l → ((j : ℕ) → suc j < l → since_rule n t g s (suc j) ≡ true) → DayRules n t g s true
    day_all l o f = record {
      holds = λ e j v. elim (dec_lt j top) [ yes b ↦ f j (omega arith) | no b ↦ absurd (closes_not j (omega arith) v) ];
      fails = λ e. absurd (true_or_false refl e);
    }

-- the days of the next level
pub days_twice : (l : ℕ) {w : ℕ} → w ≡ 2 ^ l → 2 * w ≡ 2 ^ (l + 1)
days_twice l e = let p = pow-succ' 2 l in rw (add-one l) (omega (arith, e, p))
