-- How many values a layout has: 01's formulas are the number of chains; and the count through any day.
use mathlib.Core.{Path.◌≡◌, Path.refl, Path.sym, Path.ap, Path.◌∙◌, Logic.◌⊎◌, Logic.inl, Logic.inr}
use mathlib.Core.Bool.{Bool, true, false, not, ◌&&◌, cond}
use mathlib.Core.List.Memᴰ
use mathlib.Core.List.{List, [], ◌∷◌, ◌++◌, map, flat_map}
use Prim.Native.Nat.{ℕ, zero, suc, pred, ◌+◌, ◌-◌, ◌*◌, ◌/◌, ◌%◌, ◌^◌, ◌≤◌, ◌<◌}
use native.Mathlib.Nat.{mod-one, mod-lt, div-eq_of_lt, mod_self, div-add-mod', suc-mul, add-zero, pow-succ', eq_of_mul-eq-mul_left, mul-le-mul_left, mul_comm, lt_of_not-le}
use native.Mathlib.{Decide.dec_lt, Decide.dec_le, Decide.ℕ_discrete, Omega.arith}
use lib.{Dec.eqb, Dec.leb, Dec.lit<, Arith.digits_div, Arith.digits_mod, Pow.pow_pos, Pow.pow_mono, Pow.pow-add}
use lib.{Count.ones, Count.ones_step, Count.ones-le, ListN.length, ListN.length-append, ListN.length-map}
use borrow.Author.Tests.{eqb-true, eq-eqb, ne_eqb, leb-true, leb-false}
use Rattle.lists.specs.Lists.{up_from, keep}
use Rattle.lists.proofs.Laws.{length-up_from, split, bool_ext, has_mem, mem_has, up_from_mem, mem_keep}
use Rattle.layouts.specs.Layouts.{divides, lg_in, lg, Name, black, tile, levels, stored_once, names_of_day, names_through, covered_days, chains, value_count}
use Rattle.layouts.proofs.Coverage.{by_scheme, names_through_suc}

abbrev pub bit : Bool → ℕ
bit b = cond b 1 0

count_suc : (s n d : ℕ) → length (names_through s n (suc d)) ≡ length (names_through s n d) + length (names_of_day s n (suc d))
count_suc s n d = rw (names_through_suc, length-append)

-- n divides the next number exactly if the quotient grows
pub div_step : (n d : ℕ) → 0 < n → suc d / n ≡ d / n + bit (divides n (suc d))
div_step n d p = let w = div-add-mod' d n in let l = mod-lt d p in elim (dec_lt (suc (d % n)) n) [
  | yes h ↦ let e : suc d ≡ d / n * n + suc (d % n) = omega arith in
      let m : suc d % n ≡ suc (d % n) = ap (λ x. x % n) e ∙ digits_mod (d / n) h in
      rw (ne_eqb (suc d % n) 0 (λ z. omega arith), add-zero) (ap (λ x. x / n) e ∙ digits_div (d / n) h)
  | no h ↦ let e : suc d ≡ suc (d / n) * n + 0 = omega (arith, suc-mul (d / n) n) in
      let m : suc d % n ≡ 0 = ap (λ x. x % n) e ∙ digits_mod (suc (d / n)) p in
      rw (eq-eqb (suc d % n) 0 m) (ap (λ x. x / n) e ∙ digits_div (suc (d / n)) p ∙ (let q : suc (d / n) ≡ d / n + 1 = omega arith in q))
]

length_cond : (b : Bool) (x : Name) → length (cond b (x ∷ []) []) ≡ bit b
length_cond true x = refl
length_cond false x = refl

count_black : (n d : ℕ) → 0 < n → length (names_through 1 n d) ≡ d / n
unfolding names_through flat_map
count_black n zero p = sym (div-eq_of_lt p)
count_black n (suc d) p = count_suc 1 n d ∙ (let r = count_black n d p in omega (arith, div_step n d p, length_cond (divides n (suc d)) (black (suc d))))

length_tiles : (b : Bool) (n g : ℕ) → length (cond b (map (λ i. tile i g) (up_from 0 (suc (lg n))) ++ (black g ∷ [])) []) ≡ bit b * (2 + lg n)
length_tiles true n g =
    let e : length (map (λ (i : ℕ). tile i g) (up_from 0 (suc (lg n))) ++ (black g ∷ [])) ≡ suc (lg n) + 1 = simp (length-append, length-map, length-up_from) in
    omega arith
length_tiles false n g = omega arith

count_tile : (n d : ℕ) → 0 < n → length (names_through 2 n d) ≡ d / n * (2 + lg n)
unfolding names_through flat_map
count_tile n zero p = rw (div-eq_of_lt p) (omega arith)
count_tile n (suc d) p =
    count_suc 2 n d ∙ (let r = count_tile n d p in rw (r, length_tiles (divides n (suc d)) n (suc d), div_step n d p) (omega arith))

-- ---- the tree: the powers of two that divide a number

count : ℕ → ℕ → ℕ → ℕ
count g n i = length (keep (λ l. divides (2 ^ l) g) (up_from i n))

length_keep : (b : Bool) (x : ℕ) (r : List ℕ) → length (cond b (x ∷ r) r) ≡ bit b + length r
length_keep true x r = omega arith
length_keep false x r = omega arith

-- twice a number has the powers of its half, doubled; an odd number has none but 1
double_mod : (h w : ℕ) → 0 < w → 2 * h % (2 * w) ≡ 2 * (h % w)
double_mod h w p =
    let l : h % w < w = mod-lt h p in
    let d : h / w * w + h % w ≡ h = div-add-mod' h w in
    let e : 2 * h ≡ h / w * (2 * w) + 2 * (h % w) = omega arith in
    ap (λ (x : ℕ). x % (2 * w)) e ∙ digits_mod (h / w) (omega arith)

pub double_divides : (i h : ℕ) → divides (2 ^ suc i) (2 * h) ≡ divides (2 ^ i) h
double_divides i h = rw (pow-succ', double_mod h (2 ^ i) (pow_pos i)) (bool_ext (eqb (2 * (h % 2 ^ i)) 0) (eqb (h % 2 ^ i) 0)
    (λ e. let z = eqb-true (2 * (h % 2 ^ i)) 0 e in eq-eqb (h % 2 ^ i) 0 (omega arith))
    (λ e. let z = eqb-true (h % 2 ^ i) 0 e in eq-eqb (2 * (h % 2 ^ i)) 0 (omega arith)))

pub odd_divides : (i h : ℕ) → divides (2 ^ suc i) (2 * h + 1) ≡ false
odd_divides i h = ne_eqb ((2 * h + 1) % 2 ^ suc i) 0 (λ z.
    let d : (2 * h + 1) / 2 ^ suc i * 2 ^ suc i + (2 * h + 1) % 2 ^ suc i ≡ 2 * h + 1 = div-add-mod' (2 * h + 1) (2 ^ suc i) in
    let m : (2 * h + 1) / 2 ^ suc i * 2 ^ suc i ≡ 2 * ((2 * h + 1) / 2 ^ suc i * 2 ^ i) = rw pow-succ' (omega arith) in
    let f : (2 * ((2 * h + 1) / 2 ^ suc i * 2 ^ i)) ≡ 2 * h + 1 = omega arith in
    omega arith)

count_even : (h n i : ℕ) → count (2 * h) n (suc i) ≡ count h n i
unfolding count
count_even h zero i = refl
count_even h (suc n) i =
    let r = count_even h n (suc i) in
    rw (length_keep (divides (2 ^ suc i) (2 * h)) (suc i), length_keep (divides (2 ^ i) h) i, double_divides i h) (ap (λ (x : ℕ). bit (divides (2 ^ i) h) + x) r)

count_odd : (h n i : ℕ) → count (2 * h + 1) n (suc i) ≡ 0
unfolding count
count_odd h zero i = refl
count_odd h (suc n) i = rw (odd_divides i h) (count_odd h n (suc i))

pub parity : (g : ℕ) → (g ≡ 2 * (g / 2)) ⊎ (g ≡ 2 * (g / 2) + 1)
parity g = elim (dec_lt (g % 2) 1) [ yes h ↦ inl (omega arith) | no h ↦ inr (omega arith) ]

count_first : (n g : ℕ) → count g (suc n) 0 ≡ 1 + count g n 1
unfolding count
count_first n g = let e : divides 1 g ≡ true = eq-eqb (g % 1) 0 (mod-one g) in rw e (omega arith)

count_ones : (n g : ℕ) → 1 ≤ g → g ≤ n → count g n 0 + ones g ≡ 2 + ones (pred g)
count_ones zero g p l = absurd (omega arith)
count_ones (suc n) g p l = elim (parity g) [
  | inl e ↦ let r = count_ones n (g / 2) (omega arith) (omega arith) in
      let c : count g n 1 ≡ count (g / 2) n 0 = ap (λ x. count x n 1) e ∙ count_even (g / 2) n 0 in
      let q : ones (pred g / 2) ≡ ones (pred (g / 2)) = ap ones (omega arith) in
      omega (arith, count_first n g, ones_step g, ones_step (pred g))
  | inr e ↦ let c : count g n 1 ≡ 0 = ap (λ x. count x n 1) e ∙ count_odd (g / 2) n 0 in
      let q : ones (pred g / 2) ≡ ones (g / 2) = ap ones (omega arith) in
      omega (arith, count_first n g, ones_step g, ones_step (pred g))
]

pub levels_ones : (g : ℕ) → 1 ≤ g → length (levels g) + ones g ≡ 2 + ones (pred g)
unfolding count
levels_ones g p = count_ones g g p (omega arith)

-- ---- the tree: where black is stored once

pub below_pow : (l : ℕ) → l < 2 ^ l
below_pow zero = lit< tt
below_pow (suc l) = let r = below_pow l in omega arith

pub power_of : (g : ℕ) → stored_once g ≡ true → (l : ℕ) × (2 ^ l ≡ g)
power_of g e = let r = Memᴰ.of_map (λ l. 2 ^ l) (levels g) (has_mem g (map (λ l. 2 ^ l) (levels g)) e) in (r.0, r.2)

pub of_power : (l g : ℕ) → 2 ^ l ≡ g → stored_once g ≡ true
of_power l g e =
    let b = below_pow l in
    mem_has (Memᴰ.cast (sym e) (Memᴰ.map (λ (x : ℕ). 2 ^ x)
    (mem_keep (λ x. divides (2 ^ x) g) (up_from 0 g) l (up_from_mem 0 g l (omega arith) (omega arith)) (eq-eqb (g % 2 ^ l) 0 (rw e (mod_self g))))))

pow_lt_inv : {i j : ℕ} → 2 ^ i < 2 ^ j → i < j
pow_lt_inv {i} {j} h = elim (dec_lt i j) [ yes l ↦ l | no n ↦ let m : 2 ^ j ≤ 2 ^ i = pow_mono (omega arith) in absurd (omega arith) ]

once_scale : (k m : ℕ) → 1 ≤ m → stored_once (2 ^ k * m) ≡ stored_once m
once_scale k m p = bool_ext (stored_once (2 ^ k * m)) (stored_once m) (λ e. let r = power_of (2 ^ k * m) e in down r.0 r.1)
    (λ e. let r = power_of m e in of_power (k + r.0) (2 ^ k * m) (pow-add 2 k r.0 ∙ rw r.1))
  where
    down : (l : ℕ) → 2 ^ l ≡ 2 ^ k * m → stored_once m ≡ true
    down l e = elim (dec_le k l) [
      | yes h ↦ let a : k + (l - k) ≡ l = omega arith in
          of_power (l - k) m (eq_of_mul-eq-mul_left (2 ^ k) (pow_pos k) (2 ^ (l - k)) m (sym (pow-add 2 k (l - k)) ∙ ap (λ x. 2 ^ x) a ∙ e))
      | no h ↦ let a : 2 ^ suc l ≤ 2 ^ k = pow_mono (lt_of_not-le h) in
          let b = mul-le-mul_left (2 ^ k) p in
          let c = pow_pos l in
          absurd (omega arith)
    ]

-- ---- lg

lg_in_bounds : (f n : ℕ) → 1 ≤ n → n ≤ f → (2 ^ lg_in f n ≤ n) × (n < 2 ^ suc (lg_in f n))
lg_in_bounds zero n p l = absurd (omega arith)
lg_in_bounds (suc f) n p l = elim (split (leb n 1)) [
  | inl e ↦ let h = leb-true n 1 e in rw e (p, omega arith)
  | inr e ↦ let h = leb-false n 1 e in let r = lg_in_bounds f (n / 2) (omega arith) (omega arith) in
      let a : 2 ^ suc (lg_in f (n / 2)) ≤ n = omega arith in
      let b : n < 2 ^ suc (suc (lg_in f (n / 2))) = omega arith in rw e (a, b)
]

pub lg_bounds : (n : ℕ) → 1 ≤ n → (2 ^ lg n ≤ n) × (n < 2 ^ suc (lg n))
unfolding lg
lg_bounds n p = lg_in_bounds n n p (omega arith)

pub lg_unique : (n j : ℕ) → 2 ^ j ≤ n → n < 2 ^ suc j → lg n ≡ j
lg_unique n j a b =
    let o = pow_pos j in
    let r = lg_bounds n (omega arith) in
    let c : j < suc (lg n) = pow_lt_inv (omega arith) in
    let d : lg n < suc j = pow_lt_inv (omega arith) in
    omega arith

-- the binary digits of n
abbrev pub digits : ℕ → ℕ
digits zero = 0
digits (suc n) = suc (lg (suc n))

digits_step : (n : ℕ) → digits (suc n) ≡ digits n + bit (stored_once (suc n))
unfolding lg
digits_step zero = refl
digits_step (suc n) = let b = lg_bounds (suc n) (omega arith) in elim (ℕ_discrete (suc (suc n)) (2 ^ suc (lg (suc n)))) [
  | yes e ↦ let q = lg_unique (suc (suc n)) (suc (lg (suc n))) (omega arith) (omega (arith, pow_pos (lg (suc n)))) in
      rw (of_power (suc (lg (suc n))) (suc (suc n)) (sym e)) (omega arith)
  | no h ↦ let q = lg_unique (suc (suc n)) (lg (suc n)) (omega arith) (omega arith) in
      let none : stored_once (suc (suc n)) ≡ false = elim (split (stored_once (suc (suc n)))) [
        | inl e ↦ let r = power_of (suc (suc n)) e in
            let c : lg (suc n) < r.0 = pow_lt_inv (omega (arith, r.1)) in
            let d : r.0 < suc (lg (suc n)) = pow_lt_inv (omega (arith, r.1)) in
            absurd (omega arith)
        | inr e ↦ e
      ] in rw none (omega arith)
]

-- ---- the tree's formula

-- of the days that n = 2^k divides, those that are powers of two
stored_step : (k d : ℕ) → digits (suc d / 2 ^ k) ≡ digits (d / 2 ^ k) + bit (divides (2 ^ k) (suc d) && stored_once (suc d))
stored_step k d = let step = div_step (2 ^ k) d (pow_pos k) in elim (split (divides (2 ^ k) (suc d))) [
  | inl e ↦ let s = rw e at step in
      let q : suc d / 2 ^ k ≡ suc (d / 2 ^ k) = omega arith in
      let z = eqb-true (suc d % 2 ^ k) 0 e in
      let w : suc d ≡ 2 ^ k * suc (d / 2 ^ k) = omega (arith, div-add-mod' (suc d) (2 ^ k), ap (λ x. x * 2 ^ k) q, mul_comm (2 ^ k) (suc (d / 2 ^ k))) in
      rw (e, ap stored_once w ∙ once_scale k (suc (d / 2 ^ k)) (omega arith), q) (digits_step (d / 2 ^ k))
  | inr e ↦ let s = rw e at step in rw (e, s, add-zero) (omega arith)
]

length_tree : (n g : ℕ) → length (names_of_day 3 n g) ≡ length (levels g) + bit (divides n g && not (stored_once g))
length_tree n g = simp (length-append, length-map, length_cond)

bits : (a b : Bool) → bit (a && not b) + bit (a && b) ≡ bit a
bits true true = refl
bits true false = refl
bits false b = refl

ones_zero : ones 0 ≡ 0
unfolding ones
ones_zero = refl

count_tree_sum : (k d : ℕ) → length (names_through 3 (2 ^ k) d) + ones d + digits (d / 2 ^ k) ≡ 2 * d + d / 2 ^ k
unfolding names_through flat_map
count_tree_sum k zero = rw (div-eq_of_lt (pow_pos k)) (omega (arith, ones_zero))
count_tree_sum k (suc d) =
    omega (
      arith,
      count_suc 3 (2 ^ k) d,
      length_tree (2 ^ k) (suc d),
      levels_ones (suc d) (omega arith),
      stored_step k d,
      div_step (2 ^ k) d (pow_pos k),
      bits (divides (2 ^ k) (suc d)) (stored_once (suc d)),
      count_tree_sum k d,
    )

digits_lg : (n : ℕ) → 1 ≤ n → digits n ≡ 1 + lg n
digits_lg zero p = absurd (omega arith)
digits_lg (suc n) p = omega arith

-- ---- the count through any day, and 01's formulas

-- the values of the days 1 to g, by arithmetic; black of the tree is not counted where it is stored once
abbrev pub through : ℕ → ℕ → ℕ → ℕ
through zero n g = 0
through (suc zero) n g = g / n
through (suc (suc zero)) n g = g / n * (2 + lg n)
through (suc (suc (suc zero))) n g = 2 * g - ones g + g / n - digits (g / n)
through (suc (suc (suc (suc s)))) n g = 0

pub ones_small : (g : ℕ) → ones g ≤ g
ones_small g = ones-le g g (below_pow g)

pub digits_small : (g : ℕ) → digits g ≤ g
digits_small zero = omega arith
digits_small (suc g) = let b = lg_bounds (suc g) (omega arith) in let p = below_pow (lg (suc g)) in omega arith

pub count_through : (s k g : ℕ) → 1 ≤ s → s ≤ 3 → length (names_through s (2 ^ k) g) ≡ through s (2 ^ k) g
count_through s k g = by_scheme (λ s. length (names_through s (2 ^ k) g) ≡ through s (2 ^ k) g)
    (count_black (2 ^ k) g (pow_pos k)) (count_tile (2 ^ k) g (pow_pos k)) (omega (arith, count_tree_sum k g, ones_small g)) s

-- 01's number of values is the number of chains
pub values_length : (s k d : ℕ) → 1 ≤ s → s ≤ 3 → 1 ≤ d / 2 ^ k → value_count s (2 ^ k) d ≡ length (chains s (2 ^ k) d)
unfolding chains
values_length s k d a b p =
    let formula = by_scheme (λ s. through s (2 ^ k) d ≡ value_count s (2 ^ k) d) refl refl (rw (digits_lg (d / 2 ^ k) p)) s a b in
    sym (length-map (names_through s (2 ^ k) d) (covered_days (2 ^ k)) ∙ count_through s k d a b ∙ formula)
