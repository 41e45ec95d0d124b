-- Under the rules each value passes exactly if no day of its chain is listed locally: what this takes, by scheme.
use mathlib.Core.{Path.◌≡◌, Path.refl, Path.sym, Path.ap, Path.◌∙◌, Logic.inl, Logic.inr, List.List}
use mathlib.Core.Bool.{Bool, true, false, not, ◌&&◌, ◌||◌, and-false}
use Prim.Native.Nat.{ℕ, zero, suc, pred, ◌+◌, ◌-◌, ◌*◌, ◌/◌, ◌%◌, ◌^◌, ◌≤◌, ◌<◌}
use native.Mathlib.Nat.{le-div_iff_mul-le, div-lt_iff_lt-mul, mul-pos, mul-le-mul_right, suc-mul, zero-mul, pow-succ', mod-lt, div-add-mod'}
use native.Mathlib.{Decide.dec_lt, Omega.arith}
use lib.{Arith.digits_div, Arith.digits_mod, Dec.eqb, Pow.pow_pos, Pow.pow-lt}
use Rattle.lists.specs.Lists.{◌among◌, up_from, keep, every}
use Rattle.evidence.specs.Evidence.{days}
use Rattle.lists.proofs.Laws.{split, true_or_false, and_both, up_from_mem, up_from_bounds, keep_mem, mem_keep, every_at, every_of, every_fails}
use Rattle.layouts.specs.Layouts.{divides, lg, black, tile, tree, last_days, offset, covers, covered_days}
use Rattle.layouts.proofs.{AllowedLaws.Power, Coverage.divisor_le, Coverage.weight_is}
use Rattle.acceptance.specs.Private.{alike, passes, prior, tile_rule, block_rule, block_at, halves_rule, halves_at, level_rule}
use Rattle.acceptance.specs.Private.{levels_rule, blocks_rule, rules, end_of, tile_bit, one, number, bit_rule, bits_rule, is_listed}
use Rattle.acceptance.proofs.Runs.{some, some_append, some_of, some_none, some_same, keep_all, last_days_bounds}
use Rattle.acceptance.proofs.Runs.{last_days_mem, days_bounds, bit_low, divides_multiple, div_whole}
use Rattle.acceptance.proofs.Lookup.{Block}
use Rattle.acceptance.proofs.Given.{block_split, half_point, half_split, prior_first, prior_next}

pub neither : (a b : Bool) → not a && not b ≡ not (a || b)
neither true b = refl
neither false b = refl

pub alike_eq : (a b : Bool) → alike a b ≡ true → a ≡ b
alike_eq true b e = sym e
alike_eq false true e = absurd (true_or_false e refl)
alike_eq false false e = refl

-- ---- intervals

-- a day that closes an interval, by its number
pub block_number : (n d g : ℕ) → 1 ≤ n → Block n d g → suc (pred (g / n)) * n ≡ g
block_number n d g p q =
    let l = divisor_le n g q.some q.whole in
    let some : 1 ≤ g / n = (le-div_iff_mul-le p).1 (omega arith) in
    let e : suc (pred (g / n)) ≡ g / n = omega arith in
    rw e (div_whole n g q.whole)

-- the end of a day's interval
pub end_of_lem : (n k day : ℕ) → k * n < day → day ≤ suc k * n → end_of n day ≡ suc k * n
end_of_lem n k day a b =
    let s = suc-mul k n in
    let e : pred day ≡ k * n + (day - suc (k * n)) = omega arith in
    rw (e, digits_div k {m = n} {r = day - suc (k * n)} (omega arith))

pub in_block : (n k day : ℕ) → day among last_days n (suc k * n) → (k * n < day) × (day ≤ suc k * n)
in_block n k day m = let s = suc-mul k n in let b = last_days_bounds n (suc k * n) day (omega arith) m in omega arith

-- each day lies in an interval
pub block_day : (n d g : ℕ) → 1 ≤ n → divides n d ≡ true → g among days d → Block n d (end_of n g) × (g among last_days n (end_of n g))
block_day n d g p w m =
    let b = days_bounds d g m in
    let z = div_whole n d w in
    let r = mod-lt (pred g) p in
    let v = div-add-mod' (pred g) n in
    let s = suc-mul (pred g / n) n in
    let u = mul-le-mul_right n ((div-lt_iff_lt-mul {x = pred g} {y = d / n} p).1 (omega arith)) in (
      record { some = omega arith; most = omega arith; whole = divides_multiple (suc (pred g / n)) n p },
      last_days_mem n (suc (pred g / n) * n) g (omega arith) (omega arith) (omega arith),
    )

-- ---- black, from the intervals' own days

some_run : (p : ℕ → Bool) (b : Bool) (i k : ℕ) → 1 ≤ k → ((g : ℕ) → g among up_from i k → p g ≡ b) → some p (up_from i k) ≡ b
some_run p b i zero l f = absurd (omega arith)
some_run p b i (suc k) l f = some_same p b i (up_from (suc i) k) f

pub black_up : (s n d : ℕ) (t : List ℕ) (p : ℕ → Bool) → 1 ≤ n →
    ((k : ℕ) → Block n d (suc k * n) → passes s n t (black (suc k * n)) ≡ prior s n t (suc k * n) && not (some p (last_days n (suc k * n)))) →
    (k : ℕ) → Block n d (suc k * n) → passes s n t (black (suc k * n)) ≡ not (some p (last_days (suc k * n) (suc k * n)))
black_up s n d t p l f zero q = f 0 q ∙ rw (prior_first s n t) (sym (ap (λ c. not (some p c)) (block_split n 0) ∙ rw (zero-mul n)))
black_up s n d t p l f (suc k) q =
    let e = suc-mul (suc k) n in
    let r : 1 ≤ suc k * n = mul-pos (omega arith) l in
    let h = black_up s n d t p l f k (record { some = r; most = omega (arith, q.most); whole = divides_multiple (suc k) n l }) in
    let both = ap (some p) (block_split n (suc k)) ∙ some_append p (last_days (suc k * n) (suc k * n)) (last_days n (suc (suc k) * n)) in
    f (suc k) q ∙ rw (prior_next s n k t l, h) (neither (some p (last_days (suc k * n) (suc k * n))) (some p (last_days n (suc (suc k) * n))) ∙ ap not (sym both))

-- the same for any day that closes an interval
pub at_block : (P : ℕ → Type 0) (n d : ℕ) → 1 ≤ n → ((k : ℕ) → Block n d (suc k * n) → P (suc k * n)) → (g : ℕ) → Block n d g → P g
at_block P n d p f g q =
    let e : suc (pred (g / n)) * n ≡ g = block_number n d g p q in
    rw e at (f (pred (g / n)) (rw e q))

pub rule_at : (s n d : ℕ) (t : List ℕ) → 1 ≤ n → rules s n d t ≡ true → (k : ℕ) → Block n d (suc k * n) → block_rule s n t (suc k * n) ≡ true
unfolding rules blocks_rule block_at
rule_at s n d t p r k q =
    let below : suc k ≤ d / n = (le-div_iff_mul-le p).1 q.most in
    every_at (block_at s n t) {g = suc k} {xs = up_from 1 (d / n)} (up_from_mem 1 (d / n) (suc k) (omega arith) (omega arith))
    (and_both (blocks_rule s n d t) (not (eqb s 3) || levels_rule n d t) r).0

-- ---- scheme 1

pub is_listed_1 : (n : ℕ) (t : List ℕ) (day : ℕ) → is_listed 1 n t day ≡ not (passes 1 n t (black (end_of n day)))
unfolding is_listed
is_listed_1 n t day = refl

-- in an interval, by its number
pub listed_in_1 : (n k day : ℕ) (t : List ℕ) → day among last_days n (suc k * n) → is_listed 1 n t day ≡ not (passes 1 n t (black (suc k * n)))
listed_in_1 n k day t m = let b = in_block n k day m in rw (← (end_of_lem n k day b.0 b.1)) (is_listed_1 n t day)

pub black_1 : (n d : ℕ) (t : List ℕ) → 1 ≤ n → divides n d ≡ true → rules 1 n d t ≡ true → (k : ℕ) → Block n d (suc k * n) →
    passes 1 n t (black (suc k * n)) ≡ prior 1 n t (suc k * n) && not (some (is_listed 1 n t) (last_days n (suc k * n)))
unfolding block_rule
black_1 n d t p w r k q =
    let all = some_run (is_listed 1 n t) (not (passes 1 n t (black (suc k * n)))) (suc (suc k * n - n)) n p
    (λ day m. listed_in_1 n k day t m) in
    rw all (fits (passes 1 n t (black (suc k * n))) (prior 1 n t (suc k * n)) (rule_at 1 n d t p r k q))
  where
    fits : (a b : Bool) → not a || b ≡ true → a ≡ b && not (not a)
    fits true b e = rw e
    fits false b e = sym (and-false b)

-- ---- scheme 2

pub is_listed_2 : (n : ℕ) (t : List ℕ) (g day : ℕ) → end_of n day ≡ g → is_listed 2 n t day ≡ not (passes 2 n t (tile 0 g)) && bits_rule (tile_bit n t g) (lg n) (pred day)
unfolding is_listed
is_listed_2 n t g day e = rw e

pub listed_in_2 : (n k day : ℕ) (t : List ℕ) → day among last_days n (suc k * n) →
    is_listed 2 n t day ≡ not (passes 2 n t (tile 0 (suc k * n))) && bits_rule (tile_bit n t (suc k * n)) (lg n) (pred day)
listed_in_2 n k day t m = let b = in_block n k day m in is_listed_2 n t (suc k * n) day (end_of_lem n k day b.0 b.1)

-- the bit that c(i) looks at
pub covers_bit : (n k i x : ℕ) → n ≡ 2 ^ k → i < k → covers n (suc i) (x % n) ≡ eqb (x / 2 ^ (k - suc i) % 2) 0
covers_bit n k i x e l =
    ap (λ (y : ℕ). eqb (x % n / y % 2) 0) (weight_is n k (suc i) e l) ∙ ap (λ (y : ℕ). eqb (x % y / 2 ^ (k - suc i) % 2) 0) e ∙
    ap (λ (y : ℕ). eqb y 0) (bit_low x k (k - suc i) (omega arith))

pub number_small : (p : ℕ → Bool) (k : ℕ) → number p k < 2 ^ k
unfolding number
number_small p zero = omega arith
number_small p (suc k) =
    let e = pow-succ' 2 k in
    let h = number_small p k in
    elim (split (p k)) [ inl b ↦ rw b (omega arith) | inr b ↦ rw b (omega arith) ]

pub number_bit : (p : ℕ → Bool) (k j : ℕ) → j < k → number p k / 2 ^ j % 2 ≡ one (p j)
unfolding number
number_bit p zero j l = absurd (omega arith)
number_bit p (suc k) j l = elim (dec_lt j k) [
  | yes h ↦ sym (bit_low (number p (suc k)) k j h) ∙ ap (λ y. y / 2 ^ j % 2) (digits_mod (one (p k)) (number_small p k)) ∙ number_bit p k j h
  | no h ↦ let e : j ≡ k = omega arith in
      rw (e, digits_div (one (p k)) (number_small p k)) (elim (p k) as (λ b. one b % 2 ≡ one b) [ true ↦ refl | false ↦ refl ])
]

pub tile_bit_lem : (n : ℕ) (t : List ℕ) (g i : ℕ) → i ≤ lg n → tile_bit n t g (lg n - i) ≡ passes 2 n t (tile i g)
unfolding tile_bit
tile_bit_lem n t g i l = let e : lg n - (lg n - i) ≡ i = omega arith in rw e

module _ (n d : ℕ) (t : List ℕ) (w : Power n) (k : ℕ) where
  -- a day that a passing chain of its tile covers is not listed
  hides : (i day : ℕ) → i ≤ lg n → day among last_days n (suc k * n) → covers n i (offset n day) ≡ true → passes 2 n t (tile i (suc k * n)) ≡ true → is_listed 2 n t day ≡ false
  unfolding bits_rule bit_rule
  hides zero day l m c e =
      listed_in_2 n k day t m ∙ rw e
  hides (suc i) day l m c e =
      let bit : eqb (pred day / 2 ^ (lg n - suc i) % 2) 0 ≡ true = sym (covers_bit n (lg n) i (pred day) w.power l) ∙ c in
      let no : bits_rule (tile_bit n t (suc k * n)) (lg n) (pred day) ≡ false =
      every_fails (bit_rule (tile_bit n t (suc k * n)) (pred day)) (up_from 0 (lg n)) (lg n - suc i) (up_from_mem 0 (lg n) (lg n - suc i) (omega arith) (omega arith))
      (rw (tile_bit_lem n t (suc k * n) (suc i) l, e, bit)) in
      listed_in_2 n k day t m ∙ rw no (and-false (not (passes 2 n t (tile 0 (suc k * n)))))

  -- where c(i) fails, and with it c(0), it covers a day that is listed
  shows : (i : ℕ) → i ≤ lg n → passes 2 n t (tile 0 (suc k * n)) ≡ false → passes 2 n t (tile i (suc k * n)) ≡ false →
      (day : ℕ) × (day among last_days n (suc k * n)) × (covers n i (offset n day) ≡ true) × (is_listed 2 n t day ≡ true)
  unfolding bits_rule bit_rule
  shows i l z e = (suc (k * n + o), inn, cov i l e, loc)
    where
      p : ℕ → Bool
      p = tile_bit n t (suc k * n)

      o : ℕ
      o = number p (lg n)

      small : o < n
      small = rw (← w.power) at (number_small p (lg n))

      inn : suc (k * n + o) among last_days n (suc k * n)
      inn = let s : suc k * n ≡ k * n + n = suc-mul k n in last_days_mem n (suc k * n) (suc (k * n + o)) (omega arith) (omega arith) (omega (arith, small))

      bit : (j : ℕ) → j < lg n → (k * n + o) / 2 ^ j % 2 ≡ one (p j)
      bit j h =
          sym (bit_low (k * n + o) (lg n) j h) ∙ ap (λ (y : ℕ). (k * n + o) % y / 2 ^ j % 2) (sym w.power) ∙
          ap (λ (y : ℕ). y / 2 ^ j % 2) (digits_mod k small) ∙ number_bit p (lg n) j h

      cov : (j : ℕ) → j ≤ lg n → passes 2 n t (tile j (suc k * n)) ≡ false → covers n j ((k * n + o) % n) ≡ true
      cov zero h f = refl
      cov (suc j) h f =
          covers_bit n (lg n) j (k * n + o) w.power h ∙
          ap (λ (y : ℕ). eqb y 0) (bit (lg n - suc j) (omega arith)) ∙ rw (tile_bit_lem n t (suc k * n) (suc j) h, f)

      loc : is_listed 2 n t (suc (k * n + o)) ≡ true
      loc =
          is_listed_2 n t (suc k * n) (suc (k * n + o)) (end_of_lem n k (suc (k * n + o)) (omega arith) (let s : suc k * n ≡ k * n + n = suc-mul k n in omega (arith, small))) ∙
          rw z (every_of (bit_rule p (k * n + o)) (up_from 0 (lg n)) (λ j m. let b = up_from_bounds 0 (lg n) j m in rw (bit j (omega arith))
          (elim (p j) as (λ a. not (a && eqb (one a) 0) ≡ true) [ true ↦ refl | false ↦ refl ])))

pub tile_2 : (n d : ℕ) (t : List ℕ) → Power n → divides n d ≡ true → rules 2 n d t ≡ true → (k i : ℕ) → Block n d (suc k * n) → i ≤ lg n →
    passes 2 n t (tile i (suc k * n)) ≡ not (some (is_listed 2 n t) (covered_days n (tile i (suc k * n))))
unfolding block_rule tile_rule
tile_2 n d t w e r k i q l = elim (split (passes 2 n t (tile i g))) [
  | inl f ↦ rw (f, some_none (is_listed 2 n t) (keep test (last_days n g)) (λ day m. let x = keep_mem test (last_days n g) day m in hides n d t w k i day l x.0 x.1 f))
  | inr f ↦ let x = shows n d t w k i l (first i l f) f in
      rw (f, some_of (is_listed 2 n t) {g = x.0} {xs = keep test (last_days n g)} (mem_keep test (last_days n g) x.0 x.1 x.2) x.3)
]
  where
    g : ℕ
    g = suc k * n

    test : ℕ → Bool
    test day = covers n i (offset n day)

    fails : (a b : Bool) → not a || b ≡ true → b ≡ false → a ≡ false
    fails true b u v = absurd (true_or_false u v)
    fails false b u v = refl

    first : (j : ℕ) → j ≤ lg n → passes 2 n t (tile j g) ≡ false → passes 2 n t (tile 0 g) ≡ false
    first zero h f = f
    first (suc j) h f =
        fails (passes 2 n t (tile 0 g)) (passes 2 n t (tile (suc j) g))
        (every_at (tile_rule n t g) {g = suc j} {xs = up_from 1 (lg n)} (up_from_mem 1 (lg n) (suc j) (omega arith) (omega arith))
        (and_both (alike (passes 2 n t (black g)) (prior 2 n t g && passes 2 n t (tile 0 g))) (every (tile_rule n t g) (up_from 1 (lg n))) (rule_at 2 n d t w.some r k q)).1) f

pub black_2 : (n d : ℕ) (t : List ℕ) → Power n → divides n d ≡ true → rules 2 n d t ≡ true → (k : ℕ) → Block n d (suc k * n) →
    passes 2 n t (black (suc k * n)) ≡ prior 2 n t (suc k * n) && not (some (is_listed 2 n t) (last_days n (suc k * n)))
unfolding block_rule
black_2 n d t w e r k q =
    alike_eq (passes 2 n t (black g)) (prior 2 n t g && passes 2 n t (tile 0 g))
    (and_both (alike (passes 2 n t (black g)) (prior 2 n t g && passes 2 n t (tile 0 g))) (every (tile_rule n t g) (up_from 1 (lg n))) (rule_at 2 n d t w.some r k q)).0 ∙
    ap (λ (b : Bool). prior 2 n t g && b)
    (tile_2 n d t w e r k 0 q (omega arith) ∙ ap (λ (c : List ℕ). not (some (is_listed 2 n t) c)) (keep_all (λ day. covers n 0 (offset n day)) (last_days n g) (λ x m. refl)))
  where
    g : ℕ
    g = suc k * n

-- ---- scheme 3

pub is_listed_3 : (n : ℕ) (t : List ℕ) (day : ℕ) → is_listed 3 n t day ≡ not (passes 3 n t (tree 0 day))
unfolding is_listed
is_listed_3 n t day = refl

pub small_level : (l d m : ℕ) → 1 ≤ m → m * 2 ^ suc l ≤ d → d ≤ 65536 → l < 16
small_level l d m p h b = elim (dec_lt l 16) [
  | yes u ↦ u
  | no u ↦ let c = pow-lt {i = 16} {j = suc l} (omega arith) in let v = mul-le-mul_right (2 ^ suc l) p in absurd (omega arith)
]

module _ (n d : ℕ) (t : List ℕ) (small : d ≤ 65536) (r : levels_rule n d t ≡ true) where
  halves_at_lem : (l j : ℕ) → suc j * 2 ^ suc l ≤ d → passes 3 n t (tree (suc l) (suc j * 2 ^ suc l)) ≡
      passes 3 n t (tree l (suc j * 2 ^ suc l - 2 ^ l)) && passes 3 n t (tree l (suc j * 2 ^ suc l))
  unfolding levels_rule level_rule halves_at halves_rule
  halves_at_lem l j h =
      alike_eq (passes 3 n t (tree (suc l) g)) (passes 3 n t (tree l (g - 2 ^ l)) && passes 3 n t (tree l g))
      (every_at (halves_at n t l) {g = suc j} {xs = up_from 1 (d / 2 ^ suc l)}
      (up_from_mem 1 (d / 2 ^ suc l) (suc j) (omega arith) (omega (arith, (le-div_iff_mul-le {x = suc j} (pow_pos (suc l))).1 h)))
      (every_at (level_rule n d t) {g = l} {xs = up_from 0 16} (up_from_mem 0 16 l (omega arith) (omega (arith, small_level l d (suc j) (omega arith) h small))) r))
    where
      g : ℕ
      g = suc j * 2 ^ suc l

  -- a chain of the tree passes exactly if none of its days is listed
  pub tree_3 : (l j : ℕ) → suc j * 2 ^ l ≤ d → passes 3 n t (tree l (suc j * 2 ^ l)) ≡ not (some (is_listed 3 n t) (last_days (2 ^ l) (suc j * 2 ^ l)))
  tree_3 zero j h =
      let e : suc j * 2 ^ 0 ≡ suc j = omega arith in
      let f : suc (suc j - 1) ≡ suc j = omega arith in
      rw (e, f, is_listed_3 n t (suc j)) (elim (passes 3 n t (tree 0 (suc j))) as (λ b. b ≡ not (not b || false)) [ true ↦ refl | false ↦ refl ])
  tree_3 (suc l) j h =
      let e = half_point j l in
      let f : suc j * 2 ^ suc l - 2 ^ l ≡ suc (j + j) * 2 ^ l = omega arith in
      let q : suc j * 2 ^ suc l ≡ suc (suc (j + j)) * 2 ^ l = e ∙ sym (suc-mul (suc (j + j)) (2 ^ l)) in
      let a = rw (← f) at (tree_3 l (j + j) (omega arith)) in
      let b = rw (← q) at (tree_3 l (suc (j + j)) (omega arith)) in
      let x = last_days (2 ^ l) (suc j * 2 ^ suc l - 2 ^ l) in
      let y = last_days (2 ^ l) (suc j * 2 ^ suc l) in
      rw (halves_at_lem l j h, a, b)
      (neither (some (is_listed 3 n t) x) (some (is_listed 3 n t) y) ∙ ap not (sym (ap (some (is_listed 3 n t)) (half_split j l) ∙ some_append (is_listed 3 n t) x y)))

pub black_3 : (n d : ℕ) (t : List ℕ) → Power n → divides n d ≡ true → d ≤ 65536 → rules 3 n d t ≡ true → (k : ℕ) → Block n d (suc k * n) →
    passes 3 n t (black (suc k * n)) ≡ prior 3 n t (suc k * n) && not (some (is_listed 3 n t) (last_days n (suc k * n)))
unfolding block_rule rules
black_3 n d t w e small r k q =
    alike_eq (passes 3 n t (black (suc k * n))) (prior 3 n t (suc k * n) && passes 3 n t (tree (lg n) (suc k * n))) (rule_at 3 n d t w.some r k q) ∙
    ap (λ (b : Bool). prior 3 n t (suc k * n) && b)
    (ap (λ (x : ℕ). passes 3 n t (tree (lg n) (suc k * x))) w.power ∙
    tree_3 n d t small (and_both (blocks_rule 3 n d t) (levels_rule n d t) r).1 (lg n) k (let m = q.most in rw w.power at m) ∙
    ap (λ (x : ℕ). not (some (is_listed 3 n t) (last_days x (suc k * x)))) (sym w.power))
