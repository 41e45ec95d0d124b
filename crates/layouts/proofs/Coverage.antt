-- What the chains of the three layouts cover: days 1 to d only; every day; in the tree each day alone. The chains of d days
-- are the front of those of more.
use mathlib.Core.{Path.◌≡◌, Path.refl, Path.sym, Path.ap, Path.◌∙◌, Logic.inl, Logic.inr}
use mathlib.Core.Bool.{Bool, true, false, cond}
use mathlib.Core.List.Memᴰ
use mathlib.Core.List.{List, [], ◌∷◌, ◌++◌, map, flat_map, map-append, append_assoc, append-nil}
use Prim.Native.Nat.{ℕ, zero, suc, ◌+◌, ◌-◌, ◌/◌, ◌%◌, ◌^◌, ◌≤◌, ◌<◌}
use native.Mathlib.{Nat.mod-eq_of_lt, Nat.mod-one, Nat.lt_of_not-le, Nat.add-zero, Nat.add-suc, Nat.mul-div_cancel, Nat.div-eq_of_lt}
use native.Mathlib.{Decide.dec_le, Omega.arith}
use lib.{Dec.eqb, Pow.pow_pos, Pow.pow-add}
use borrow.Author.Tests.{eqb-true, eq-eqb}
use Rattle.lists.specs.Lists.{◌among◌, up_from}
use Rattle.evidence.specs.Evidence.{days, Within}
use Rattle.lists.proofs.Laws.{split, and_both, up_from_snoc, has_mem, up_from_mem, up_from_bounds, keep_mem, mem_keep}
use Rattle.layouts.specs.Layouts.{divides, lg, Name, black, tile, tree, last_days, offset, covers, covered_days, levels}
use Rattle.layouts.specs.Layouts.{stored_once, stores_black_of_tree, names_of_day, names_through, chains_of_day, chains}

-- what holds of each scheme holds of all
pub by_scheme : (P : ℕ → Type 0) → P 1 → P 2 → P 3 → (s : ℕ) → 1 ≤ s → s ≤ 3 → P s
by_scheme P x y z zero a b = absurd (omega arith)
by_scheme P x y z (suc zero) a b = x
by_scheme P x y z (suc (suc zero)) a b = y
by_scheme P x y z (suc (suc (suc zero))) a b = z
by_scheme P x y z (suc (suc (suc (suc s)))) a b = absurd (omega arith)

-- a divisor of a number that is not 0 is no greater
pub divisor_le : (w g : ℕ) → 1 ≤ g → divides w g ≡ true → w ≤ g
divisor_le w g p e = elim (dec_le w g) [
  | yes h ↦ h
  | no h ↦ let z = eqb-true (g % w) 0 e in let l : g % w ≡ g = mod-eq_of_lt (lt_of_not-le h) in absurd (omega arith)
]

last_days_within : (n g : ℕ) → n ≤ g → Within g (last_days n g)
last_days_within n g l x m = let b = up_from_bounds (suc (g - n)) n x m in omega arith

pub cond_mem : (b : Bool) (xs : List Name) {x : Name} → x among cond b xs [] → (b ≡ true) × (x among xs)
cond_mem true xs m = (refl, m)
cond_mem false xs m = elim m [ ]

-- the weight of c(i)'s bit
pub weight_is : (n k i : ℕ) → n ≡ 2 ^ k → i ≤ k → n / 2 ^ i ≡ 2 ^ (k - i)
weight_is n k i e l =
    let q : k - i + i ≡ k = omega arith in
    ap (λ (x : ℕ). x / 2 ^ i) (e ∙ ap (λ (x : ℕ). 2 ^ x) (sym q) ∙ pow-add 2 (k - i) i) ∙ mul-div_cancel (2 ^ (k - i)) (pow_pos i)

-- one rule for c(0) to c(k): the bit of c(0) is 0 at every offset
pub covers_by_bit : (n k i o : ℕ) → n ≡ 2 ^ k → i ≤ k → o < n → covers n i o ≡ eqb (o / 2 ^ (k - i) % 2) 0
covers_by_bit n k zero o e l h =
    let q : n ≡ 2 ^ (k - 0) = e ∙ ap (λ (x : ℕ). 2 ^ x) (omega arith) in
    ap (λ (x : ℕ). eqb (x % 2) 0) (sym (div-eq_of_lt (rw q at h)))
covers_by_bit n k (suc i) o e l h = ap (λ (w : ℕ). eqb (o / w % 2) 0) (weight_is n k (suc i) e l)

-- ---- the names that close at g: what holds of each holds of all

pub of_day_1 : (P : Name → Type 0) (n g : ℕ) → (divides n g ≡ true → P (black g)) → (x : Name) → x among names_of_day 1 n g → P x
of_day_1 P n g f x m = let o = cond_mem (divides n g) (black g ∷ []) m in rw (Memᴰ.eq_of_singleton o.1) (f o.0)

pub of_day_2 : (P : Name → Type 0) (n g : ℕ) → (divides n g ≡ true → P (black g)) → ((i : ℕ) → divides n g ≡ true → i ≤ lg n → P (tile i g)) →
    (x : Name) → x among names_of_day 2 n g → P x
of_day_2 P n g f h x m =
    let tiles = map (λ i. tile i g) (up_from 0 (suc (lg n))) in
    let o = cond_mem (divides n g) (tiles ++ (black g ∷ [])) m in
    elim (Memᴰ.append_cases tiles o.1) [
      | inl k ↦ let y = Memᴰ.of_map (λ i. tile i g) (up_from 0 (suc (lg n))) k in
          let l = up_from_bounds 0 (suc (lg n)) y.0 y.1 in rw (← y.2) (h y.0 o.0 (omega arith))
      | inr k ↦ rw (Memᴰ.eq_of_singleton k) (f o.0)
    ]

pub of_day_3 : (P : Name → Type 0) (n g : ℕ) → (divides n g ≡ true → P (black g)) → ((l : ℕ) → divides (2 ^ l) g ≡ true → P (tree l g)) →
    (x : Name) → x among names_of_day 3 n g → P x
of_day_3 P n g f h x m = elim (Memᴰ.append_cases (map (λ l. tree l g) (levels g)) m) [
  | inl k ↦ let y = Memᴰ.of_map (λ l. tree l g) (levels g) k in rw (← y.2) (h y.0 (keep_mem (λ l. divides (2 ^ l) g) (up_from 0 g) y.0 y.1).1)
  | inr k ↦ let o = cond_mem (stores_black_of_tree n g) (black g ∷ []) k in
      rw (Memᴰ.eq_of_singleton o.1) (f (and_both (divides n g) _ o.0).0)
]

-- a name of the scheme at day g covers days 1 to g only
pub names_of_day_within : (s n g : ℕ) → 1 ≤ g → (x : Name) → x among names_of_day s n g → Within g (covered_days n x)
names_of_day_within zero n g p = λ x m. elim m [ ]
names_of_day_within (suc zero) n g p = of_day_1 (λ x. Within g (covered_days n x)) n g (λ e. last_days_within g g (omega arith))
names_of_day_within (suc (suc zero)) n g p = of_day_2 (λ x. Within g (covered_days n x)) n g (λ e. last_days_within g g (omega arith))
    (λ i e l d k. last_days_within n g (divisor_le n g p e) d (keep_mem (λ day. covers n i (offset n day)) (last_days n g) d k).0)
names_of_day_within (suc (suc (suc zero))) n g p = of_day_3 (λ x. Within g (covered_days n x)) n g (λ e. last_days_within g g (omega arith))
    (λ l e. last_days_within (2 ^ l) g (divisor_le (2 ^ l) g p e))
names_of_day_within (suc (suc (suc (suc s)))) n g p = λ x m. elim m [ ]

-- a name of the layout closes at one of its days
names_of_day_at : (s n : ℕ) (gs : List ℕ) (x : Name) → x among flat_map (names_of_day s n) gs → (g : ℕ) × (g among gs) × (x among names_of_day s n g)
unfolding flat_map
names_of_day_at s n [] x m = elim m [ ]
names_of_day_at s n (g ∷ gs) x m = elim (Memᴰ.append_cases (names_of_day s n g) m) [
  | inl k ↦ (g, Memᴰ.head refl, k)
  | inr k ↦ let r = names_of_day_at s n gs x k in (r.0, Memᴰ.tail r.1, r.2)
]

names_of_day_in : (s n : ℕ) {g : ℕ} {gs : List ℕ} → g among gs → (x : Name) → x among names_of_day s n g → x among flat_map (names_of_day s n) gs
unfolding flat_map
names_of_day_in s n (Memᴰ.head {x = y} {xs = xs} e) x m = Memᴰ.append_left (flat_map (names_of_day s n) xs) (rw e at m)
names_of_day_in s n (Memᴰ.tail {x = y} {xs = xs} h) x m = Memᴰ.append_right (names_of_day s n y) (names_of_day_in s n h x m)

pub names_through_at : (s n d : ℕ) (x : Name) → x among names_through s n d → (g : ℕ) × (g among days d) × (x among names_of_day s n g)
unfolding names_through flat_map
names_through_at s n d x m = names_of_day_at s n (days d) x m

pub names_through_in : (s n d : ℕ) {g : ℕ} → g among days d → (x : Name) → x among names_of_day s n g → x among names_through s n d
unfolding names_through flat_map
names_through_in s n d m x k = names_of_day_in s n m x k

-- ---- chains lie within 1 to d

pub chains_within : (s n d : ℕ) (c : List ℕ) → c among chains s n d → Within d c
unfolding chains
chains_within s n d c m y k =
    let o = Memᴰ.of_map (covered_days n) (names_through s n d) m in
    let r = names_through_at s n d o.0 o.1 in
    let b = up_from_bounds 1 d r.0 r.1 in
    let w = names_of_day_within s n r.0 (omega arith) o.0 r.2 y (rw (← o.2) at k) in
    omega arith

-- ---- black, and every day

-- where n divides the day, the chain over days 1 to g closes at g
pub black_closes : (s n g : ℕ) → 1 ≤ s → s ≤ 3 → 1 ≤ g → divides n g ≡ true → (x : Name) × (x among names_of_day s n g) × (covered_days n x ≡ last_days g g)
black_closes s n g a b p e = by_scheme (λ s. (x : Name) × (x among names_of_day s n g) × (covered_days n x ≡ last_days g g))
    (black g, rw e (Memᴰ.head refl), refl)
    (black g, rw e (Memᴰ.append_right (map (λ i. tile i g) (up_from 0 (suc (lg n)))) (Memᴰ.head refl)), refl)
    (elim (split (stored_once g)) [
      | inl h ↦ let r = Memᴰ.of_map (λ l. 2 ^ l) (levels g) (has_mem g (map (λ l. 2 ^ l) (levels g)) h) in
          (tree r.0 g, Memᴰ.append_left (cond (stores_black_of_tree n g) (black g ∷ []) []) (Memᴰ.map (λ l. tree l g) r.1), ap (λ w. last_days w g) r.2)
      | inr h ↦ (black g, Memᴰ.append_right (map (λ l. tree l g) (levels g)) (rw (e, h) (Memᴰ.head refl)), refl)
    ]) s a b

-- every day is covered
pub chains_cover : (s n d : ℕ) → 1 ≤ s → s ≤ 3 → divides n d ≡ true → (g : ℕ) → g among days d → (c : List ℕ) × (c among chains s n d) × (g among c)
unfolding chains
chains_cover s n d a b e g m =
    let k = up_from_bounds 1 d g m in
    let r = black_closes s n d a b (omega arith) e in (
      last_days d d,
      Memᴰ.cast (sym r.2) (Memᴰ.map (covered_days n) (names_through_in s n d (up_from_mem 1 d d (omega arith) (omega arith)) r.0 r.1)),
      up_from_mem (suc (d - d)) d g (omega arith) (omega arith),
    )

-- in the tree each day has a chain of its own
pub tree_single : (n d g : ℕ) → g among days d → (g ∷ []) among chains 3 n d
unfolding chains
tree_single n d g m =
    let b = up_from_bounds 1 d g m in
    let q : g ≡ suc (g - 1) = omega arith in
    let none = mem_keep (λ l. divides (2 ^ l) g) (up_from 0 g) 0 (up_from_mem 0 g 0 (omega arith) (omega arith)) (eq-eqb (g % 1) 0 (mod-one g)) in
    Memᴰ.cast (ap (λ x. x ∷ []) q)
    (Memᴰ.map (covered_days n) (names_through_in 3 n d m (tree 0 g) (Memᴰ.append_left (cond (stores_black_of_tree n g) (black g ∷ []) []) (Memᴰ.map (λ l. tree l g) none))))

-- ---- the chains of d days are the front of those of more

names_of_day-append : (s n : ℕ) (xs ys : List ℕ) → flat_map (names_of_day s n) (xs ++ ys) ≡ flat_map (names_of_day s n) xs ++ flat_map (names_of_day s n) ys
unfolding flat_map
names_of_day-append s n [] ys = refl
names_of_day-append s n (x ∷ xs) ys = rw (names_of_day-append s n xs ys, append_assoc)

pub names_through_suc : (s n d : ℕ) → names_through s n (suc d) ≡ names_through s n d ++ names_of_day s n (suc d)
unfolding names_through flat_map
names_through_suc s n d =
    ap (flat_map (names_of_day s n)) (up_from_snoc 1 d) ∙ names_of_day-append s n (up_from 1 d) ((1 + d) ∷ []) ∙
    (let e : 1 + d ≡ suc d = omega arith in rw (e, append-nil))

-- the names of k more days
pub names_through_add : (s n d k : ℕ) → (rest : List Name) × (names_through s n (d + k) ≡ names_through s n d ++ rest)
names_through_add s n d zero = ([], rw (add-zero, append-nil))
names_through_add s n d (suc k) =
    let r = names_through_add s n d k in
    (r.0 ++ names_of_day s n (suc (d + k)), rw (add-suc d k, names_through_suc s n (d + k), r.1, append_assoc))

pub chains_suc : (s n d : ℕ) → chains s n (suc d) ≡ chains s n d ++ chains_of_day s n (suc d)
unfolding chains chains_of_day
chains_suc s n d = ap (map (covered_days n)) (names_through_suc s n d) ∙ map-append (covered_days n) (names_through s n d) (names_of_day s n (suc d))

pub chains_add : (s n d k : ℕ) → (rest : List (List ℕ)) × (chains s n (d + k) ≡ chains s n d ++ rest)
unfolding chains
chains_add s n d k =
    let r = names_through_add s n d k in (map (covered_days n) r.0, ap (map (covered_days n)) r.1 ∙ map-append (covered_days n) (names_through s n d) r.0)

pub chains_front : (s n d e : ℕ) → d ≤ e → (rest : List (List ℕ)) × (chains s n e ≡ chains s n d ++ rest)
chains_front s n d e l = let q : d + (e - d) ≡ e = omega arith in rw q at (chains_add s n d (e - d))
