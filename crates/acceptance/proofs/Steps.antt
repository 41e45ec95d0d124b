-- What the functions that test a table need: values in range, and each rule from its parts.
use mathlib.Core.{Path.◌≡◌, Path.refl, Path.sym, Path.◌∙◌, Bool.Bool, Bool.true, Bool.false, Bool.beq, List.List}
use Prim.Native.Nat.{ℕ, suc, pred, ◌+◌, ◌-◌, ◌*◌, ◌/◌, ◌^◌, ◌≤◌, ◌<◌}
use native.Mathlib.Nat.{mul-pos, le_trans, mul-le-mul_right, div-mul-le_self}
use native.Mathlib.{Omega.arith}
use lib.{Dec.eqb, ListN.length, ListN.get_or, ListN.length-append, Pow.pow_pos}
use Rattle.lists.specs.Lists.{up_from, every}
use Rattle.lists.proofs.Laws.{up_from_mem, every_more, every_fails}
use Rattle.layouts.specs.Layouts.{divides, allowed_scheme, allowed_n, lg, Name, black, tile, tree, chains}
use Rattle.layouts.specs.Private.{position}
use Rattle.layouts.proofs.{AllowedLaws.allowed_n_is, AllowedLaws.allowed_scheme_is, Coverage.divisor_le, Coverage.chains_front}
use Rattle.layouts.proofs.Positions.{divides_half}
use Rattle.acceptance.specs.Private.{Table, Has, Interval, Chain, alike, passes, prior, block_rule}
use Rattle.acceptance.proofs.{BlackLaws.black_position, Runs.divides_multiple, Given.half_point, Given.prior_first, Given.prior_next, Listed.block_number}
use Rattle.acceptance.proofs.Lookup.{position_bound, tile_named, tree_named}

-- ---- values in range

chains_grow : (s n e g : ℕ) → e ≤ g → length (chains s n e) ≤ length (chains s n g)
chains_grow s n e g l = let r = chains_front s n e g l in rw (r.1, length-append) (omega arith)

pub has_earlier : {s n g : ℕ} {t : List ℕ} (e : ℕ) → Has s n g t → 1 ≤ e → e ≤ g → Has s n e t
has_earlier {s} {n} {g} {t} e h p l =
    let w = chains_grow s n e g l in
    record { scheme_ok = h.scheme_ok; n_ok = h.n_ok; some = p; most = omega (arith, h.most); size = omega (arith, h.size) }

pub table_has : {s n d : ℕ} {t : List ℕ} → Table s n d t → Has s n d t
table_has T = record { scheme_ok = T.scheme_ok; n_ok = T.n_ok; some = T.some; most = T.most; size = omega (arith, T.size) }

pub interval_room : {s n g : ℕ} {t : List ℕ} → Interval s n g t → n ≤ g
interval_room {s} {n} {g} h = divisor_le n g h.has.some h.whole

pub interval_black : {s n g : ℕ} {t : List ℕ} → Interval s n g t → (allowed_scheme s ≡ true) × (allowed_n n ≡ true) × (1 ≤ g) × (g ≤ 65536) × (n ≤ g)
interval_black h = (h.has.scheme_ok, h.has.n_ok, h.has.some, h.has.most, interval_room h)

pub black_inside : {s n g p : ℕ} {t : List ℕ} → Interval s n g t → p ≡ position s n (black g) → p < length t
black_inside {s} {n} {g} h e =
    let a = allowed_scheme_is s h.has.scheme_ok in
    let b = black_position s n g g a.0 a.1 h.has.some (omega arith) h.whole in
    omega (arith, b.0, h.has.size)

pub tile_inside : {n g i p : ℕ} {t : List ℕ} → Interval 2 n g t → i ≤ lg n → p ≡ position 2 n (tile i g) → p < length t
tile_inside {n} {g} {i} h l e =
    let b = position_bound 2 n g (tile i g) (tile_named n g g i h.has.some (omega arith) h.whole l) in
    omega (arith, b, h.has.size)

pub tree_inside : {n l g p : ℕ} {t : List ℕ} → Chain n l g t → p ≡ position 3 n (tree l g) → p < length t
tree_inside {n} {l} {g} h e =
    let b = position_bound 3 n g (tree l g) (tree_named n g g l h.has.some (omega arith) h.whole) in
    omega (arith, b, h.has.size)

pub passes_by : (s n : ℕ) (t : List ℕ) (x : Name) {p : ℕ} {r : Bool} → p ≡ position s n x → r ≡ eqb (get_or t p 0) 1 → r ≡ passes s n t x
unfolding passes
passes_by s n t x e h = rw (← e) h

-- ---- the interval before

pub interval_number : {s n g : ℕ} {t : List ℕ} → Interval s n g t → suc (pred (g / n)) * n ≡ g
interval_number {s} {n} {g} h =
    let w = allowed_n_is n h.has.n_ok in
    block_number n g g w.some (record { some = h.has.some; most = omega arith; whole = h.whole })

-- before the first interval, and after each
pub prior_none : (s n : ℕ) (t : List ℕ) → true ≡ prior s n t (1 * n)
prior_none s n t = sym (prior_first s n t)

pub prior_turn : (s n k : ℕ) (t : List ℕ) {b : Bool} → 1 ≤ n → 1 ≤ k → b ≡ passes s n t (black (k * n)) → b ≡ prior s n t ((k + 1) * n)
prior_turn s n k t p o e =
    let q : k ≡ suc (k - 1) = omega arith in
    let v : k + 1 ≡ suc (suc (k - 1)) = omega arith in
    rw v (rw q at e ∙ sym (prior_next s n (k - 1) t p))

-- scheme 1: where black fails, or passes
pub black_failed : (s n g : ℕ) (t : List ℕ) → passes s n t (black g) ≡ false → s ≡ 1 → block_rule s n t g ≡ true
unfolding block_rule
black_failed s n g t f z = rw z (rw (rw z at f))

pub black_passed : (s n g : ℕ) (t : List ℕ) → passes s n t (black g) ≡ true → s ≡ 1 → block_rule s n t g ≡ prior s n t g
unfolding block_rule
black_passed s n g t f z = rw z (rw (rw z at f))

-- ---- two tests with the same answer

pub alike_is : (a b : Bool) → beq a b ≡ alike a b
alike_is true true = refl
alike_is true false = refl
alike_is false true = refl
alike_is false false = refl

-- ---- chains

pub chain_has : {n l g : ℕ} {t : List ℕ} → Chain n l g t → (allowed_n n ≡ true) × (1 ≤ g) × (g ≤ 65536) × (l ≤ 16)
chain_has h = (h.has.n_ok, h.has.some, h.has.most, h.level)

-- an interval's own chain
pub chain_own : {n g l : ℕ} {t : List ℕ} → Interval 3 n g t → l ≡ lg n → Chain n l g t
chain_own {n} {g} h e =
    let w = allowed_n_is n h.has.n_ok in
    record { has = h.has; whole = rw (e, ← w.power) h.whole; level = omega (arith, w.small) }

pub chain_right : {n l g : ℕ} {t : List ℕ} → Chain n (suc l) g t → Chain n l g t
chain_right {n} {l} {g} h = record { has = h.has; whole = divides_half l g h.whole; level = omega (arith, h.level) }

pub chain_point : {n l g : ℕ} {t : List ℕ} → Chain n (suc l) g t → (2 ^ l < g) × (divides (2 ^ l) (g - 2 ^ l) ≡ true)
chain_point {n} {l} {g} h =
    let j = pred (g / 2 ^ suc l) in
    let e = block_number (2 ^ suc l) g g (pow_pos (suc l)) (record { some = h.has.some; most = omega arith; whole = h.whole }) in
    let p = half_point j l in
    let q : g - 2 ^ l ≡ suc (j + j) * 2 ^ l = omega arith in
    let o : 1 ≤ suc (j + j) * 2 ^ l = mul-pos (omega arith) (pow_pos l) in
    (omega arith, rw q (divides_multiple (suc (j + j)) (2 ^ l) (pow_pos l)))

pub chain_left : {n l g : ℕ} {t : List ℕ} (m : ℕ) → Chain n (suc l) g t → m ≡ 2 ^ l → Chain n l (g - m) t
chain_left {n} {l} {g} m h e =
    let b = chain_point h in
    rw e (record { has = has_earlier (g - 2 ^ l) h.has (omega (arith, b.0)) (omega arith); whole = b.1; level = omega (arith, h.level) })

pub chain_room : {n l g : ℕ} {t : List ℕ} (m : ℕ) → Chain n (suc l) g t → m ≡ 2 ^ l → m ≤ g
chain_room m h e = let b = chain_point h in omega (arith, b.0)

-- ---- loops over a rule

pub every_turn : (p : ℕ → Bool) (x : ℕ) {r : Bool} → 1 ≤ x → every p (up_from 1 (x - 1)) ≡ true → r ≡ p x → r ≡ true → every p (up_from 1 (x + 1 - 1)) ≡ true
every_turn p x a h q f = let e : x + 1 - 1 ≡ suc (x - 1) = omega arith in let k : 1 + (x - 1) ≡ x = omega arith in rw e (every_more p 1 (x - 1) h (rw (k, ← q) f))

pub every_stop : (p : ℕ → Bool) (s m x : ℕ) {r : Bool} → s ≤ x → x < s + m → r ≡ p x → r ≡ false → false ≡ every p (up_from s m)
every_stop p s m x a b q f = sym (every_fails p (up_from s m) x (up_from_mem s m x a b) (sym q ∙ f))

pub every_done : (p : ℕ → Bool) (s i m : ℕ) → i ≤ m → m ≤ i → every p (up_from s i) ≡ true → true ≡ every p (up_from s m)
every_done p s i m a b h = let e : i ≡ m = omega arith in sym (rw e at h)

pub interval_end : (n d k : ℕ) → k ≤ d / n → k * n ≤ d
interval_end n d k l = le_trans (mul-le-mul_right n l) (div-mul-le_self d n)

-- an interval of the table, by its number
pub interval_of : {s n d : ℕ} {t : List ℕ} (k : ℕ) → Table s n d t → 1 ≤ k → k ≤ d / n → Interval s n (k * n) t
interval_of {s} {n} {d} k T p l =
    let w = allowed_n_is n T.n_ok in
    record { has = has_earlier (k * n) (table_has T) (mul-pos p w.some) (interval_end n d k l); whole = divides_multiple k n w.some }

pub chain_of_lem : {n d l w : ℕ} {t : List ℕ} (k : ℕ) → Table 3 n d t → w ≡ 2 ^ l → l ≤ 16 → 1 ≤ k → k ≤ d / w → Chain n l (k * w) t
chain_of_lem {n} {d} {l} {w} k T e h p q =
    let u : k * w ≤ d = interval_end w d k q in
    let o : 1 ≤ w = rw e (pow_pos l) in
    record { has = has_earlier (k * w) (table_has T) (mul-pos p o) u; whole = rw (← e) (divides_multiple k w o); level = h }

-- ---- by scheme

pub third : (s : ℕ) → allowed_scheme s ≡ true → (s ≡ 1 → ⊥) → (s ≡ 2 → ⊥) → s ≡ 3
third s a f h = let b = allowed_scheme_is s a in omega arith

pub weight_positive : (w l : ℕ) → w ≡ 2 ^ l → 0 < w
weight_positive w l e = rw e (pow_pos l)
