-- Laws of tests over lists and of runs of days.
use mathlib.Core.{Path.◌≡◌, Path.refl, Path.sym, Path.ap, Path.◌∙◌, Logic.◌⊎◌, Logic.inl, Logic.inr}
use mathlib.Core.Bool.{Bool, true, false, ◌||◌, cond, or-true, or_assoc}
use mathlib.Core.List.Memᴰ
use mathlib.Core.List.{List, [], ◌∷◌, ◌++◌, append-nil}
use Prim.Native.Nat.{ℕ, zero, suc, ◌+◌, ◌-◌, ◌*◌, ◌/◌, ◌%◌, ◌^◌, ◌≤◌, ◌<◌}
use native.Mathlib.{Nat.div-add-mod', Decide.ℕ_discrete, Omega.arith}
use lib.{Arith.digits_mod, ListN.length, Pow.field, Pow.mod-mod-pow}
use borrow.Author.Tests.{eqb-true, eq-eqb}
use Rattle.lists.specs.Lists.{◌among◌, has, keep, last_of}
use Rattle.evidence.specs.Evidence.{days, Within, meets}
use Rattle.lists.proofs.Laws.{split, up_from-append, mem_has, up_from_mem, up_from_bounds, has_keep, keep_append, up_from_snoc}
use Rattle.layouts.specs.Layouts.{divides, last_days}

-- ---- some

abbrev pub some : (ℕ → Bool) → List ℕ → Bool
some p [] = false
some p (x ∷ xs) = p x || some p xs

pub some_append : (p : ℕ → Bool) (xs ys : List ℕ) → some p (xs ++ ys) ≡ some p xs || some p ys
some_append p [] ys = refl
some_append p (x ∷ xs) ys = rw (some_append p xs ys) (sym (or_assoc (p x) (some p xs) (some p ys)))

pub some_of : (p : ℕ → Bool) {g : ℕ} {xs : List ℕ} → g among xs → p g ≡ true → some p xs ≡ true
some_of p (Memᴰ.head {x = x} {xs = xs} e) h = rw (← e, h)
some_of p (Memᴰ.tail {x = x} {xs = xs} m) h = rw (some_of p m h) (or-true (p x))

pub some_none : (p : ℕ → Bool) (xs : List ℕ) → ((g : ℕ) → g among xs → p g ≡ false) → some p xs ≡ false
some_none p [] f = refl
some_none p (x ∷ xs) f = rw (f x (Memᴰ.head refl), some_none p xs (λ g m. f g (Memᴰ.tail m)))

pub some_same : (p : ℕ → Bool) (b : Bool) (x : ℕ) (xs : List ℕ) → ((g : ℕ) → g among (x ∷ xs) → p g ≡ b) → some p (x ∷ xs) ≡ b
some_same p true x xs f = some_of p {g = x} {xs = x ∷ xs} (Memᴰ.head refl) (f x (Memᴰ.head refl))
some_same p false x xs f = some_none p (x ∷ xs) f

-- days of 1 to d that pass a test, met by a chain
pub meets_keep : (p : ℕ → Bool) (d : ℕ) (c : List ℕ) → Within d c → meets (keep p (days d)) c ≡ some p c
meets_keep p d [] w = refl
meets_keep p d (g ∷ c) w =
    let b = w g (Memᴰ.head refl) in
    rw (has_keep p (days d) g, mem_has (up_from_mem 1 d g b.0 (omega (arith, b.1))), meets_keep p d c (λ x m. w x (Memᴰ.tail m)))

pub meets_append : (S a b : List ℕ) → meets S (a ++ b) ≡ meets S a || meets S b
meets_append S [] b = refl
meets_append S (x ∷ a) b = rw (meets_append S a b) (sym (or_assoc (has x S) (meets S a) (meets S b)))

-- ---- keep

pub keep_all : (p : ℕ → Bool) (xs : List ℕ) → ((g : ℕ) → g among xs → p g ≡ true) → keep p xs ≡ xs
keep_all p [] f = refl
keep_all p (x ∷ xs) f = rw (f x (Memᴰ.head refl), keep_all p xs (λ g m. f g (Memᴰ.tail m)))

pub keep_none : (p : ℕ → Bool) (xs : List ℕ) → ((g : ℕ) → g among xs → p g ≡ false) → keep p xs ≡ []
keep_none p [] f = refl
keep_none p (x ∷ xs) f = rw (f x (Memᴰ.head refl), keep_none p xs (λ g m. f g (Memᴰ.tail m)))

pub keep_length : (p : ℕ → Bool) (xs : List ℕ) → length (keep p xs) ≤ length xs
keep_length p [] = omega arith
keep_length p (x ∷ xs) = let h = keep_length p xs in elim (split (p x)) [ inl e ↦ rw e (omega arith) | inr e ↦ rw e (omega arith) ]

-- ---- runs

-- the a + b days that end at g: a days, then b days
pub last_days_split : (a b g : ℕ) → a + b ≤ g → last_days (a + b) g ≡ last_days a (g - b) ++ last_days b g
last_days_split a b g l =
    let e : suc (g - b - a) ≡ suc (g - (a + b)) = omega arith in
    let f : suc (g - (a + b)) + a ≡ suc (g - b) = omega arith in
    rw (e, up_from-append (suc (g - (a + b))) a b, f)

pub last_days_days : (g : ℕ) → last_days g g ≡ days g
last_days_days g = let e : suc (g - g) ≡ 1 = omega arith in rw e

pub last_days_bounds : (k g x : ℕ) → k ≤ g → x among last_days k g → (g - k < x) × (x ≤ g)
last_days_bounds k g x l m = let b = up_from_bounds (suc (g - k)) k x m in omega arith

pub last_days_mem : (k g x : ℕ) → k ≤ g → g - k < x → x ≤ g → x among last_days k g
last_days_mem k g x l a b = up_from_mem (suc (g - k)) k x a (omega arith)

pub days_bounds : (d g : ℕ) → g among days d → (1 ≤ g) × (g ≤ d)
days_bounds d g m = let b = up_from_bounds 1 d g m in omega arith

-- ---- bits

-- bit j is a matter of the part below 2^k
pub bit_low : (x k j : ℕ) → j < k → x % 2 ^ k / 2 ^ j % 2 ≡ x / 2 ^ j % 2
bit_low x k j l =
    let e : k - suc j + suc j ≡ k = omega arith in
    let f : 1 + j ≡ suc j = omega arith in
    let m : x % 2 ^ k % 2 ^ suc j ≡ x % 2 ^ suc j = ap (λ (y : ℕ). x % 2 ^ y % 2 ^ suc j) (sym e) ∙ mod-mod-pow x (k - suc j) (suc j) in
    let a : x % 2 ^ suc j / 2 ^ j ≡ x / 2 ^ j % 2 = ap (λ (y : ℕ). x % 2 ^ y / 2 ^ j) (sym f) ∙ field x 1 j in
    let b : x % 2 ^ k % 2 ^ suc j / 2 ^ j ≡ x % 2 ^ k / 2 ^ j % 2 = ap (λ (y : ℕ). x % 2 ^ k % 2 ^ y / 2 ^ j) (sym f) ∙ field (x % 2 ^ k) 1 j in
    sym b ∙ ap (λ (y : ℕ). y / 2 ^ j) m ∙ a

-- ---- multiples

pub div_whole : (n d : ℕ) → divides n d ≡ true → d / n * n ≡ d
div_whole n d e = let w = div-add-mod' d n in omega (arith, eqb-true (d % n) 0 e)

pub divides_multiple : (k n : ℕ) → 1 ≤ n → divides n (k * n) ≡ true
divides_multiple k n p = let e : k * n ≡ k * n + 0 = omega arith in eq-eqb (k * n % n) 0 (rw e (digits_mod k p))

-- ---- the last that passes a test

last_append : (z : ℕ) (xs : List ℕ) (x : ℕ) → last_of z (xs ++ (x ∷ [])) ≡ x
last_append z [] x = refl
last_append z (y ∷ xs) x = last_append y xs x

pub last_keep : (p : ℕ → Bool) (d g : ℕ) → g ≤ d → ((g ≡ 0) ⊎ (p g ≡ true)) → ((x : ℕ) → g < x → x ≤ d → p x ≡ false) → last_of 0 (keep p (days d)) ≡ g
last_keep p zero g l a f = omega arith
last_keep p (suc d) g l a f =
    let s : 1 + d ≡ suc d = omega arith in
    let last : last_of 0 (keep p (days d) ++ cond (p (1 + d)) ((1 + d) ∷ []) []) ≡ g = elim (ℕ_discrete g (suc d)) [
      | yes e ↦ let h : p (1 + d) ≡ true = elim a [ inl z ↦ absurd (omega arith) | inr t ↦ rw (s, ← e) t ] in rw h (last_append 0 (keep p (days d)) (1 + d) ∙ s ∙ sym e)
      | no h ↦ let q : p (1 + d) ≡ false = ap p s ∙ f (suc d) (omega arith) (omega arith) in
          rw (q, append-nil) (last_keep p d g (omega arith) a (λ x k m. f x k (omega arith)))
    ] in
    ap (λ r. last_of 0 (keep p r)) (up_from_snoc 1 d) ∙ ap (last_of 0) (keep_append p (days d) ((1 + d) ∷ [])) ∙ last
