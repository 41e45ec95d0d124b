-- Sums over lists; over the sets of two and of three numbers, from sums over pairs and triples.
use mathlib.Core.{Path.◌≡◌, Path.refl, Path.sym, Path.ap, Path.◌∙◌}
use mathlib.Core.Bool.{Bool, true, false, ◌||◌}
use mathlib.Core.List.Memᴰ
use mathlib.Core.List.{List, [], ◌∷◌, ◌++◌, map}
use Prim.Native.Nat.{ℕ, zero, suc, ◌+◌, ◌*◌}
use native.Mathlib.{Nat.suc-mul, Omega.arith}
use lib.{Dec.eqb, ListN.length}
use Rattle.lists.specs.Lists.{◌among◌, has, up_from}
use Rattle.ambiguity.specs.Ambiguity.{sets_of, sum_over}

-- ---- sums

pub sum_append : {A : Type 0} (f : A → ℕ) (xs ys : List A) → sum_over f (xs ++ ys) ≡ sum_over f xs + sum_over f ys
sum_append f [] ys = omega arith
sum_append f (x ∷ xs) ys = let e = sum_append f xs ys in omega arith

sum_map : {A B : Type 0} (f : B → ℕ) (g : A → B) (xs : List A) → sum_over f (map g xs) ≡ sum_over (λ x. f (g x)) xs
sum_map f g [] = refl
sum_map f g (x ∷ xs) = ap (λ r. f (g x) + r) (sum_map f g xs)

pub sum_congr : {A : Type 0} (f g : A → ℕ) (xs : List A) → ((x : A) → x among xs → f x ≡ g x) → sum_over f xs ≡ sum_over g xs
sum_congr f g [] h = refl
sum_congr f g (x ∷ xs) h = let e = h x (Memᴰ.head refl) in let r = sum_congr f g xs (λ y m. h y (Memᴰ.tail m)) in omega arith

pub sum_both : {A : Type 0} (f g : A → ℕ) (xs : List A) → sum_over (λ x. f x + g x) xs ≡ sum_over f xs + sum_over g xs
sum_both f g [] = refl
sum_both f g (x ∷ xs) = let e = sum_both f g xs in omega arith

pub sum_scale : {A : Type 0} (c : ℕ) (f : A → ℕ) (xs : List A) → sum_over (λ x. c * f x) xs ≡ c * sum_over f xs
sum_scale c f [] = omega arith
sum_scale c f (x ∷ xs) = let e = sum_scale c f xs in omega arith

pub sum_same : {A : Type 0} (c : ℕ) (xs : List A) → sum_over (λ x. c) xs ≡ length xs * c
sum_same c [] = omega arith
sum_same c (x ∷ xs) = let e = sum_same c xs in let s = suc-mul (length xs) c in omega arith

-- k numbers from b + i on
pub sum_later : (f : ℕ → ℕ) (b i k : ℕ) → sum_over f (up_from (b + i) k) ≡ sum_over (λ x. f (b + x)) (up_from i k)
sum_later f b i zero = refl
sum_later f b i (suc k) = let e : b + suc i ≡ suc (b + i) = omega arith in ap (λ r. f (b + i) + r) (ap (λ y. sum_over f (up_from y k)) (sym e) ∙ sum_later f b (suc i) k)

-- ---- over the sets of k

sets_cons : (W : List ℕ → ℕ) (k x : ℕ) (xs : List ℕ) → sum_over W (sets_of (suc k) (x ∷ xs)) ≡ sum_over (λ S. W (x ∷ S)) (sets_of k xs) + sum_over W (sets_of (suc k) xs)
sets_cons W k x xs =
    sum_append W (map (λ S. x ∷ S) (sets_of k xs)) (sets_of (suc k) xs) ∙ ap (λ r. r + sum_over W (sets_of (suc k) xs)) (sum_map W (λ S. x ∷ S) (sets_of k xs))

pub sets_one : (W : List ℕ → ℕ) (xs : List ℕ) → sum_over W (sets_of 1 xs) ≡ sum_over (λ x. W (x ∷ [])) xs
sets_one W [] = refl
sets_one W (x ∷ xs) = let a = sets_cons W 0 x xs in let b = sets_one W xs in omega arith

-- ---- from pairs and triples, of a number that goes by the members alone

abbrev pub ByMembers : (List ℕ → ℕ) → Type 0
ByMembers W = (S T : List ℕ) → ((x : ℕ) → has x S ≡ has x T) → W S ≡ W T

by_more : (W : List ℕ → ℕ) (a : ℕ) → ByMembers W → ByMembers (λ S. W (a ∷ S))
by_more W a b S T h = b (a ∷ S) (a ∷ T) (λ x. ap (λ r. eqb x a || r) (h x))

abbrev pub pairs_over : (List ℕ → ℕ) → List ℕ → ℕ
pairs_over W xs = sum_over (λ x. sum_over (λ y. W (y ∷ x ∷ [])) xs) xs

abbrev pub triples_over : (List ℕ → ℕ) → List ℕ → ℕ
triples_over W xs = sum_over (λ x. sum_over (λ y. sum_over (λ z. W (z ∷ y ∷ x ∷ [])) xs) xs) xs

swap : (p q : Bool) → p || (q || false) ≡ q || (p || false)
swap true true = refl
swap true false = refl
swap false true = refl
swap false false = refl

once : (p q : Bool) → p || (p || q) ≡ p || q
once true q = refl
once false q = refl

pub pairs : (W : List ℕ → ℕ) → ByMembers W → (xs : List ℕ) → pairs_over W xs ≡ sum_over (λ x. W (x ∷ [])) xs + 2 * sum_over W (sets_of 2 xs)
pairs W b [] = refl
pairs W b (a ∷ xs) =
    let p = pairs W b xs in
    let c = sets_cons W 1 a xs in
    let d = sets_one (λ S. W (a ∷ S)) xs in
    let e = sum_both (λ x. W (a ∷ x ∷ [])) (λ x. sum_over (λ y. W (y ∷ x ∷ [])) xs) xs in
    let f = sum_congr (λ y. W (y ∷ a ∷ [])) (λ y. W (a ∷ y ∷ [])) xs (λ y m. b (y ∷ a ∷ []) (a ∷ y ∷ []) (λ x. swap (eqb x y) (eqb x a))) in
    let g = b (a ∷ a ∷ []) (a ∷ []) (λ x. once (eqb x a) false) in
    omega arith

-- which of three are the same does not matter, nor their order
front : (p q : Bool) → p || (q || (q || false)) ≡ q || (p || false)
front true true = refl
front true false = refl
front false true = refl
front false false = refl

ends : (p q : Bool) → p || (q || (p || false)) ≡ p || (q || false)
ends true q = refl
ends false true = refl
ends false false = refl

first : (p q r : Bool) → p || (q || (r || false)) ≡ q || (p || (r || false))
first true true r = refl
first true false r = refl
first false true r = refl
first false false r = refl

last : (p q r : Bool) → p || (q || (r || false)) ≡ r || (p || (q || false))
last true q true = refl
last true q false = refl
last false true true = refl
last false true false = refl
last false false r = refl

pub triples : (W : List ℕ → ℕ) → ByMembers W → (xs : List ℕ) →
    triples_over W xs ≡ sum_over (λ x. W (x ∷ [])) xs + 6 * sum_over W (sets_of 2 xs) + 6 * sum_over W (sets_of 3 xs)
triples W b [] = refl
triples W b (a ∷ xs) =
    let t = triples W b xs in
    let p = pairs (λ S. W (a ∷ S)) (by_more W a b) xs in
    let two = sets_cons W 1 a xs in
    let one = sets_one (λ S. W (a ∷ S)) xs in
    let three = sets_cons W 2 a xs in
    -- a in all three places
    let aaa = b (a ∷ a ∷ a ∷ []) (a ∷ []) (λ x. once (eqb x a) (eqb x a || false) ∙ once (eqb x a) false) in
    -- in two
    let zaa = sum_congr (λ z. W (z ∷ a ∷ a ∷ [])) (λ z. W (a ∷ z ∷ [])) xs (λ z m. b (z ∷ a ∷ a ∷ []) (a ∷ z ∷ []) (λ x. front (eqb x z) (eqb x a))) in
    let aya = sum_congr (λ y. W (a ∷ y ∷ a ∷ [])) (λ y. W (a ∷ y ∷ [])) xs (λ y m. b (a ∷ y ∷ a ∷ []) (a ∷ y ∷ []) (λ x. ends (eqb x a) (eqb x y))) in
    let aax = sum_congr (λ y. W (a ∷ a ∷ y ∷ [])) (λ y. W (a ∷ y ∷ [])) xs (λ y m. b (a ∷ a ∷ y ∷ []) (a ∷ y ∷ []) (λ x. once (eqb x a) (eqb x y || false))) in
    -- in one
    let zya = sum_congr (λ y. sum_over (λ z. W (z ∷ y ∷ a ∷ [])) xs) (λ y. sum_over (λ z. W (a ∷ z ∷ y ∷ [])) xs) xs
    (λ y m. sum_congr (λ z. W (z ∷ y ∷ a ∷ [])) (λ z. W (a ∷ z ∷ y ∷ [])) xs (λ z k. b (z ∷ y ∷ a ∷ []) (a ∷ z ∷ y ∷ []) (λ x. last (eqb x z) (eqb x y) (eqb x a)))) in
    let zax = sum_congr (λ y. sum_over (λ z. W (z ∷ a ∷ y ∷ [])) xs) (λ y. sum_over (λ z. W (a ∷ z ∷ y ∷ [])) xs) xs
    (λ y m. sum_congr (λ z. W (z ∷ a ∷ y ∷ [])) (λ z. W (a ∷ z ∷ y ∷ [])) xs (λ z k. b (z ∷ a ∷ y ∷ []) (a ∷ z ∷ y ∷ []) (λ x. first (eqb x z) (eqb x a) (eqb x y)))) in
    -- the sums taken apart
    let inner = sum_both (λ y. W (a ∷ y ∷ a ∷ [])) (λ y. sum_over (λ z. W (z ∷ y ∷ a ∷ [])) xs) xs in
    let rest = sum_congr (λ x. W (a ∷ a ∷ x ∷ []) + sum_over (λ z. W (z ∷ a ∷ x ∷ [])) xs + sum_over (λ y. W (a ∷ y ∷ x ∷ []) + sum_over (λ z. W (z ∷ y ∷ x ∷ [])) xs) xs)
    (λ x. W (a ∷ a ∷ x ∷ []) + sum_over (λ z. W (z ∷ a ∷ x ∷ [])) xs + (sum_over (λ y. W (a ∷ y ∷ x ∷ [])) xs + sum_over (λ y. sum_over (λ z. W (z ∷ y ∷ x ∷ [])) xs) xs)) xs
    (λ x m. ap (λ r. W (a ∷ a ∷ x ∷ []) + sum_over (λ z. W (z ∷ a ∷ x ∷ [])) xs + r) (sum_both (λ y. W (a ∷ y ∷ x ∷ [])) (λ y. sum_over (λ z. W (z ∷ y ∷ x ∷ [])) xs) xs)) in
    let outer = sum_both (λ x. W (a ∷ a ∷ x ∷ []) + sum_over (λ z. W (z ∷ a ∷ x ∷ [])) xs)
    (λ x. sum_over (λ y. W (a ∷ y ∷ x ∷ [])) xs + sum_over (λ y. sum_over (λ z. W (z ∷ y ∷ x ∷ [])) xs) xs) xs in
    let low = sum_both (λ x. W (a ∷ a ∷ x ∷ [])) (λ x. sum_over (λ z. W (z ∷ a ∷ x ∷ [])) xs) xs in
    let high = sum_both (λ x. sum_over (λ y. W (a ∷ y ∷ x ∷ [])) xs) (λ x. sum_over (λ y. sum_over (λ z. W (z ∷ y ∷ x ∷ [])) xs) xs) xs in
    omega arith
