-- Laws of lists of numbers: membership, tests, runs, the numbers that pass a test.
use mathlib.Core.{Path.◌≡◌, Path.refl, Path.sym, Path.ap, Path.◌∙◌, Logic.◌⊎◌, Logic.inl, Logic.inr}
use mathlib.Core.Bool.{Bool, true, false, ◌&&◌, ◌||◌, and_assoc}
use mathlib.Core.List.Memᴰ
use mathlib.Core.List.{List, [], ◌∷◌, ◌++◌, map, flat_map, append_assoc, append-nil}
use Prim.Native.Nat.{ℕ, zero, suc, ◌+◌, ◌≤◌, ◌<◌}
use native.Mathlib.{Nat.add-zero, Nat.eq-or-lt_of_le, Decide.dec_lt, Omega.arith}
use lib.{Dec.eqb, Dec.leb, ListN.length, ListN.get_or, ListN.take, Seq.length-take-le, Seq.take_all}
use borrow.Author.Tests.{eqb-true, eq-eqb, ne_eqb, leb-true, leb-false, le-leb}
use Rattle.lists.specs.Lists.{◌among◌, has, same, every, up_from, keep, Ascends, joined}

-- ---- Booleans

-- a test, split, with what is known in each case
pub split : (b : Bool) → (b ≡ true) ⊎ (b ≡ false)
split true = inl refl
split false = inr refl

pub true_or_false : {b : Bool} → b ≡ true → b ≡ false → ⊥
true_or_false {b} p q = let z : ◌≡◌ {A = ℕ} 0 1 = cc in omega arith

pub or_split : (a b : Bool) → a || b ≡ true → (a ≡ true) ⊎ (b ≡ true)
or_split true b e = inl refl
or_split false b e = inr e

pub or_left : (a b : Bool) → a ≡ true → a || b ≡ true
or_left a b e = rw e

pub or_right : (a b : Bool) → b ≡ true → a || b ≡ true
or_right true b e = refl
or_right false b e = e

-- two tests with the same answer
pub bool_ext : (a b : Bool) → (a ≡ true → b ≡ true) → (b ≡ true → a ≡ true) → a ≡ b
bool_ext true b f g = sym (f refl)
bool_ext false true f g = g refl
bool_ext false false f g = refl

-- ---- the test of membership

pub has_mem : (g : ℕ) (xs : List ℕ) → has g xs ≡ true → g among xs
has_mem g [] e = absurd (true_or_false e refl)
has_mem g (x ∷ xs) e = elim (or_split (eqb g x) (has g xs) e) [ inl h ↦ Memᴰ.head (eqb-true g x h) | inr h ↦ Memᴰ.tail (has_mem g xs h) ]

pub mem_has : {g : ℕ} {xs : List ℕ} → g among xs → has g xs ≡ true
mem_has {g} (Memᴰ.head {x = x} {xs = xs} e) = or_left (eqb g x) (has g xs) (eq-eqb g x e)
mem_has {g} (Memᴰ.tail {x = x} {xs = xs} m) = or_right (eqb g x) (has g xs) (mem_has m)

-- ---- the test of equality of two lists

pub and_both : (a b : Bool) → a && b ≡ true → (a ≡ true) × (b ≡ true)
and_both true b e = (refl, e)
and_both false b e = absurd (true_or_false e refl)

pub same_eq : (xs ys : List ℕ) → same xs ys ≡ true → xs ≡ ys
same_eq [] [] e = refl
same_eq [] (y ∷ ys) e = absurd (true_or_false e refl)
same_eq (x ∷ xs) [] e = absurd (true_or_false e refl)
same_eq (x ∷ xs) (y ∷ ys) e =
    let b : (eqb x y ≡ true) × (same xs ys ≡ true) = and_both (eqb x y) (same xs ys) e in
    cc (eqb-true x y b.0, same_eq xs ys b.1)

pub same_refl : (xs : List ℕ) → same xs xs ≡ true
same_refl [] = refl
same_refl (x ∷ xs) = rw (eq-eqb x x refl, same_refl xs)

pub eq_same : (xs ys : List ℕ) → xs ≡ ys → same xs ys ≡ true
eq_same xs ys e = rw e (same_refl ys)

-- ---- n numbers from i on

pub get_d_mem : {A : Type 0} (l : List A) (i : ℕ) (z : A) → i < length l → get_or l i z among l
get_d_mem [] i z h = absurd (omega arith)
get_d_mem (x ∷ l) zero z h = Memᴰ.head refl
get_d_mem (x ∷ l) (suc i) z h = Memᴰ.tail (get_d_mem l i z (omega arith))

pub up_from_mem : (i n g : ℕ) → i ≤ g → g < i + n → g among up_from i n
up_from_mem i zero g a b = absurd (omega arith)
up_from_mem i (suc n) g a b = elim (eq-or-lt_of_le a) [ inl e ↦ Memᴰ.head (sym e) | inr l ↦ Memᴰ.tail (up_from_mem (suc i) n g l (omega arith)) ]

pub up_from_bounds : (i n g : ℕ) → g among up_from i n → (i ≤ g) × (g < i + n)
up_from_bounds i zero g m = elim m [ ]
up_from_bounds i (suc n) g m = elim (Memᴰ.cases_cons m) [ inl e ↦ omega arith | inr h ↦ let b = up_from_bounds (suc i) n g h in omega arith ]

-- ---- the numbers that pass a test, in order

pub keep_mem : (p : ℕ → Bool) (xs : List ℕ) (g : ℕ) → g among keep p xs → (g among xs) × (p g ≡ true)
keep_mem p [] g m = elim m [ ]
keep_mem p (x ∷ xs) g m = elim (split (p x)) [
  | inl e ↦ elim (Memᴰ.cases_cons (rw e at m)) [ inl q ↦ (Memᴰ.head q, ap p q ∙ e) | inr h ↦ let r = keep_mem p xs g h in (Memᴰ.tail r.0, r.1) ]
  | inr e ↦ let r = keep_mem p xs g (rw e at m) in (Memᴰ.tail r.0, r.1)
]

pub mem_keep : (p : ℕ → Bool) (xs : List ℕ) (g : ℕ) → g among xs → p g ≡ true → g among keep p xs
mem_keep p [] g m e = elim m [ ]
mem_keep p (x ∷ xs) g m e = elim (split (p x)) [
  | inl q ↦ rw q (elim (Memᴰ.cases_cons m) [ inl h ↦ Memᴰ.head h | inr h ↦ Memᴰ.tail (mem_keep p xs g h e) ])
  | inr q ↦ rw q (elim (Memᴰ.cases_cons m) [ inl h ↦ absurd (true_or_false e (ap p h ∙ q)) | inr h ↦ mem_keep p xs g h e ])
]

pub keep_congr : (p q : ℕ → Bool) (xs : List ℕ) → ((g : ℕ) → g among xs → p g ≡ q g) → keep p xs ≡ keep q xs
keep_congr p q [] f = refl
keep_congr p q (x ∷ xs) f = rw (f x (Memᴰ.head refl), keep_congr p q xs (λ g m. f g (Memᴰ.tail m)))

pub keep_append : (p : ℕ → Bool) (xs ys : List ℕ) → keep p (xs ++ ys) ≡ keep p xs ++ keep p ys
keep_append p [] ys = refl
keep_append p (x ∷ xs) ys = elim (split (p x)) [ inl e ↦ rw (e, keep_append p xs ys) | inr e ↦ rw (e, keep_append p xs ys) ]

-- two tests, in either order
pub keep_keep : (p q : ℕ → Bool) (xs : List ℕ) → keep p (keep q xs) ≡ keep q (keep p xs)
keep_keep p q [] = refl
keep_keep p q (x ∷ xs) = let h = keep_keep p q xs in elim (split (p x)) [
  | inl a ↦ elim (split (q x)) [ inl b ↦ simp (a, b, h) | inr b ↦ simp (a, b, h) ]
  | inr a ↦ elim (split (q x)) [ inl b ↦ simp (a, b, h) | inr b ↦ simp (a, b, h) ]
]

pub ascends_later : (xs : List ℕ) (i j : ℕ) → i ≤ j → Ascends j xs → Ascends i xs
ascends_later [] i j l a = tt
ascends_later (x ∷ xs) i j l a = (omega (arith, a.0), a.1)

pub up_from_ascends : (i k : ℕ) → Ascends i (up_from i k)
up_from_ascends i zero = tt
up_from_ascends i (suc k) = (omega arith, up_from_ascends (suc i) k)

pub keep_ascends : (p : ℕ → Bool) (i n : ℕ) → Ascends i (keep p (up_from i n))
keep_ascends p i zero = tt
keep_ascends p i (suc n) = let a = keep_ascends p (suc i) n in
    elim (split (p i)) [ inl e ↦ rw e (omega arith, a) | inr e ↦ rw e (ascends_later (keep p (up_from (suc i) n)) i (suc i) (omega arith) a) ]

-- an ascending list is told by its members
abbrev pub is_in : List ℕ → ℕ → Bool
is_in S x = has x S

pub ascends_apart : (i : ℕ) (S : List ℕ) → Ascends (suc i) S → has i S ≡ false
ascends_apart i [] a = refl
ascends_apart i (y ∷ ys) a = rw (ne_eqb i y (λ e. absurd (omega (arith, a.0))), ascends_apart i ys (ascends_later ys (suc i) (suc y) (omega (arith, a.0)) a.1))

pub ascends_keep : (k i : ℕ) (S : List ℕ) → Ascends i S → ((x : ℕ) → x among S → x < i + k) → keep (is_in S) (up_from i k) ≡ S
ascends_keep zero i [] a b = refl
ascends_keep zero i (y ∷ ys) a b = absurd (omega (arith, a.0, b y (Memᴰ.head refl)))
ascends_keep (suc k) i [] a b = ascends_keep k (suc i) [] tt (λ x m. elim m [ ])
ascends_keep (suc k) i (y ∷ ys) a b = elim (dec_lt i y) [
  | yes h ↦ rw (ascends_apart i (y ∷ ys) (h, a.1)) (ascends_keep k (suc i) (y ∷ ys) (h, a.1) (λ x m. omega (arith, b x m)))
  | no h ↦ let e : i ≡ y = omega (arith, a.0) in
      rw (eq-eqb i y e) (ap (λ r. i ∷ r) (keep_congr (is_in (y ∷ ys)) (is_in ys) (up_from (suc i) k) (λ x m. later x (up_from_bounds (suc i) k x m).0 e) ∙
      ascends_keep k (suc i) ys (rw e a.1) (λ x m. omega (arith, b x (Memᴰ.tail m)))) ∙ ap (λ x. x ∷ ys) e)
]
  where
    later : (x : ℕ) → suc i ≤ x → i ≡ y → eqb x y || has x ys ≡ has x ys
    later x l e = rw (ne_eqb x y (λ q. absurd (omega arith)))

pub some_there : {x : ℕ} {xs : List ℕ} → x among xs → 1 ≤ length xs
some_there (Memᴰ.head {x = y} {xs = ys} e) = omega arith
some_there (Memᴰ.tail {x = y} {xs = ys} m) = omega arith

-- a list with no member is empty
pub no_mem : {A : Type 0} (xs : List A) → ((x : A) → x among xs → ⊥) → xs ≡ []
no_mem [] f = refl
no_mem (x ∷ xs) f = absurd (f x (Memᴰ.head refl))

pub mem_nil : {A : Type 0} {x : A} (xs : List A) → xs ≡ [] → x among xs → ⊥
mem_nil [] e m = elim m [ ]
mem_nil (y ∷ ys) e m = let z : ◌≡◌ {A = ℕ} 0 1 = cc in omega arith

pub map_same : {A B : Type 0} (f g : A → B) (xs : List A) → ((x : A) → x among xs → f x ≡ g x) → map f xs ≡ map g xs
map_same f g [] h = refl
map_same f g (x ∷ xs) h = cc (h x (Memᴰ.head refl), map_same f g xs (λ y m. h y (Memᴰ.tail m)))

-- ---- membership by arithmetic: what a program tests in place of a walk

pub and_of : (a b : Bool) → a ≡ true → b ≡ true → a && b ≡ true
and_of a b p q = rw (p, q)

pub has_keep : (p : ℕ → Bool) (xs : List ℕ) (x : ℕ) → has x (keep p xs) ≡ has x xs && p x
has_keep p xs x = bool_ext (has x (keep p xs)) (has x xs && p x)
    (λ e. let b = keep_mem p xs x (has_mem x (keep p xs) e) in and_of (has x xs) (p x) (mem_has b.0) b.1)
    (λ e. let b = and_both (has x xs) (p x) e in mem_has (mem_keep p xs x (has_mem x xs b.0) b.1))

-- ---- runs

pub length-up_from : (i n : ℕ) → length (up_from i n) ≡ n
length-up_from i zero = refl
length-up_from i (suc n) = ap suc (length-up_from (suc i) n)

pub up_from_snoc : (i k : ℕ) → up_from i (suc k) ≡ up_from i k ++ ((i + k) ∷ [])
up_from_snoc i zero = rw add-zero
up_from_snoc i (suc k) = let e : i + suc k ≡ suc i + k = omega arith in rw (e, up_from_snoc (suc i) k)

pub up_from-append : (i a b : ℕ) → up_from i (a + b) ≡ up_from i a ++ up_from (i + a) b
up_from-append i zero b = let e : 0 + b ≡ b = omega arith in let f : i + 0 ≡ i = omega arith in rw (e, f)
up_from-append i (suc a) b =
    let e : suc a + b ≡ suc (a + b) = omega arith in
    let f : i + suc a ≡ suc i + a = omega arith in
    rw (e, f, up_from-append (suc i) a b)

-- ---- every

pub every_at : (p : ℕ → Bool) {g : ℕ} {xs : List ℕ} → g among xs → every p xs ≡ true → p g ≡ true
every_at p (Memᴰ.head {x = x} {xs = xs} e) h = ap p e ∙ (and_both (p x) (every p xs) h).0
every_at p (Memᴰ.tail {x = x} {xs = xs} m) h = every_at p m (and_both (p x) (every p xs) h).1

pub every_of : (p : ℕ → Bool) (xs : List ℕ) → ((g : ℕ) → g among xs → p g ≡ true) → every p xs ≡ true
every_of p [] f = refl
every_of p (x ∷ xs) f = and_of (p x) (every p xs) (f x (Memᴰ.head refl)) (every_of p xs (λ g m. f g (Memᴰ.tail m)))

-- a test that fails somewhere
pub every_not : (p : ℕ → Bool) (xs : List ℕ) → every p xs ≡ false → (g : ℕ) × (g among xs) × (p g ≡ false)
every_not p [] e = absurd (true_or_false refl e)
every_not p (x ∷ xs) e = elim (split (p x)) [
  | inl h ↦ let r = every_not p xs (rw h at e) in (r.0, Memᴰ.tail r.1, r.2)
  | inr h ↦ (x, Memᴰ.head refl, h)
]

pub every_fails : (p : ℕ → Bool) (xs : List ℕ) (g : ℕ) → g among xs → p g ≡ false → every p xs ≡ false
every_fails p xs g m e = elim (split (every p xs)) [ inl h ↦ absurd (true_or_false (every_at p m h) e) | inr h ↦ h ]

pub every_append : (p : ℕ → Bool) (xs ys : List ℕ) → every p (xs ++ ys) ≡ every p xs && every p ys
every_append p [] ys = refl
every_append p (x ∷ xs) ys = rw (every_append p xs ys) (sym (and_assoc (p x) (every p xs) (every p ys)))

pub every_congr : (p q : ℕ → Bool) (xs : List ℕ) → ((x : ℕ) → p x ≡ q x) → every p xs ≡ every q xs
every_congr p q [] f = refl
every_congr p q (x ∷ xs) f = rw (f x, every_congr p q xs f)

pub every_map : (p : ℕ → Bool) (f : ℕ → ℕ) (xs : List ℕ) → every p (map f xs) ≡ every (λ x. p (f x)) xs
every_map p f [] = refl
every_map p f (x ∷ xs) = rw (every_map p f xs)

-- one more in a loop
pub every_more : (p : ℕ → Bool) (i k : ℕ) → every p (up_from i k) ≡ true → p (i + k) ≡ true → every p (up_from i (suc k)) ≡ true
every_more p i k e h = ap (every p) (up_from_snoc i k) ∙ every_append p (up_from i k) ((i + k) ∷ []) ∙ rw (e, h)

-- ---- lists end to end

pub joined_append : (xs ys : List (List ℕ)) → joined (xs ++ ys) ≡ joined xs ++ joined ys
unfolding joined
joined_append [] ys = refl
joined_append (x ∷ xs) ys = rw (joined_append xs ys, append_assoc)

pub joined_one : (x : List ℕ) (xs : List (List ℕ)) → joined (x ∷ xs) ≡ x ++ joined xs
unfolding joined
joined_one x xs = refl

pub joined_single : (x : List ℕ) → joined (x ∷ []) ≡ x
unfolding joined
joined_single x = append-nil x

pub flat_map_append : {A B : Type 0} (f : A → List B) (xs ys : List A) → flat_map f (xs ++ ys) ≡ flat_map f xs ++ flat_map f ys
unfolding flat_map
flat_map_append f [] ys = refl
flat_map_append f (x ∷ xs) ys = ap (λ r. f x ++ r) (flat_map_append f xs ys) ∙ sym (append_assoc (f x) (flat_map f xs) (flat_map f ys))

pub flat_map_mem : {A B : Type 0} (f : A → List B) {x : A} {xs : List A} → x among xs → (y : B) → y among f x → y among flat_map f xs
unfolding flat_map
flat_map_mem f (Memᴰ.head {x = z} {xs = zs} e) y m = Memᴰ.append_left (flat_map f zs) (rw e at m)
flat_map_mem f (Memᴰ.tail {x = z} {xs = zs} h) y m = Memᴰ.append_right (f z) (flat_map_mem f h y m)

pub flat_map_one : {A B : Type 0} (f : A → List B) (x : A) → flat_map f (x ∷ []) ≡ f x
unfolding flat_map
flat_map_one f x = append-nil (f x)

-- ---- as many as are needed

pub enough_read : (k : ℕ) (o : List ℕ) → leb k (length o) ≡ leb k (length (take k o))
enough_read k o = elim (split (leb k (length o))) [
  | inl e ↦ let m = length-take-le k o (leb-true k (length o) e) in e ∙ sym (le-leb k (length (take k o)) (omega arith))
  | inr e ↦ let m = leb-false k (length o) e in rw (take_all k o (omega arith))
]
