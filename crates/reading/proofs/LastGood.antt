-- Last good: of a table that a set gives it is the last day that n divides with no day of the set before it or on it; of a
-- changed table, by its first listed day, a division.
use mathlib.Core.{Path.◌≡◌, Path.refl, Path.sym, Path.ap, Path.◌∙◌, Logic.inl, Logic.inr}
use mathlib.Core.Bool.{Bool, true, false, not, ◌&&◌, ◌||◌, cond, and-false, or-true}
use mathlib.Core.List.Memᴰ
use mathlib.Core.List.{List, [], ◌∷◌, map}
use Prim.Native.Nat.{ℕ, suc, ◌+◌, ◌-◌, ◌*◌, ◌/◌, ◌≤◌, ◌<◌}
use native.Mathlib.{Nat.mul-le-mul_right, Nat.div-mul-le_self, Nat.suc-mul, Nat.div-add-mod', Nat.mod-lt, Decide.dec_lt}
use native.Mathlib.Omega.{arith}
use lib.Dec.{eqb}
use Rattle.lists.specs.Lists.{◌among◌, keep, Ascends, last_of}
use Rattle.evidence.specs.Evidence.{days, meets, set_outcome, table_of, Gives, listing}
use Rattle.lists.proofs.Laws.{split, keep_congr}
use Rattle.evidence.proofs.TableLaws.{meets_of, meets_day, gives_listing, listing_within, listing_ascends}
use Rattle.layouts.specs.Layouts.{divides, Name, last_days, covered_days, names_through, chains, black_at}
use Rattle.reading.specs.Numbers.{black_passes, last_good_day}
use Rattle.layouts.proofs.Coverage.{names_through_in}
use Rattle.acceptance.proofs.BlackLaws.{black_last, black_cover}
use Rattle.acceptance.proofs.Runs.{last_keep, last_days_mem, last_days_bounds, days_bounds, divides_multiple, div_whole}

-- n divides day g, and S has no day of 1 to g
abbrev pub good_day : ℕ → List ℕ → ℕ → Bool
good_day n S g = divides n g && not (meets S (last_days g g))

abbrev is_black : ℕ → List Name → Bool
is_black g [] = false
is_black g (x ∷ xs) = black_at g x || is_black g xs

black_by : (n g : ℕ) (S : List ℕ) (xs : List Name) → black_passes g xs (map (set_outcome S) (map (covered_days n) xs)) ≡ is_black g xs && not (meets S (last_days g g))
black_by n g S [] = refl
black_by n g S (x ∷ xs) = rw (black_by n g S xs) (elim (split (black_at g x)) [ inl e ↦ rw (e, black_cover n g x e) (flip (meets S (last_days g g)) (is_black g xs)) | inr e ↦ rw e ])
  where
    flip : (m r : Bool) → eqb (cond m 0 1) 1 || (r && not m) ≡ not m
    flip true r = and-false r
    flip false r = refl

is_black_lem : (g : ℕ) {x : Name} {xs : List Name} → x among xs → black_at g x ≡ true → is_black g xs ≡ true
is_black_lem g (Memᴰ.head {x = y} {xs = ys} e) h = rw (← e, h)
is_black_lem g (Memᴰ.tail {x = y} {xs = ys} m) h = rw (is_black_lem g m h) (or-true (black_at g y))

names_through_black : (s n d g : ℕ) → 1 ≤ s → s ≤ 3 → g among days d → divides n g ≡ true → is_black g (names_through s n d) ≡ true
names_through_black s n d g a b m e =
    let k = days_bounds d g m in
    let r = black_last s n g a b k.0 e in
    is_black_lem g (names_through_in s n d m r.1 (rw r.2 (Memᴰ.append_right r.0 (Memᴰ.head refl)))) r.3

-- last good of the table that S gives
pub good_given : (s n d : ℕ) (S t : List ℕ) → 1 ≤ s → s ≤ 3 → Gives (chains s n d) d S t → last_good_day s n d t ≡ last_of 0 (keep (good_day n S) (days d))
unfolding last_good_day chains table_of
good_given s n d S t a b h =
    ap (last_of 0) (keep_congr (λ g. divides n g && black_passes g (names_through s n d) t) (good_day n S) (days d) (λ g m. elim (split (divides n g)) [
      | inl e ↦ rw e (ap (black_passes g (names_through s n d)) (sym h.gives) ∙ black_by n g S (names_through s n d) ∙ rw (names_through_black s n d g a b m e))
      | inr e ↦ rw e
    ]))

-- ---- by the first listed day

ascends_bound : (i : ℕ) (xs : List ℕ) → Ascends i xs → (x : ℕ) → x among xs → i ≤ x
ascends_bound i [] a x m = elim m [ ]
ascends_bound i (y ∷ ys) a x m = elim (Memᴰ.cases_cons m) [ inl e ↦ omega (arith, a.0) | inr k ↦ omega (arith, a.0, ascends_bound (suc y) ys a.1 x k) ]

first_least : (g : ℕ) (gs : List ℕ) → Ascends 1 (g ∷ gs) → (x : ℕ) → x among (g ∷ gs) → g ≤ x
first_least g gs a x m = elim (Memᴰ.cases_cons m) [ inl e ↦ omega arith | inr k ↦ omega (arith, ascends_bound (suc g) gs a.1 x k) ]

last_first : (n d g : ℕ) (gs : List ℕ) → 1 ≤ n → 1 ≤ g → g ≤ d → Ascends 1 (g ∷ gs) → last_of 0 (keep (good_day n (g ∷ gs)) (days d)) ≡ (g - 1) / n * n
last_first n d g gs p o l a = last_keep (good_day n L) d z (omega (arith, below))
    (elim (dec_lt 0 z) [ yes h ↦ inr (rw (divides_multiple ((g - 1) / n) n p, none)) | no h ↦ inl (omega arith) ])
    (λ x h k. elim (split (divides n x)) [ inl e ↦ let b = beyond x h e in rw (e, hit x (omega (arith, next))) | inr e ↦ rw e ])
  where
    L : List ℕ
    L = g ∷ gs

    z : ℕ
    z = (g - 1) / n * n

    below : z ≤ g - 1
    below = div-mul-le_self (g - 1) n

    next : g - 1 < z + n
    next = let w = div-add-mod' (g - 1) n in let r = mod-lt (g - 1) p in omega arith

    none : meets L (last_days z z) ≡ false
    none = elim (split (meets L (last_days z z))) [
      | inl e ↦ let r = meets_day L (last_days z z) e in
          let u = last_days_bounds z z r.0 (omega arith) r.1 in
          absurd (omega (arith, below, first_least g gs a r.0 r.2))
      | inr e ↦ e
    ]

    beyond : (x : ℕ) → z < x → divides n x ≡ true → z + n ≤ x
    beyond x h e = let w = div_whole n x e in elim (dec_lt ((g - 1) / n) (x / n)) [
      | yes u ↦ let v = mul-le-mul_right n u in let s = suc-mul ((g - 1) / n) n in omega arith
      | no u ↦ let c : x / n ≤ (g - 1) / n = omega arith in let v = mul-le-mul_right n c in absurd (omega arith)
    ]

    hit : (x : ℕ) → g ≤ x → meets L (last_days x x) ≡ true
    hit x h = meets_of L (last_days x x) g (last_days_mem x x g (omega arith) (omega (arith, o)) h) (Memᴰ.head refl)

-- last good of a changed table
pub good_first : (s n d : ℕ) (S t : List ℕ) (g : ℕ) (gs : List ℕ) → 1 ≤ s → s ≤ 3 → 1 ≤ n → Gives (chains s n d) d S t → listing (chains s n d) d t ≡ g ∷ gs →
    last_good_day s n d t ≡ (g - 1) / n * n
good_first s n d S t g gs a b p h e =
    let w = listing_within (chains s n d) d t g (rw e (Memᴰ.head refl)) in
    good_given s n d (listing (chains s n d) d t) t a b (gives_listing (chains s n d) d S t h) ∙
    rw e (last_first n d g gs p w.0 w.1 (rw e at (listing_ascends (chains s n d) d t)))
