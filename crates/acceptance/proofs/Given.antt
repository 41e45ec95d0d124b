-- A table that a set gives meets the rules.
use mathlib.Core.{Path.◌≡◌, Path.refl, Path.sym, Path.ap, Path.◌∙◌, Logic.inl, Logic.inr, List.List, List.◌++◌}
use mathlib.Core.Bool.{Bool, true, false, not, ◌&&◌, ◌||◌, or-true}
use Prim.Native.Nat.{ℕ, zero, suc, ◌+◌, ◌-◌, ◌*◌, ◌/◌, ◌^◌, ◌≤◌}
use native.Mathlib.{Nat.le-div_iff_mul-le, Nat.mul-pos, Nat.suc-mul, Nat.zero-mul, Nat.pow-succ', Omega.arith}
use lib.{Dec.eqb, Pow.pow_pos}
use borrow.Author.Tests.{eqb-true, le-leb, lt-leb}
use Rattle.lists.specs.Lists.{◌among◌, up_from, keep, every}
use Rattle.evidence.specs.Evidence.{meets, Gives}
use Rattle.lists.proofs.Laws.{split, and_of, up_from_bounds, keep_mem, every_of}
use Rattle.evidence.proofs.TableLaws.{meets_of, meets_day}
use Rattle.layouts.specs.Layouts.{divides, lg, black, tile, tree, last_days, offset, covers, covered_days, chains}
use Rattle.layouts.proofs.{AllowedLaws.Power, Coverage.by_scheme, Positions.divides_half}
use Rattle.acceptance.specs.Private.{alike, passes, prior, tile_rule, block_rule, block_at, halves_rule, halves_at, level_rule, levels_rule, blocks_rule, rules}
use Rattle.acceptance.proofs.Runs.{meets_append, keep_all, last_days_split, divides_multiple}
use Rattle.acceptance.proofs.Lookup.{Block, gives_passes, gives_black, tile_named, tree_named}

-- ---- intervals: the k-th ends at k * n

pub block_of : (n d k : ℕ) → 1 ≤ n → k among up_from 1 (d / n) → Block n d (k * n)
block_of n d k p m =
    let b = up_from_bounds 1 (d / n) k m in
    record { some = mul-pos b.0 p; most = (le-div_iff_mul-le p).0 (omega arith); whole = divides_multiple k n p }

-- the days through an interval: those through the one before, and its own
pub block_split : (n k : ℕ) → last_days (suc k * n) (suc k * n) ≡ last_days (k * n) (k * n) ++ last_days n (suc k * n)
block_split n k =
    let e = suc-mul k n in
    let f : k * n + n - n ≡ k * n = omega arith in
    rw (e, last_days_split (k * n) n (k * n + n) (omega arith), f)

-- the halves of a tree's chain
pub half_point : (j l : ℕ) → suc j * 2 ^ suc l ≡ suc (j + j) * 2 ^ l + 2 ^ l
half_point j l = rw (pow-succ' 2 l) (omega arith)

pub half_split : (j l : ℕ) → last_days (2 ^ suc l) (suc j * 2 ^ suc l) ≡ last_days (2 ^ l) (suc j * 2 ^ suc l - 2 ^ l) ++ last_days (2 ^ l) (suc j * 2 ^ suc l)
half_split j l =
    let e : 2 ^ suc l ≡ 2 ^ l + 2 ^ l = let p = pow-succ' 2 l in omega arith in
    let h = half_point j l in
    let s = suc-mul (j + j) (2 ^ l) in
    ap (λ x. last_days x (suc j * 2 ^ suc l)) e ∙ last_days_split (2 ^ l) (2 ^ l) (suc j * 2 ^ suc l) (omega arith)

pub prior_first : (s n : ℕ) (t : List ℕ) → prior s n t (1 * n) ≡ true
unfolding prior
prior_first s n t = let e : 1 * n ≤ n = omega arith in rw (le-leb (1 * n) n e)

pub prior_next : (s n k : ℕ) (t : List ℕ) → 1 ≤ n → prior s n t (suc (suc k) * n) ≡ passes s n t (black (suc k * n))
unfolding prior
prior_next s n k t p =
    let e = suc-mul (suc k) n in
    let q = suc-mul k n in
    let f : suc (suc k) * n - n ≡ suc k * n = omega arith in
    rw (lt-leb (suc (suc k) * n) n (omega arith), f)

-- ---- what S says

meets_part : (S : List ℕ) (p : ℕ → Bool) (xs : List ℕ) → meets S (keep p xs) ≡ true → meets S xs ≡ true
meets_part S p xs e =
    let r = meets_day S (keep p xs) e in
    meets_of S xs r.0 (keep_mem p xs r.0 r.1).0 r.2

falls : (a b : Bool) → not (not (a || b)) || not a ≡ true
falls true b = refl
falls false b = or-true (not (not b))

parts : (a b : Bool) → alike (not (a || b)) (not a && not b) ≡ true
parts true b = refl
parts false true = refl
parts false false = refl

inside : (a b : Bool) → (a ≡ true → b ≡ true) → not (not b) || not a ≡ true
inside true b f = rw (f refl)
inside false b f = or-true (not (not b))

before : ℕ → List ℕ → ℕ → Bool
before n S k = meets S (last_days (k * n) (k * n))

own : ℕ → List ℕ → ℕ → Bool
own n S k = meets S (last_days n (suc k * n))

module _ (s n d : ℕ) (S t : List ℕ) (h : Gives (chains s n d) d S t) (a : 1 ≤ s) (b : s ≤ 3) (p : 1 ≤ n) where
  black_is : (k : ℕ) → Block n d (suc k * n) → passes s n t (black (suc k * n)) ≡ not (before n S k || own n S k)
  unfolding before own
  black_is k q =
      gives_black s n d S t h a b (suc k * n) q.some q.most q.whole ∙
      ap not (ap (meets S) (block_split n k) ∙ meets_append S (last_days (k * n) (k * n)) (last_days n (suc k * n)))

  prior_is : (k : ℕ) → Block n d (suc k * n) → prior s n t (suc k * n) ≡ not (before n S k)
  unfolding before
  prior_is zero q = prior_first s n t ∙ rw (zero-mul n)
  prior_is (suc k) q =
      let e = suc-mul (suc k) n in
      prior_next s n k t p ∙ gives_black s n d S t h a b (suc k * n) (mul-pos (omega arith) p) (omega (arith, q.most)) (divides_multiple (suc k) n p)

block_1 : (n d : ℕ) (S t : List ℕ) → Gives (chains 1 n d) d S t → 1 ≤ n → (k : ℕ) → Block n d (suc k * n) → block_rule 1 n t (suc k * n) ≡ true
unfolding block_rule
block_1 n d S t h p k q =
    rw (black_is 1 n d S t h (omega arith) (omega arith) p k q, prior_is 1 n d S t h (omega arith) (omega arith) p k q) (falls (before n S k) (own n S k))

block_2 : (n d : ℕ) (S t : List ℕ) → Gives (chains 2 n d) d S t → 1 ≤ n → (k : ℕ) → Block n d (suc k * n) → block_rule 2 n t (suc k * n) ≡ true
unfolding block_rule tile_rule own
block_2 n d S t h p k q =
    and_of (alike (passes 2 n t (black g)) (prior 2 n t g && passes 2 n t (tile 0 g))) (every (tile_rule n t g) (up_from 1 (lg n)))
    (rw (black_is 2 n d S t h (omega arith) (omega arith) p k q, prior_is 2 n d S t h (omega arith) (omega arith) p k q, zeroth) (parts (before n S k) (own n S k)))
    (every_of (tile_rule n t g) (up_from 1 (lg n)) each)
  where
    g : ℕ
    g = suc k * n

    zeroth : passes 2 n t (tile 0 g) ≡ not (own n S k)
    zeroth =
        gives_passes 2 n d S t h (tile 0 g) (tile_named n d g 0 q.some q.most q.whole (omega arith)) ∙
        ap (λ (c : List ℕ). not (meets S c)) (keep_all (λ day. covers n 0 (offset n day)) (last_days n g) (λ x m. refl))

    each : (i : ℕ) → i among up_from 1 (lg n) → tile_rule n t g i ≡ true
    each i m =
        let b = up_from_bounds 1 (lg n) i m in
        rw (zeroth, gives_passes 2 n d S t h (tile i g) (tile_named n d g i q.some q.most q.whole (omega arith)))
        (inside (meets S (covered_days n (tile i g))) (own n S k) (λ e. meets_part S (λ day. covers n i (offset n day)) (last_days n g) e))

tree_is : (n d : ℕ) (S t : List ℕ) → Gives (chains 3 n d) d S t → (l g : ℕ) → Block (2 ^ l) d g → passes 3 n t (tree l g) ≡ not (meets S (last_days (2 ^ l) g))
tree_is n d S t h l g q = gives_passes 3 n d S t h (tree l g) (tree_named n d g l q.some q.most q.whole)

block_3 : (n d : ℕ) (S t : List ℕ) → Gives (chains 3 n d) d S t → 1 ≤ n → n ≡ 2 ^ lg n → (k : ℕ) → Block n d (suc k * n) → block_rule 3 n t (suc k * n) ≡ true
unfolding block_rule own
block_3 n d S t h p e k q =
    rw (black_is 3 n d S t h (omega arith) (omega arith) p k q, prior_is 3 n d S t h (omega arith) (omega arith) p k q, whole) (parts (before n S k) (own n S k))
  where
    whole : passes 3 n t (tree (lg n) (suc k * n)) ≡ not (own n S k)
    whole =
        tree_is n d S t h (lg n) (suc k * n) (record { some = q.some; most = q.most; whole = ap (λ (x : ℕ). divides x (suc k * n)) (sym e) ∙ q.whole }) ∙
        ap (λ (x : ℕ). not (meets S (last_days x (suc k * n)))) (sym e)

level_3 : (n d : ℕ) (S t : List ℕ) → Gives (chains 3 n d) d S t → (l j : ℕ) → Block (2 ^ suc l) d (suc j * 2 ^ suc l) → halves_at n t l (suc j) ≡ true
unfolding halves_at halves_rule
level_3 n d S t h l j q =
    rw (upper, left, right) (parts (meets S (last_days (2 ^ l) (g - 2 ^ l))) (meets S (last_days (2 ^ l) g)))
  where
    g : ℕ
    g = suc j * 2 ^ suc l

    point : g - 2 ^ l ≡ suc (j + j) * 2 ^ l
    point = let e = half_point j l in omega arith

    upper : passes 3 n t (tree (suc l) g) ≡ not (meets S (last_days (2 ^ l) (g - 2 ^ l)) || meets S (last_days (2 ^ l) g))
    upper =
        tree_is n d S t h (suc l) g q ∙
        ap not (ap (meets S) (half_split j l) ∙ meets_append S (last_days (2 ^ l) (g - 2 ^ l)) (last_days (2 ^ l) g))

    right : passes 3 n t (tree l g) ≡ not (meets S (last_days (2 ^ l) g))
    right = tree_is n d S t h l g (record { some = q.some; most = q.most; whole = divides_half l g q.whole })

    left : passes 3 n t (tree l (g - 2 ^ l)) ≡ not (meets S (last_days (2 ^ l) (g - 2 ^ l)))
    left =
        let m : 1 ≤ suc (j + j) * 2 ^ l = mul-pos (omega arith) (pow_pos l) in
        tree_is n d S t h l (g - 2 ^ l)
        (record {
          some = omega (arith, point);
          most = omega (arith, q.most);
          whole = ap (λ (x : ℕ). divides (2 ^ l) x) point ∙ divides_multiple (suc (j + j)) (2 ^ l) (pow_pos l);
        })

blocks : (s n d : ℕ) (S t : List ℕ) → Gives (chains s n d) d S t → 1 ≤ s → s ≤ 3 → Power n → (k : ℕ) → Block n d (suc k * n) → block_rule s n t (suc k * n) ≡ true
blocks s n d S t h a b w k q = by_scheme (λ x. Gives (chains x n d) d S t → block_rule x n t (suc k * n) ≡ true)
    (λ h. block_1 n d S t h w.some k q) (λ h. block_2 n d S t h w.some k q) (λ h. block_3 n d S t h w.some w.power k q) s a b h

levels_all : (n d : ℕ) (S t : List ℕ) → Gives (chains 3 n d) d S t → levels_rule n d t ≡ true
unfolding levels_rule level_rule
levels_all n d S t h = every_of (level_rule n d t) (up_from 0 16) (λ l m. every_of (halves_at n t l) (up_from 1 (d / 2 ^ suc l)) (λ k i. at l k i))
  where
    at : (l k : ℕ) → k among up_from 1 (d / 2 ^ suc l) → halves_at n t l k ≡ true
    at l zero i = let b = up_from_bounds 1 (d / 2 ^ suc l) 0 i in absurd (omega (arith, b.0))
    at l (suc k) i = level_3 n d S t h l k (block_of (2 ^ suc l) d (suc k) (pow_pos (suc l)) i)

levels_hold : (s n d : ℕ) (S t : List ℕ) → Gives (chains s n d) d S t → not (eqb s 3) || levels_rule n d t ≡ true
levels_hold s n d S t h = elim (split (eqb s 3)) [ inl e ↦ rw e (levels_all n d S t (rw (eqb-true s 3 e) at h)) | inr e ↦ rw e ]

-- the rules hold of a table that a set gives
pub given_rules : (s n d : ℕ) (S t : List ℕ) → Gives (chains s n d) d S t → 1 ≤ s → s ≤ 3 → Power n → rules s n d t ≡ true
unfolding rules blocks_rule block_at
given_rules s n d S t h a b w =
    and_of (blocks_rule s n d t) (not (eqb s 3) || levels_rule n d t) (every_of (block_at s n t) (up_from 1 (d / n)) at) (levels_hold s n d S t h)
  where
    at : (k : ℕ) → k among up_from 1 (d / n) → block_at s n t k ≡ true
    at zero i = let c = up_from_bounds 1 (d / n) 0 i in absurd (omega (arith, c.0))
    at (suc k) i = blocks s n d S t h a b w k (block_of n d (suc k) w.some i)
