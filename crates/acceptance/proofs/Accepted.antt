-- Acceptance is the rules, and the listing is the days listed locally.
use mathlib.Core.List.Memᴰ
use mathlib.Core.{Path.◌≡◌, Path.refl, Path.sym, Path.ap, Path.◌∙◌, Logic.inl, Logic.inr, Bool.Bool, Bool.true, Bool.false, Bool.not, List.List}
use Prim.Native.Nat.{ℕ, suc, pred, ◌-◌, ◌/◌, ◌%◌, ◌^◌, ◌≤◌}
use native.Mathlib.{Nat.mod-one, Omega.arith}
use lib.{Dec.eqb, Pow.pow_pos}
use borrow.Author.Tests.{eq-eqb, not-false}
use Rattle.lists.specs.Lists.{◌among◌, up_from, keep}
use Rattle.evidence.specs.Evidence.{days, Within, Gives, cleared, listing, accepted}
use Rattle.lists.proofs.Laws.{split, true_or_false, and_both, bool_ext, up_from_bounds, keep_mem, mem_keep, keep_congr, every_not}
use Rattle.evidence.proofs.TableLaws.{meets_of, lists_all, listed_iff, given_iff_accepted, accepted_gives}
use Rattle.layouts.specs.Layouts.{divides, lg, Name, black, tile, tree, last_days, offset, covers, covered_days, names_through, chains}
use Rattle.layouts.proofs.AllowedLaws.{Power, allowed_n_is, allowed_scheme_is}
use Rattle.layouts.proofs.Coverage.{by_scheme, chains_within}
use Rattle.acceptance.specs.Private.{Table, Bits, passes, levels_rule, blocks_rule, rules, end_of, tile_bit, bit_rule, bits_rule, is_listed}
use Rattle.acceptance.proofs.Runs.{some, meets_keep, last_days_mem, last_days_bounds, days_bounds}
use Rattle.acceptance.proofs.Lookup.{each_1, each_2, each_3, passes_gives, gives_passes, tile_named, tree_named, black_named}
use Rattle.acceptance.proofs.Given.{given_rules}
use Rattle.acceptance.proofs.Listed.{at_block, black_up, black_1, tile_2, black_2, tree_3, black_3, is_listed_1, is_listed_2, is_listed_3, covers_bit, block_day}

-- each value passes exactly if no day of its chain is listed
values : (s n d : ℕ) (t : List ℕ) → 1 ≤ s → s ≤ 3 → Power n → divides n d ≡ true → d ≤ 65536 → rules s n d t ≡ true →
    (x : Name) → x among names_through s n d → passes s n t x ≡ not (some (is_listed s n t) (covered_days n x))
unfolding rules
values s n d t a b w e l = by_scheme (λ s. rules s n d t ≡ true → (x : Name) → x among names_through s n d → As s x)
    (λ r. each_1 (As 1) n d (at_block (λ g. As 1 (black g)) n d w.some (black_up 1 n d t (is_listed 1 n t) w.some (black_1 n d t w.some e r))))
    (λ r. each_2 (As 2) n d (at_block (λ g. As 2 (black g)) n d w.some (black_up 2 n d t (is_listed 2 n t) w.some (black_2 n d t w e r)))
    (λ g i q h. at_block (λ y. As 2 (tile i y)) n d w.some (λ k u. tile_2 n d t w e r k i u h) g q))
    (λ r. each_3 (As 3) n d (at_block (λ g. As 3 (black g)) n d w.some (black_up 3 n d t (is_listed 3 n t) w.some (black_3 n d t w e l r)))
    (λ g j q. at_block (λ y. As 3 (tree j y)) (2 ^ j) d (pow_pos j) (λ k u. tree_3 n d t l (and_both (blocks_rule 3 n d t) (levels_rule n d t) r).1 j k u.most) g q)) s a b
  where
    As : ℕ → Name → Type 0
    As s x = passes s n t x ≡ not (some (is_listed s n t) (covered_days n x))

is_listed_within : (s n d : ℕ) (t : List ℕ) → Within d (keep (is_listed s n t) (days d))
is_listed_within s n d t g m = days_bounds d g (keep_mem (is_listed s n t) (days d) g m).0

-- a table that meets the rules is given by the days that are listed locally
pub is_listed_gives : (s n d : ℕ) (t : List ℕ) → Table s n d t → Bits t → rules s n d t ≡ true → Gives (chains s n d) d (keep (is_listed s n t) (days d)) t
unfolding chains
is_listed_gives s n d t T b r =
    let a = allowed_scheme_is s T.scheme_ok in
    let w = allowed_n_is n T.n_ok in
    passes_gives s n d (keep (is_listed s n t) (days d)) t b T.size (is_listed_within s n d t)
    (λ x m.
    values s n d t a.0 a.1 w T.whole T.most r x m ∙
    ap not (sym (meets_keep (is_listed s n t) d (covered_days n x) (chains_within s n d (covered_days n x) (Memᴰ.map (covered_days n) m)))))

pub accepted_rules : (s n d : ℕ) (t : List ℕ) → Table s n d t → Bits t → accepted (chains s n d) d t ≡ rules s n d t
accepted_rules s n d t T b =
    let a = allowed_scheme_is s T.scheme_ok in
    bool_ext (accepted (chains s n d) d t) (rules s n d t)
    (λ e. given_rules s n d (listing (chains s n d) d t) t (accepted_gives (chains s n d) d t e) a.0 a.1 (allowed_n_is n T.n_ok))
    (λ r. (given_iff_accepted (chains s n d) d t).0 (keep (is_listed s n t) (days d), is_listed_gives s n d t T b r))

-- ---- the listing

-- a value that passes and covers day g
abbrev Clears : ℕ → ℕ → ℕ → List ℕ → ℕ → Type 0
Clears s n d t g = (x : Name) × (x among names_through s n d) × (g among covered_days n x) × (passes s n t x ≡ true)

clears_1 : (n d : ℕ) (t : List ℕ) → 1 ≤ n → divides n d ≡ true → (g : ℕ) → g among days d → is_listed 1 n t g ≡ false → Clears 1 n d t g
clears_1 n d t p e g m f =
    let b = days_bounds d g m in
    let q = block_day n d g p e m in
    let u = last_days_bounds n (end_of n g) g (omega arith) q.1 in (
      black (end_of n g),
      black_named 1 n d (end_of n g) q.0.some q.0.most q.0.whole (rw q.0.whole (Memᴰ.head refl)),
      last_days_mem (end_of n g) (end_of n g) g (omega arith) (omega (arith, b.0)) u.1,
      not-false (passes 1 n t (black (end_of n g))) (sym (is_listed_1 n t g) ∙ f),
    )

clears_2 : (n d : ℕ) (t : List ℕ) → Power n → divides n d ≡ true → (g : ℕ) → g among days d → is_listed 2 n t g ≡ false → Clears 2 n d t g
unfolding bits_rule bit_rule tile_bit
clears_2 n d t w e g m f = elim (split (passes 2 n t (tile 0 z))) [
  | inl h ↦ part 0 (omega arith) refl h
  | inr h ↦ let k : bits_rule (tile_bit n t z) (lg n) (pred g) ≡ false = rw h at (sym (is_listed_2 n t z g refl) ∙ f) in
      bit (every_not (bit_rule (tile_bit n t z) (pred g)) (up_from 0 (lg n)) k)
]
  where
    z : ℕ
    z = end_of n g

    part : (i : ℕ) → i ≤ lg n → covers n i (offset n g) ≡ true → passes 2 n t (tile i z) ≡ true → Clears 2 n d t g
    part i l c h =
        let q = block_day n d g w.some e m in
        (tile i z, tile_named n d z i q.0.some q.0.most q.0.whole l, mem_keep (λ day. covers n i (offset n day)) (last_days n z) g q.1 c, h)

    bit : (j : ℕ) × (j among up_from 0 (lg n)) × (bit_rule (tile_bit n t z) (pred g) j ≡ false) → Clears 2 n d t g
    bit r =
        let b = up_from_bounds 0 (lg n) r.0 r.1 in
        let u = and_both (tile_bit n t z r.0) (eqb (pred g / 2 ^ r.0 % 2) 0) (not-false _ r.2) in
        let i : suc (lg n - suc r.0) ≡ lg n - r.0 = omega arith in
        let j : lg n - suc (lg n - suc r.0) ≡ r.0 = omega arith in
        part (suc (lg n - suc r.0)) (omega arith)
        (covers_bit n (lg n) (lg n - suc r.0) (pred g) w.power (omega arith) ∙ ap (λ y. eqb (pred g / 2 ^ y % 2) 0) j ∙ u.1)
        (ap (λ y. passes 2 n t (tile y z)) i ∙ u.0)

clears_3 : (n d : ℕ) (t : List ℕ) → (g : ℕ) → g among days d → is_listed 3 n t g ≡ false → Clears 3 n d t g
clears_3 n d t g m f =
    let b = days_bounds d g m in
    let q : suc (g - 1) ≡ g = omega (arith, b.0) in (
      tree 0 g,
      tree_named n d g 0 b.0 b.1 (eq-eqb (g % 1) 0 (mod-one g)),
      Memᴰ.head (sym q),
      not-false (passes 3 n t (tree 0 g)) (sym (is_listed_3 n t g) ∙ f),
    )

clears_is_listed : (s n d : ℕ) (t : List ℕ) → 1 ≤ s → s ≤ 3 → Power n → divides n d ≡ true → (g : ℕ) → g among days d → is_listed s n t g ≡ false → Clears s n d t g
clears_is_listed s n d t a b w e g m = by_scheme (λ x. is_listed x n t g ≡ false → Clears x n d t g) (clears_1 n d t w.some e g m) (clears_2 n d t w e g m) (clears_3 n d t g m) s a b

-- the listing of a table that meets the rules
pub listing_is_listed : (s n d : ℕ) (t : List ℕ) → Table s n d t → Bits t → rules s n d t ≡ true → listing (chains s n d) d t ≡ keep (is_listed s n t) (days d)
unfolding listing
listing_is_listed s n d t T b r = keep_congr kept (is_listed s n t) (days d)
    (λ g m. bool_ext (kept g) (is_listed s n t g)
    (λ e. elim (split (is_listed s n t g)) [ inl h ↦ h | inr h ↦ absurd (unlisted g m h (mem_keep kept (days d) g m e)) ])
    (λ e.
    let k = lists_all (chains s n d) d S given.within g (mem_keep (is_listed s n t) (days d) g m e) in
    let q : g among keep kept (days d) = rw given.gives at k in
    (keep_mem kept (days d) g q).1))
  where
    kept : ℕ → Bool
    kept g = not (cleared g (chains s n d) t)

    S : List ℕ
    S = keep (is_listed s n t) (days d)

    given : Gives (chains s n d) d S t
    given = is_listed_gives s n d t T b r

    unlisted : (g : ℕ) → g among days d → is_listed s n t g ≡ false → g among listing (chains s n d) d t → ⊥
    unlisted g m e k =
        let a = allowed_scheme_is s T.scheme_ok in
        let c = clears_is_listed s n d t a.0 a.1 (allowed_n_is n T.n_ok) T.whole g m e in
        let h = (listed_iff (chains s n d) d t ((given_iff_accepted (chains s n d) d t).0 (S, given)) g).0 k in
        true_or_false c.3 (gives_passes s n d h.0 t h.1 c.0 c.1 ∙ ap not (meets_of h.0 (covered_days n c.0) g c.2 h.2))
