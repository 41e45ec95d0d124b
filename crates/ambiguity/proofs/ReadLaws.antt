-- Reading one tile: the table that the days at some offsets give is not refused, and the days listed are doubled by each bit
-- that is not 1 in all these offsets.
use mathlib.Core.{Path.◌≡◌, Path.refl, Path.sym, Path.ap, Path.◌∙◌}
use mathlib.Core.Bool.{Bool, true, false, not, ◌&&◌}
use mathlib.Core.List.Memᴰ
use mathlib.Core.List.{List, [], ◌∷◌, map}
use Prim.Native.Nat.{ℕ, suc, ◌-◌, ◌*◌, ◌/◌, ◌%◌, ◌^◌, ◌≤◌, ◌<◌}
use native.Mathlib.{Nat.mod-eq_of_lt, Nat.mod_self, Nat.zero-mod, Omega.arith}
use lib.{Dec.leb, Dec.ltb, ListN.length, ListN.length-map, Seq.take_all}
use borrow.Author.Tests.{eq-eqb, le-leb}
use Rattle.lists.specs.Lists.{◌among◌, has, every}
use Rattle.lists.proofs.Laws.{mem_has, and_of, mem_keep, is_in, length-up_from}
use Rattle.evidence.specs.Evidence.{days, Within, meets, set_outcome, table_of, listing}
use Rattle.evidence.proofs.TableLaws.{meets_of, listing_within}
use Rattle.refusals.proofs.TestLaws.{no_refusal}
use Rattle.layouts.specs.Layouts.{divides, allowed_n, lg, tile, last_days, covered_days, chains, layout_tests, layout_tested, layout_refusal}
use Rattle.layouts.proofs.{AllowedLaws.allowed_n_is, Coverage.weight_is}
use Rattle.acceptance.proofs.Runs.{keep_all, last_days_mem}
use Rattle.listing.specs.Private.{bit_of}
use Rattle.reading.specs.Contract.{table_in, read_refusal, allowed_passed, listed_in, readout}
use Rattle.reading.specs.Numbers.{last_good_day}
use Rattle.reading.proofs.{RefusalLaws.passed_none, RefusalLaws.set_read, Report.readout_found, Statements.count_found, Statements.refusal_said}
use Rattle.tile_laws.specs.Tiles.{offsets_in, bit_is1, passes_by_bits}
use Rattle.tile_laws.proofs.TileLaws.{met_by_bits, zeros, zeros_congr, tile_listed}
use Rattle.ambiguity.specs.Ambiguity.{tile_table, tile_read, days_listed}

-- each of some offsets lies in the tile
abbrev pub Inside : ℕ → List ℕ → Type 0
Inside n S = (x : ℕ) → x among S → x < n

-- ---- the call

one_tile : (n : ℕ) → allowed_n n ≡ true → layout_refusal 2 n 1 n ≡ 0
unfolding layout_tested
one_tile n ok =
    let w = allowed_n_is n ok in
    let e : 1 * n ≡ n = omega arith in
    no_refusal (layout_tests 2 n 1 n) (
      refl,
      (
        ok,
        (
          refl,
          (
            and_of (leb 1 n && leb n 65536) (divides (1 * n) n)
                (and_of (leb 1 n) (leb n 65536) (le-leb 1 n w.some) (le-leb n 65536 (let m = w.most in omega arith)))
                (eq-eqb (n % (1 * n)) 0 (rw (e, mod_self n))),
            tt,
          ),
        ),
      ),
    )

-- a set's table of one tile: read says so many days, whatever P, F and list it takes
module _ (n f p : ℕ) (X l : List ℕ) (ok : layout_refusal 2 n f n ≡ 0) (pass : allowed_passed n n p ≡ true) (room : n ≤ length l) (w : Within n X) where
  abbrev t : List ℕ
  t = table_of (chains 2 n n) X

  size : length t ≡ length (chains 2 n n)
  unfolding table_of
  size = length-map (chains 2 n n) (set_outcome X)

  whole : table_in 2 n n t ≡ t
  whole = take_all (length (chains 2 n n)) t (omega (arith, size))

  not_refused : read_refusal 2 n f n p t (length l) ≡ 0
  not_refused = set_read 2 n f n p t (length l) X (passed_none 2 n f n p ok pass) room (omega (arith, size)) (record { within = w; gives = sym whole })

  pub read_done : (readout 2 n f n p t l).report.refusal ≡ 0
  read_done = refusal_said 2 n f n p t l ∙ not_refused

  pub read_listed : (readout 2 n f n p t l).report.listed ≡ length (listing (chains 2 n n) n t)
  unfolding listed_in
  read_listed =
      ap (λ r. r.report.listed) (readout_found 2 n f n p t l not_refused) ∙
      count_found n p (last_good_day 2 n n (table_in 2 n n t)) (listed_in 2 n n t) ∙ ap (λ y. length (listing (chains 2 n n) n y)) whole

-- ---- by bits

-- bit j is 1 in all of some numbers
abbrev pub all_bit : List ℕ → ℕ → Bool
all_bit S j = every (λ o. bit_of o j) S

pub days_within : (n : ℕ) (S : List ℕ) → Inside n S → Within n (map suc S)
days_within n S f g m = let r = Memᴰ.of_map suc S m in let h = f r.0 r.1 in omega (arith, r.2)

module _ (n : ℕ) (S : List ℕ) (ok : allowed_n n ≡ true) (f : Inside n S) where
  -- the offsets of these days are those that were given
  same_offsets : (R : List ℕ) → Inside n R → offsets_in n n (map suc R) ≡ R
  same_offsets [] h = refl
  same_offsets (x ∷ R) h =
      let l = h x (Memᴰ.head refl) in
      let i : has (suc x) (last_days n n) ≡ true = mem_has (last_days_mem n n (suc x) (omega arith) (omega arith) l) in
      rw (i, mod-eq_of_lt l, same_offsets R (λ y m. h y (Memᴰ.tail m)))

  -- bit j may be anything where c(lg n - j) fails: where it is not 1 in all
  chain_bit : (j : ℕ) → j < lg n → not (meets (map suc S) (covered_days n (tile (lg n - j) n))) ≡ all_bit S j
  chain_bit j h =
      let w = allowed_n_is n ok in
      let i = lg n - suc j in
      let e : lg n - j ≡ suc i = omega arith in
      let q : lg n - suc i ≡ j = omega arith in
      let weight : n / 2 ^ suc i ≡ 2 ^ j = weight_is n (lg n) (suc i) w.power (omega arith) ∙ ap (λ y. 2 ^ y) q in
      rw e (ap not (met_by_bits n (suc i) n (map suc S)) ∙ not_not (passes_by_bits n (suc i) (offsets_in n n (map suc S))) ∙
      ap (passes_by_bits n (suc i)) (same_offsets S f) ∙ ap (λ y. every (bit_is1 y) S) weight)
    where
      not_not : (b : Bool) → not (not b) ≡ b
      not_not true = refl
      not_not false = refl

  -- some offset: c(0) fails
  first_fails : (x : ℕ) → x among S → meets (map suc S) (covered_days n (tile 0 n)) ≡ true
  first_fails x m =
      meets_of (map suc S) (covered_days n (tile 0 n)) (suc x)
      (mem_keep (λ day. true) (last_days n n) (suc x) (last_days_mem n n (suc x) (omega arith) (omega arith) (f x m)) refl) (Memᴰ.map suc m)

  -- the days that the definition's own call lists
  pub own_listed : days_listed n S ≡ length (listing (chains 2 n n) n (table_of (chains 2 n n) (map suc S)))
  unfolding days_listed tile_read tile_table
  own_listed =
      let room : n ≤ length (days n) = rw (length-up_from 1 n) (omega arith) in
      let pass : allowed_passed n n 0 ≡ true = and_of (ltb 0 n) (divides n 0) (le-leb 1 n (allowed_n_is n ok).some) (eq-eqb (0 % n) 0 (zero-mod n)) in
      read_listed n 1 0 (map suc S) (days n) (one_tile n ok) pass room (days_within n S f)

  pub listed_by_bits : (x : ℕ) → x among S → days_listed n S ≡ 2 ^ zeros (all_bit S) (lg n)
  listed_by_bits x m =
      own_listed ∙
      ap length (sym (keep_all (is_in (last_days n n)) (listing (chains 2 n n) n (table_of (chains 2 n n) (map suc S)))
      (λ g i. let b = listing_within (chains 2 n n) n (table_of (chains 2 n n) (map suc S)) g i in mem_has (last_days_mem n n g (omega arith) (omega (arith, b.0)) b.1)))) ∙
      tile_listed n 1 n (map suc S) (one_tile n ok) (days_within n S f) n (allowed_n_is n ok).some (omega arith) (eq-eqb (n % n) 0 (mod_self n)) (first_fails x m) ∙
      ap (λ z. 2 ^ z) (zeros_congr (λ j. not (meets (map suc S) (covered_days n (tile (lg n - j) n)))) (all_bit S) (lg n) chain_bit)
