-- Laws of outcomes: their greatest and least, tables of 0 and 1, tables of passes.
use mathlib.Core.{Path.◌≡◌, Path.refl, Path.sym, Path.ap, Path.◌∙◌, Logic.inl, Logic.inr, List.List, List.[], List.◌∷◌}
use mathlib.Core.Bool.{true, ◌&&◌, ◌||◌, and-true, and-false}
use Prim.Native.Nat.{ℕ, zero, suc, ◌≤◌, min, max}
use native.Mathlib.{Omega.arith}
use lib.{Dec.eqb, Dec.leb, ListN.length}
use borrow.Author.Tests.{eqb-true, ne_eqb, le-leb, lt-leb, leb-true}
use Rattle.evidence.specs.Evidence.{table_of, accepted}
use Rattle.lists.proofs.Laws.{true_or_false, or_split, and_both, bool_ext, mem_has}
use Rattle.evidence.proofs.TableLaws.{none_met, given_iff_accepted}
use Rattle.acceptance.specs.Private.{Bits}
use Rattle.std.specs.List.{fold}
use Rattle.reading.specs.{Contract.bits, Private.greatest, Private.least}

-- ---- 0 and 1

pub bits_at : (t : List ℕ) → bits t ≡ true → Bits t
bits_at [] e p = inl refl
bits_at (o ∷ t) e zero = elim (or_split (eqb o 0) (eqb o 1) (and_both (eqb o 0 || eqb o 1) (bits t) e).0) [ inl h ↦ inl (eqb-true o 0 h) | inr h ↦ inr (eqb-true o 1 h) ]
bits_at (o ∷ t) e (suc p) = bits_at t (and_both (eqb o 0 || eqb o 1) (bits t) e).1 p

-- the greatest of v and the outcomes is at most 1 exactly if v is and each of them is 0 or 1
bits_from : (t : List ℕ) (v : ℕ) → leb (fold max v t) 1 ≡ leb v 1 && bits t
bits_from [] v = sym (and-true (leb v 1))
bits_from (o ∷ t) v = bits_from t (max v o) ∙ go o
  where
    same_test : (a b : ℕ) → (a ≤ 1 → b ≤ 1) → (b ≤ 1 → a ≤ 1) → leb a 1 ≡ leb b 1
    same_test a b f g = bool_ext (leb a 1) (leb b 1) (λ e. le-leb b 1 (f (leb-true a 1 e))) (λ e. le-leb a 1 (g (leb-true b 1 e)))

    go : (x : ℕ) → leb (max v x) 1 && bits t ≡ leb v 1 && ((eqb x 0 || eqb x 1) && bits t)
    go zero = rw (same_test (max v 0) v (λ l. omega arith) (λ l. omega arith))
    go (suc zero) = rw (same_test (max v 1) v (λ l. omega arith) (λ l. omega arith))
    go (suc (suc x)) =
        rw (ne_eqb (suc (suc x)) 0 (λ e. omega arith), ne_eqb (suc (suc x)) 1 (λ e. omega arith), lt-leb (max v (suc (suc x))) 1 (omega arith))
        (sym (and-false (leb v 1)))

pub bits_by : (t : List ℕ) → leb (greatest t) 1 ≡ bits t
bits_by t = bits_from t 0

-- ---- passes

least_most : (t : List ℕ) (v : ℕ) → fold min v t ≤ v
least_most [] v = omega arith
least_most (o ∷ t) v = let e = least_most t (min v o) in omega arith

-- no changed day gives a table of passes
pass_table : (cs : List (List ℕ)) (t : List ℕ) → length t ≡ length cs → bits t ≡ true → least t ≡ 1 → table_of cs [] ≡ t
unfolding table_of
pass_table [] [] l a b = refl
pass_table [] (o ∷ t) l a b = absurd (omega arith)
pass_table (c ∷ cs) [] l a b = absurd (omega arith)
pass_table (c ∷ cs) (o ∷ t) l a b =
    let m = least_most t (min 1 o) in
    let e : o ≡ 1 = elim (bits_at (o ∷ t) a 0) [ inl z ↦ absurd (omega arith) | inr e ↦ e ] in
    rw (none_met c, e) (ap (λ x. 1 ∷ x) (pass_table cs t (omega arith) (and_both (eqb o 0 || eqb o 1) (bits t) a).1 (rw e at b)))

pub pass_accepted : (cs : List (List ℕ)) (d : ℕ) (t : List ℕ) → length t ≡ length cs → bits t ≡ true → least t ≡ 1 → accepted cs d t ≡ true
pass_accepted cs d t l a b =
    (given_iff_accepted cs d t).0 ([], record { within = λ g m. absurd (true_or_false (mem_has m) refl); gives = pass_table cs t l a b })
