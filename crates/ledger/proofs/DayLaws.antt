-- Laws of the days of a ledger.
use mathlib.Core.{Path.◌≡◌, Path.refl, Path.sym, Path.◌∙◌, Logic.inl, Logic.inr}
use mathlib.Core.List.{List, [], ◌∷◌, ◌++◌, map-append}
use Prim.Native.Nat.{ℕ, zero, suc, ◌+◌, ◌-◌, ◌≤◌, ◌<◌}
use native.Mathlib.{Nat.eq-or-lt_of_le, Nat.le_refl, Omega.arith}
use lib.ListN.{length, get_or, take, drop, length-append, length-drop, get_or-append}
use lib.Seq.{take-take, get_or-take, get_or_at, length-take-le}
use Rattle.ledger.specs.{Ledger.start_of, Ledger.end_of, Ledger.day_at, Ledger.up_to, Ledger.days_of, Private.EndsHold}
use Rattle.ledger.proofs.EndLaws.{start_ascends, start_front}

-- ---- one after the other

pub days_none : (ledger ends : List ℕ) → days_of ledger ends 0 ≡ []
unfolding days_of
days_none ledger ends = refl

-- one day more
pub days_snoc : (ledger ends : List ℕ) (i : ℕ) → days_of ledger ends (suc i) ≡ days_of ledger ends i ++ (day_at ledger ends i ∷ [])
unfolding days_of
days_snoc ledger ends i = map-append (day_at ledger ends) (up_to i) (i ∷ [])

pub days_length : (ledger ends : List ℕ) (d : ℕ) → length (days_of ledger ends d) ≡ d
days_length ledger ends zero = rw days_none
days_length ledger ends (suc d) = rw (days_snoc, length-append, days_length ledger ends d) (omega arith)

-- the day of index i
pub days_at : (ledger ends : List ℕ) (d i : ℕ) → i < d → get_or (days_of ledger ends d) i [] ≡ day_at ledger ends i
days_at ledger ends zero i l = absurd (omega arith)
days_at ledger ends (suc d) i l = elim (eq-or-lt_of_le l) [
  | inl e ↦ let q : i ≡ d = omega arith in rw (days_snoc, q) (get_or_at (days_of ledger ends d) (day_at ledger ends d) [] [] d (days_length ledger ends d))
  | inr m ↦ let n : i < d = omega arith in
      rw days_snoc (get_or-append (days_of ledger ends d) (day_at ledger ends d ∷ []) [] i (rw days_length n) ∙ days_at ledger ends d i n)
]

-- ---- under good ends

-- a day has the bytes from its start to its end
pub day_length : (ledger ends : List ℕ) (i : ℕ) → start_of ends i ≤ end_of ends i → end_of ends i ≤ length ledger → length (day_at ledger ends i) ≡ end_of ends i - start_of ends i
day_length ledger ends i p q = length-take-le (end_of ends i - start_of ends i) (drop (start_of ends i) ledger) (rw length-drop (omega arith))

pub days_at_length : (ledger ends : List ℕ) (d i : ℕ) → EndsHold d ends (length ledger) → i < d → length (get_or (days_of ledger ends d) i []) ≡ end_of ends i - start_of ends i
days_at_length ledger ends d i h l = rw (days_at ledger ends d i l) (day_length ledger ends i (h.ascend i l) (h.within i l))

-- ---- what is read

-- a part of a list lies in the list's front
pub part_front : (n s t : ℕ) (l : List ℕ) → s + n ≤ t → take n (drop s (take t l)) ≡ take n (drop s l)
part_front n zero t l h = take-take n t l (omega arith)
part_front n (suc s) zero l h = absurd (omega arith)
part_front n (suc s) (suc t) [] h = refl
part_front n (suc s) (suc t) (x ∷ l) h = part_front n s t l (omega arith)

-- a day among the first d is the same by the first d ends and the ledger up to end d
day_front : (ledger ends : List ℕ) (d i : ℕ) → ((k : ℕ) → k < d → start_of ends k ≤ end_of ends k) → i < d → day_at ledger ends i ≡ day_at (take (start_of ends d) ledger) (take d ends) i
day_front ledger ends d i a l =
    let m : i ≤ d = omega arith in
    let p = a i l in
    let q : end_of ends i ≤ start_of ends d = start_ascends d ends a (suc i) l in
    rw (start_front d ends i m, get_or-take d ends i 0 l) (sym (part_front (end_of ends i - start_of ends i) (start_of ends i) (start_of ends d) ledger (omega arith)))

days_front : (ledger ends : List ℕ) (d k : ℕ) → ((i : ℕ) → i < d → start_of ends i ≤ end_of ends i) → k ≤ d → days_of ledger ends k ≡ days_of (take (start_of ends d) ledger) (take d ends) k
days_front ledger ends d zero a l = days_none ledger ends ∙ sym (days_none (take (start_of ends d) ledger) (take d ends))
days_front ledger ends d (suc k) a l =
    let m : k ≤ d = omega arith in
    cc (days_snoc ledger ends k, days_snoc (take (start_of ends d) ledger) (take d ends) k, days_front ledger ends d k a m, day_front ledger ends d k a l)

-- only the first d ends and the ledger up to end d are read
pub days_read : (ledger ends : List ℕ) (d size : ℕ) → EndsHold d ends size → days_of ledger ends d ≡ days_of (take (start_of ends d) ledger) (take d ends) d
days_read ledger ends d size h = days_front ledger ends d d h.ascend (le_refl d)
