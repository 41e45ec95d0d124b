-- Laws of the book: one more day, its front, its length, and what a check against it finds.
use mathlib.Core.Path.{◌≡◌, refl, sym, ap, ◌∙◌}
use mathlib.Core.List.Memᴰ
use mathlib.Core.List.{List, [], ◌∷◌, ◌++◌}
use Prim.Native.Nat.{ℕ, zero, suc, pred, ◌+◌, ◌*◌, ◌≤◌, ◌<◌}
use native.Mathlib.Omega.{arith}
use lib.ListN.{length, get_or, take, drop, length-append, get_or-append}
use lib.Seq.{take_at, drop_at, drop-drop}
use Rattle.lists.specs.Lists.{◌among◌}
use Rattle.evidence.specs.Evidence.{days, table_of, day_of, changed, value, values, check_outcomes, NoCollision}
use Rattle.evidence.proofs.ValueLaws.{values_append, values_same, value_same, length_value, length_values, check_table, check_unaltered}
use Rattle.layouts.specs.Layouts.{chains, chains_of_day}
use Rattle.layouts.proofs.Coverage.{chains_within, chains_suc, chains_front}
use Rattle.sha256.specs.Sha256.{sha256}
use Rattle.sha256.proofs.Laws.{sha256_length}
use Rattle.chains.specs.Book.{start, book_of, inputs_of}
use Rattle.chains.proofs.Running.{start_length}

-- the book of one more day: what stood there stays, and the values that close at the day follow
pub book_suc : (s n : ℕ) (E : List (List ℕ)) (day : List ℕ) →
    book_of s n (E ++ (day ∷ [])) ≡ book_of s n E ++ values sha256 (start s n) (E ++ (day ∷ [])) (chains_of_day s n (suc (length E)))
unfolding book_of
book_suc s n E day =
    ap (λ (k : ℕ). values sha256 (start s n) F (chains s n k)) l ∙ ap (values sha256 (start s n) F) (chains_suc s n (length E)) ∙
    values_append sha256 (start s n) F (chains s n (length E)) (chains_of_day s n (suc (length E))) ∙
    ap (λ (x : List ℕ). x ++ values sha256 (start s n) F (chains_of_day s n (suc (length E)))) (values_same sha256 (start s n) F E (chains s n (length E)) old)
  where
    F : List (List ℕ)
    F = E ++ (day ∷ [])

    l : length F ≡ suc (length E)
    l = omega (arith, length-append E (day ∷ []))

    old : (c : List ℕ) → c among chains s n (length E) → value sha256 (start s n) F c ≡ value sha256 (start s n) E c
    old c m = value_same sha256 F E c (start s n) (λ g k. let b = chains_within s n (length E) c m g k in get_or-append E (day ∷ []) [] (pred g) (omega (arith, b.0, b.1)))

-- no day, no value
pub book_none : (s n : ℕ) → book_of s n [] ≡ []
unfolding book_of chains Rattle.layouts.specs.Layouts.names_through mathlib.Core.List.flat_map
book_none s n = refl

pub book_length : (s n : ℕ) (E : List (List ℕ)) → length (book_of s n E) ≡ 32 * length (chains s n (length E))
unfolding book_of
book_length s n E = length_values sha256 sha256_length (start s n) (start_length s n) E (chains s n (length E))

pub values_of_length : (s n : ℕ) (E cs : List (List ℕ)) → length (values sha256 (start s n) E cs) ≡ 32 * length cs
values_of_length s n E cs = length_values sha256 sha256_length (start s n) (start_length s n) E cs

-- the value of a chain stands at the chain's place
values_at : (s n : ℕ) (E cs : List (List ℕ)) (j : ℕ) → j < length cs →
    take 32 (drop (32 * j) (values sha256 (start s n) E cs)) ≡ value sha256 (start s n) E (get_or cs j [])
values_at s n E [] j h = absurd (omega arith)
values_at s n E (c ∷ cs) zero h =
    take_at (value sha256 (start s n) E c) (values sha256 (start s n) E cs) 32 (length_value sha256 sha256_length E c (start s n) (start_length s n))
values_at s n E (c ∷ cs) (suc j) h =
    let e : 32 + 32 * j ≡ 32 * suc j = omega arith in
    let v = value sha256 (start s n) E c in
    let vs = values sha256 (start s n) E cs in
    ap (take 32) (sym (drop-drop (32 * j) 32 (v ++ vs) ∙ ap (λ (k : ℕ). drop k (v ++ vs)) e) ∙
    ap (drop (32 * j)) (drop_at v vs 32 (length_value sha256 sha256_length E c (start s n) (start_length s n)))) ∙ values_at s n E cs j (omega arith)

pub book_at : (s n : ℕ) (E : List (List ℕ)) (j : ℕ) → j < length (chains s n (length E)) →
    take 32 (drop (32 * j) (book_of s n E)) ≡ value sha256 (start s n) E (get_or (chains s n (length E)) j [])
unfolding book_of
book_at s n E j h = values_at s n E (chains s n (length E)) j h

-- the front of the book is the values of the first d days
pub book_front : (s n d : ℕ) (E : List (List ℕ)) → d ≤ length E → (rest : List ℕ) × (book_of s n E ≡ values sha256 (start s n) E (chains s n d) ++ rest)
unfolding book_of
book_front s n d E h =
    let r = chains_front s n d (length E) h in
    (values sha256 (start s n) E r.0, ap (values sha256 (start s n) E) r.1 ∙ values_append sha256 (start s n) E (chains s n d) r.0)

-- a check against a book that begins with the values of the days E finds the table of the changed days
pub check_finds : (s n d : ℕ) (E ledger : List (List ℕ)) (rest : List ℕ) → NoCollision sha256 (inputs_of s n d E) (inputs_of s n d ledger) →
    check_outcomes sha256 (start s n) ledger (chains s n d) (values sha256 (start s n) E (chains s n d) ++ rest) ≡ table_of (chains s n d) (changed d E ledger)
unfolding inputs_of
check_finds s n d E ledger rest nc =
    check_table sha256 sha256_length (start s n) (start_length s n) (chains s n d) d (chains_within s n d) E ledger
    (λ x y a b. nc x y (Memᴰ.tail a) (Memᴰ.tail b)) rest

-- and with no premise, where no day of 1 to d differs, that each value passes
pub check_passes : (s n d : ℕ) (E ledger : List (List ℕ)) (rest : List ℕ) → ((g : ℕ) → g among days d → day_of E g ≡ day_of ledger g) →
    check_outcomes sha256 (start s n) ledger (chains s n d) (values sha256 (start s n) E (chains s n d) ++ rest) ≡ table_of (chains s n d) []
check_passes s n d E ledger rest same = check_unaltered sha256 sha256_length (start s n) (start_length s n) (chains s n d) d (chains_within s n d) E ledger same rest
