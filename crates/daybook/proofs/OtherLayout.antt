-- A book checked under another layout: no value that was sealed passes.
use mathlib.Core.Path.{◌≡◌, sym, ap, ◌∙◌}
use mathlib.Core.Logic.{inl, inr}
use mathlib.Core.Bool.{true}
use mathlib.Core.List.{List, []}
use Prim.Native.Nat.{ℕ, ◌*◌, ◌<◌}
use native.Mathlib.Omega.{arith}
use lib.ListN.{length, get_or, take, drop}
use Rattle.lists.proofs.Laws.{get_d_mem}
use Rattle.refusals.proofs.TestLaws.{passed_number}
use Rattle.evidence.proofs.Collisions.{collide_or_not}
use Rattle.layouts.specs.Layouts.{allowed_n, chains}
use Rattle.layouts.proofs.AllowedLaws.{setup_is}
use Rattle.ledger.proofs.DayLaws.{part_front}
use Rattle.sha256.specs.Sha256.{sha256}
use Rattle.chains.proofs.BookLaws.{book_at, book_length}
use Rattle.chains.proofs.Apart.{layouts_apart}
use Rattle.service.proofs.CallLaws.{opened_number}
use Rattle.journal.proofs.SeasonLaws.{open_book}
use Rattle.checking.specs.Contract.{check_tested, checked}
use Rattle.checking.proofs.RefusalLaws.{check_ready}
use Rattle.checking.proofs.Statements.{passes_if_stored}
use Rattle.daybook.specs.Detection.{ledger_days, checking}
use Rattle.daybook.specs.Claim.{sealed, wrote}
use Rattle.daybook.specs.OtherLayout.{at_sealing, at_checking, OtherLayoutFails, FailsOrCollides}

pub other_layout_fails : OtherLayoutFails
unfolding checked
other_layout_fails s n f opens cs season t m f₂ d differ x done nc =
    record { anywhere = anywhere; in_place = λ begins i h l. anywhere i i h l (in_front begins i l) }
  where
    E : List (List ℕ)
    E = sealed s n cs season

    W : List ℕ
    W = wrote s n f cs season

    n_ok : allowed_n n ≡ true
    n_ok = (setup_is s n f (sym (opened_number s n f) ∙ opens)).n_ok

    m_ok : allowed_n m ≡ true
    m_ok =
        (check_ready t m f₂ d x.ends (length x.ledger) (length x.book) (length x.work) (length x.outcomes)
        (passed_number (check_tested t m f₂ d x.ends (length x.ledger) (length x.book) (length x.work) (length x.outcomes)) done)).n_ok

    anywhere : (i j : ℕ) → i < length (chains t m d) → j < length (chains s n (length E)) →
        take 32 (drop (32 * i) x.book) ≡ take 32 (drop (32 * j) W) → get_or (checking t m f₂ d x).outcomes i 0 ≡ 0
    anywhere i j h l e =
        (passes_if_stored t m f₂ d x.ledger x.ends x.book x.work x.outcomes done i h).1.1
        (λ q.
        layouts_apart s n t m n_ok m_ok differ (length E) d E (ledger_days d x) nc (get_or (chains s n (length E)) j []) (get_or (chains t m d) i [])
        (get_d_mem (chains s n (length E)) j [] l) (get_d_mem (chains t m d) i [] h)
        (sym (e ∙ ap (λ (w : List ℕ). take 32 (drop (32 * j) w)) (open_book s n f opens cs season) ∙ book_at s n E j l) ∙ q))

    -- what stands in the front that was written stands in the book
    in_front : take (length W) x.book ≡ W → (i : ℕ) → i < length (chains s n (length E)) →
        take 32 (drop (32 * i) x.book) ≡ take 32 (drop (32 * i) W)
    in_front begins i l =
        let size = ap length (open_book s n f opens cs season) ∙ book_length s n E in
        sym (part_front 32 (32 * i) (length W) x.book (omega arith)) ∙ ap (λ (w : List ℕ). take 32 (drop (32 * i) w)) begins

pub fails_or_collides : FailsOrCollides
fails_or_collides s n f opens cs season t m f₂ d differ x done = elim (collide_or_not sha256 (at_sealing s n cs season) (at_checking t m d x)) [
  | inl nc ↦ inl (other_layout_fails s n f opens cs season t m f₂ d differ x done nc)
  | inr c ↦ inr c
]
