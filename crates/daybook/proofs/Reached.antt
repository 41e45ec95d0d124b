-- Every season can be reached, by closes alone, each lent the part that its day needs.
use mathlib.Core.Path.{◌≡◌, refl, ap, ◌∙◌}
use mathlib.Core.Logic.{inl, inr}
use mathlib.Core.List.{List, [], ◌∷◌, ◌++◌, map, map-append}
use Prim.Native.Nat.{ℕ, zero, suc, ◌+◌, ◌*◌, ◌≤◌, ◌<◌}
use native.Mathlib.Omega.{arith}
use lib.Dec.{leb}
use lib.ListN.{length, replicate, length-append, length-replicate}
use borrow.Author.Tests.{le-leb, leb-true, leb-false, lt-ltb}
use Rattle.lists.proofs.Laws.{split}
use Rattle.refusals.specs.Refusals.{book_limit, last_season}
use Rattle.refusals.proofs.TestLaws.{no_refusal}
use Rattle.layouts.specs.Layouts.{chains_of_day}
use Rattle.journal.specs.Journal.{closes, tests_of}
use Rattle.journal.specs.Seasons.{Seasons, first, current, refusal_in, kept_in, seasons_after}
use Rattle.journal.specs.Run.{Call, close, argument_of, seasons_of}
use Rattle.journal.proofs.SeasonLaws.{current_next, current_stays, kept_taken, entries_present, seasons_append}
use Rattle.daybook.specs.Claim.{SeasonsReached}

-- i days are closed in all, in full seasons and then in the present one
record Closed (i : ℕ) (d : Seasons) : Type 0 where
  counted : length d.past * book_limit + length d.present.entries ≡ i
  most : length d.present.entries ≤ book_limit
  some : 1 ≤ i → 1 ≤ length d.present.entries

-- what a call is made on then: with a day left
record Left (i : ℕ) (d : Seasons) : Type 0 where
  counted : length d.past * book_limit + length d.present.entries ≡ i
  left : length d.present.entries < book_limit

left_current : (i : ℕ) (d : Seasons) → Closed i d → i < 65536 * book_limit → Left i (current d)
left_current i d c h = elim (split (leb book_limit (length d.present.entries))) [
  | inl e ↦
      let full = leb-true book_limit (length d.present.entries) e in
      let past : length d.past < last_season = omega (arith, c.counted, c.most) in
      let l = length-append d.past (d.present.entries ∷ []) in
      rw (current_next d (rw (e, lt-ltb (length d.past) last_season past)))
      (record { counted = omega (arith, l, c.counted, c.most); left = omega arith })
  | inr e ↦
      let short = leb-false book_limit (length d.present.entries) e in
      rw (current_stays d (rw e)) (record { counted = c.counted; left = short })
]

module _ (s n : ℕ) where
  -- the part that the next day needs
  abbrev next_close : Seasons → Call
  next_close d = close (replicate (32 * length (chains_of_day s n (suc (length (current d).present.entries)))) 0)

  close_taken : (i : ℕ) (d : Seasons) → Left i (current d) → refusal_in s n d (argument_of (next_close d)) ≡ 0
  close_taken i d c =
      let j = (current d).present in
      let need = 32 * length (chains_of_day s n (suc (length j.entries))) in
      let size = length-replicate {A = ℕ} need 0 in
      no_refusal (tests_of s n j (closes (length (replicate {A = ℕ} need 0))))
      (lt-ltb (length j.entries) book_limit c.left, (le-leb need (length (replicate {A = ℕ} need 0)) (omega (arith, size)), tt))

  one_more : (i : ℕ) (d : Seasons) → Closed i d → i < 65536 * book_limit → Closed (suc i) (kept_in s n d (argument_of (next_close d)))
  one_more i d c h =
      let w = left_current i d c h in
      let j = (current d).present in
      let l = length-append j.entries (j.day ∷ []) in
      rw (kept_taken s n d (argument_of (next_close d)) (close_taken i d w))
      (record { counted = omega (arith, l, w.counted); most = omega (arith, l, w.left); some = λ z. omega (arith, l) })

  -- so many closes
  reached : (i : ℕ) → i ≤ 65536 * book_limit → (cs : List Call) × Closed i (seasons_of s n cs)
  reached zero h = ([], record { counted = refl; most = omega arith; some = λ z. absurd (omega arith) })
  reached (suc i) h =
      let before = reached i (omega arith) in
      let d = seasons_of s n before.0 in
      let c = next_close d in
      let e : seasons_of s n (before.0 ++ (c ∷ [])) ≡ kept_in s n d (argument_of c) =
      ap (seasons_after s n first) (map-append argument_of before.0 (c ∷ [])) ∙ seasons_append s n (map argument_of before.0) (argument_of c ∷ []) first in
      (before.0 ++ (c ∷ []), rw e (one_more i d before.1 (omega arith)))

pub seasons_reached : SeasonsReached
seasons_reached s n f opens t k last some most =
    let r = reached s n (t * book_limit + k) (omega arith) in
    let d = seasons_of s n r.0 in
    let c = r.1 in
    let e = c.some (omega arith) in
    let season : length d.past ≡ t = omega (arith, c.counted, c.most) in
    let days : length d.present.entries ≡ k = omega (arith, c.counted, c.most) in
    (r.0, season, ap length (entries_present d t season) ∙ days)
