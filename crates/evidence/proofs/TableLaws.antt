-- Laws of tables: acceptance is that some set gives the table; the listing is the union of the sets that do.
use mathlib.Core.{Path.◌≡◌, Path.refl, Path.sym, Path.ap, Path.◌∙◌, Logic.◌↔◌, Logic.inl, Logic.inr}
use mathlib.Core.Bool.{Bool, true, false, not, ◌&&◌, and-false}
use mathlib.Core.List.Memᴰ
use mathlib.Core.List.{List, [], ◌∷◌}
use Prim.Native.Nat.{ℕ}
use native.Mathlib.Omega.{arith}
use lib.Dec.{eqb}
use borrow.Author.Tests.{not-true}
use Rattle.lists.specs.Lists.{◌among◌, has, keep, Ascends}
use Rattle.evidence.specs.Statements.{AcceptedIfGiven, AcceptedLists}
use Rattle.evidence.specs.Evidence.{days, Within, meets, set_outcome, table_of, Gives, cleared, listing, accepted}
use Rattle.lists.proofs.Laws.{split, true_or_false, or_split, or_left, or_right, bool_ext, has_mem, mem_has, same_eq, eq_same}
use Rattle.lists.proofs.Laws.{up_from_mem, up_from_bounds, keep_mem, mem_keep, keep_congr, keep_ascends, no_mem, mem_nil, map_same}

-- a chain covers a day of S exactly if there is such a day
meets_at : (S : List ℕ) (g : ℕ) (c : List ℕ) → g among c → g among S → meets S c ≡ true
meets_at S g c (Memᴰ.head {x = x} {xs = xs} e) s = or_left (has x S) (meets S xs) (rw (← e) (mem_has s))
meets_at S g c (Memᴰ.tail {x = x} {xs = xs} m) s = or_right (has x S) (meets S xs) (meets_at S g xs m s)

pub meets_of : (S c : List ℕ) (g : ℕ) → g among c → g among S → meets S c ≡ true
meets_of S c g m s = meets_at S g c m s

pub meets_day : (S c : List ℕ) → meets S c ≡ true → (g : ℕ) × (g among c) × (g among S)
meets_day S [] e = absurd (true_or_false e refl)
meets_day S (x ∷ c) e = elim (or_split (has x S) (meets S c) e) [
  | inl h ↦ (x, Memᴰ.head refl, has_mem x S h)
  | inr h ↦ let r = meets_day S c h in (r.0, Memᴰ.tail r.1, r.2)
]

-- no chain meets the empty set
pub none_met : (c : List ℕ) → meets [] c ≡ false
none_met [] = refl
none_met (g ∷ c) = none_met c

-- two sets that every chain of the layout meets alike give one table
pub table_congr : (S R : List ℕ) (chains : List (List ℕ)) → ((c : List ℕ) → c among chains → meets S c ≡ meets R c) → table_of chains S ≡ table_of chains R
unfolding table_of
table_congr S R chains f = map_same (set_outcome S) (set_outcome R) chains (λ c m. rw (f c m))

-- of a table that S gives: a day of S is not cleared
set_not_cleared : (S : List ℕ) (g : ℕ) → g among S → (chains : List (List ℕ)) → cleared g chains (table_of chains S) ≡ false
unfolding table_of
set_not_cleared S g s [] = refl
set_not_cleared S g s (c ∷ chains) = let r = set_not_cleared S g s chains in elim (split (has g c)) [
  | inl h ↦ rw (r, meets_of S c g (has_mem g c h) s)
  | inr h ↦ rw (r, h, and-false (eqb (set_outcome S c) 1))
]

-- a day of a chain that does not meet S is cleared
clears : (S : List ℕ) (g : ℕ) {c : List ℕ} {chains : List (List ℕ)} → c among chains → g among c → meets S c ≡ false → cleared g chains (table_of chains S) ≡ true
unfolding table_of
clears S g {c} (Memᴰ.head {x = x} {xs = xs} e) m n = rw (← e, n, mem_has m)
clears S g {c} (Memᴰ.tail {x = x} {xs = xs} h) m n = or_right (eqb (set_outcome S x) 1 && has g x) (cleared g xs (table_of xs S)) (clears S g h m n)

module _ (chains : List (List ℕ)) (d : ℕ) where
  -- what is listed of the table that S gives: S is in it;
  pub lists_all : (S : List ℕ) → Within d S → (g : ℕ) → g among S → g among listing chains d (table_of chains S)
  unfolding listing
  lists_all S w g s =
      let b = w g s in
      mem_keep (λ x. not (cleared x chains (table_of chains S))) (days d) g (up_from_mem 1 d g (omega arith) (omega arith)) (rw (set_not_cleared S g s chains))

  listed_not_cleared : (table : List ℕ) (g : ℕ) → g among listing chains d table → cleared g chains table ≡ false
  unfolding listing
  listed_not_cleared table g m = not-true (cleared g chains table) (keep_mem (λ x. not (cleared x chains table)) (days d) g m).1

  pub listing_within : (table : List ℕ) → Within d (listing chains d table)
  unfolding listing
  listing_within table g m =
      let b = up_from_bounds 1 d g (keep_mem (λ x. not (cleared x chains table)) (days d) g m).0 in
      omega arith

  pub listing_ascends : (table : List ℕ) → Ascends 1 (listing chains d table)
  unfolding listing
  listing_ascends table = keep_ascends (λ g. not (cleared g chains table)) 1 d

  -- the listing of the table that S gives meets the same chains as S
  listing_meets : (S : List ℕ) → Within d S → (c : List ℕ) → c among chains → meets (listing chains d (table_of chains S)) c ≡ meets S c
  listing_meets S w c m =
      let L = listing chains d (table_of chains S) in
      bool_ext (meets L c) (meets S c)
      (λ e. elim (split (meets S c)) [
        | inl s ↦ s
        | inr n ↦ let r = meets_day L c e in absurd (true_or_false (clears S r.0 m r.1 n) (listed_not_cleared (table_of chains S) r.0 r.2))
      ])
      (λ e. let r = meets_day S c e in meets_of L c r.0 r.1 (lists_all S w r.0 r.2))

  -- some set gives the table exactly if the table is accepted
  pub gives_listing : (S table : List ℕ) → Gives chains d S table → Gives chains d (listing chains d table) table
  gives_listing S table h =
      record { within = listing_within table; gives = rw (← h.gives) (table_congr (listing chains d (table_of chains S)) S chains (listing_meets S h.within)) }

  pub accepted_gives : (table : List ℕ) → accepted chains d table ≡ true → Gives chains d (listing chains d table) table
  unfolding table_of accepted
  accepted_gives table e = record { within = listing_within table; gives = same_eq (table_of chains (listing chains d table)) table e }

  pub given_iff_accepted : (table : List ℕ) → ((S : List ℕ) × Gives chains d S table) ↔ (accepted chains d table ≡ true)
  unfolding accepted table_of
  given_iff_accepted table = (
    λ h. eq_same (table_of chains (listing chains d table)) table (gives_listing h.0 table h.1).gives,
    λ e. (listing chains d table, accepted_gives table e),
  )

  -- the days listed are those that belong to some set that gives the table
  pub listed_iff : (table : List ℕ) → accepted chains d table ≡ true → (g : ℕ) → (g among listing chains d table) ↔ ((S : List ℕ) × Gives chains d S table × (g among S))
  listed_iff table e g = (
    λ m. (listing chains d table, accepted_gives table e, m),
    λ h. rw (← h.1.gives) (lists_all h.0 h.1.within g h.2),
  )

  -- where each day has a chain of its own, nothing else is;
  pub lists_exactly : ((g : ℕ) → g among days d → (g ∷ []) among chains) → (p : ℕ → Bool) → listing chains d (table_of chains (keep p (days d))) ≡ keep p (days d)
  unfolding listing
  lists_exactly single p = keep_congr (λ g. not (cleared g chains (table_of chains S))) p (days d) (λ g m. elim (split (p g)) [
    | inl e ↦ rw (e, set_not_cleared S g (mem_keep p (days d) g m e) chains)
    | inr e ↦ rw (e, clears S g (single g m) (Memᴰ.head refl) (lone g e))
  ])
    where
      S : List ℕ
      S = keep p (days d)

      lone : (g : ℕ) → p g ≡ false → meets S (g ∷ []) ≡ false
      lone g n = elim (split (meets S (g ∷ []))) [
        | inl e ↦ let r = meets_day S (g ∷ []) e in
            absurd (true_or_false (ap p (sym (Memᴰ.eq_of_singleton r.1)) ∙ (keep_mem p (days d) r.0 r.2).1) n)
        | inr e ↦ e
      ]

  -- and where each day is covered, nothing is listed exactly if S is empty.
  pub lists_none : ((g : ℕ) → g among days d → (c : List ℕ) × (c among chains) × (g among c)) → (S : List ℕ) → Within d S → (listing chains d (table_of chains S) ≡ []) ↔ (S ≡ [])
  unfolding listing
  lists_none covered S w = (
    λ e. no_mem S (λ g s. mem_nil (listing chains d (table_of chains S)) e (lists_all S w g s)),
    λ e. no_mem (listing chains d (table_of chains S)) (λ g m.
        let r = covered g (keep_mem (λ x. not (cleared x chains (table_of chains S))) (days d) g m).0 in
        true_or_false (clears S g r.1 r.2 (ap (λ x. meets x r.0) e ∙ none_met r.0)) (listed_not_cleared (table_of chains S) g m)),
  )

-- ---- as stated

pub accepted_if_given : AcceptedIfGiven
accepted_if_given = given_iff_accepted

pub accepted_lists : AcceptedLists
accepted_lists chains d table e = record { ascending = listing_ascends chains d table; listed = listed_iff chains d table e }
