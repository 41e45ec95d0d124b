-- What the code's looks and turns need: the chain due first is in the table; each of the three cases of a look; what holds
-- after some looks, and at the end.
use mathlib.Core.Path.{◌≡◌, refl, sym, ap, ◌∙◌}
use mathlib.Core.Bool.{Bool, true, false}
use mathlib.Core.Logic.{◌⊎◌, inl, inr}
use mathlib.Core.List.{List, [], ◌∷◌, ◌++◌}
use Prim.Native.Nat.{ℕ, zero, suc, ◌+◌, ◌-◌, ◌^◌, ◌≤◌, ◌<◌}
use native.Mathlib.{Decide.dec_lt, Omega.arith}
use lib.{ListN.length, ListN.set, ListN.drop, Pow.pow_pos, Pow.pow_mono}
use Rattle.lists.proofs.Laws.{length-up_from}
use Rattle.evidence.specs.Evidence.{days}
use Rattle.buffers.specs.Private.{Wrote}
use Rattle.buffers.proofs.Writes.{wrote_none, wrote_one, wrote_length, wrote_front, wrote_join}
use Rattle.layouts.specs.Layouts.{tree}
use Rattle.acceptance.specs.Private.{Chain, passes}
use Rattle.acceptance.proofs.{Runs.keep_length, Steps.has_earlier, Steps.table_has}
use Rattle.reading.specs.Private.{Given}
use Rattle.searching.specs.declared.Cursor.{Cursor}
use Rattle.searching.specs.Searching.{passes_in, found_at, looks, search_of, found_days, progress_of}
use Rattle.searching.specs.Private.{Fits, Largest, is_changed, changed_to, Stepped, Looked}
use Rattle.searching.proofs.Frontier.{end_whole, due_days}
use Rattle.searching.proofs.Tables.{look_is, found_none, step_passed, step_found, step_halves}
use Rattle.searching.proofs.Reached.{Reached, reached_none, found_more, reached_more, count_more, reached_all}

-- ---- a look

module _ (n d places : ℕ) (t : List ℕ) (G : Given 3 n d t places) where
  -- a chain of more days than one that fails
  halves_at_lem : (g l : ℕ) → (l ≡ 0 → ⊥) → Fits d g l → passes_in n d t l (g + 2 ^ l) ≡ false →
      (found_at (passes_in n d t) (tree l (g + 2 ^ l)) ≡ []) × Stepped n d t g l g (l - 1)
  halves_at_lem g zero z f e = absurd (z refl)
  halves_at_lem g (suc l) z f e = let q : suc l - 1 ≡ l = omega arith in (refl, rw q (step_halves n d places t G g l f e))

  found_at_lem : (g l m : ℕ) → l ≡ 0 → Fits d g l → passes_in n d t l (g + 2 ^ l) ≡ false → (g + 2 ^ l < d → Largest d (g + 2 ^ l) m) →
      (found_at (passes_in n d t) (tree l (g + 2 ^ l)) ≡ (g + 2 ^ l) ∷ []) × Stepped n d t g l (g + 2 ^ l) m
  found_at_lem g zero m z f e h = (rw e, step_found n d places t G g m f e h)
  found_at_lem g (suc l) m z f e h = absurd (omega arith)

  module _ (c : Cursor) (f : Fits d c.day c.level) where
    pub level_few : c.level ≤ 16
    level_few = elim (dec_lt 16 c.level) [
      | yes h ↦ let w : 2 ^ 17 ≤ 2 ^ c.level = pow_mono {i = 17} {j = c.level} h in absurd (omega (arith, f.room, G.table.most))
      | no h ↦ omega arith
    ]

    module _ (w : ℕ) (q : w ≡ 2 ^ c.level) where
      pub end_most : c.day + w ≤ d
      end_most = omega (arith, f.room)

      pub chain_there : Chain n c.level (c.day + w) t
      chain_there =
          let p = pow_pos c.level in
          record {
            has = has_earlier (c.day + w) (table_has G.table) (omega arith) end_most;
            whole = rw q (end_whole c.day c.level f.whole);
            level = level_few;
          }

      module _ {b : Bool} (e : b ≡ passes 3 n t (tree c.level (c.day + w))) where
        outcome : b ≡ passes_in n d t c.level (c.day + 2 ^ c.level)
        outcome = e ∙ rw q (look_is n d places t G c.day c.level f)

        pub look_passed : (m : ℕ) (k : List ℕ) → b ≡ true → (c.day + w < d → Largest d (c.day + w) m) →
            Looked n d t c k (record { found = c.found; day = c.day + w; level = m }) k
        look_passed m k h r =
            record {
              stepped = rw q (step_passed n d places t G c.day c.level f m (sym outcome ∙ h) (rw q at r));
              wrote = wrote_none c.found _ k (found_none n d places t G c.day c.level f (sym outcome ∙ h) c.level refl);
            }

        pub look_halves : (k : List ℕ) → b ≡ false → (c.level ≡ 0 → ⊥) →
            Looked n d t c k (record { found = c.found; day = c.day; level = c.level - 1 }) k
        look_halves k h z =
            let s = halves_at_lem c.day c.level z f (sym outcome ∙ h) in
            record { stepped = s.1; wrote = wrote_none c.found _ k s.0 }

        pub look_found : (m : ℕ) (k : List ℕ) → b ≡ false → c.level ≡ 0 → c.found < length k → (c.day + w < d → Largest d (c.day + w) m) →
            Looked n d t c k (record { found = c.found + 1; day = c.day + w; level = m }) (set k c.found (c.day + w))
        look_found m k h z l r =
            let s = found_at_lem c.day c.level m z f (sym outcome ∙ h) (rw q at r) in
            record { stepped = rw q s.1; wrote = wrote_one c.found (c.day + w) _ k (rw q s.0) l }

-- ---- turns

changed_few : (n d : ℕ) (t : List ℕ) (g : ℕ) → length (changed_to n d t g) ≤ g
changed_few n d t g = omega (arith, keep_length (is_changed n d t) (days g), length-up_from 1 g)

-- after some looks
pub record Through (n d : ℕ) (t : List ℕ) (limit : ℕ) (before : List ℕ) (looked : ℕ) (c : Cursor) (now : List ℕ) : Type 0 where
  pub few : looked ≤ limit
  pub reached : Reached n d t looked c.day c.level
  pub counted : length (search_of n d t looked).looked ≡ looked
  pub wrote : Wrote 0 (found_days n d t looked) before c.found now
  pub same_length : length now ≡ length before

pub through_none : (n d : ℕ) (t : List ℕ) (limit m : ℕ) (k : List ℕ) → 1 ≤ d → (0 < d → Largest d 0 m) →
    Through n d t limit k 0 (record { found = 0; day = 0; level = m }) k
unfolding looks
through_none n d t limit m k s h =
    let r = reached_none n d t m s h in
    record { few = omega arith; reached = r; counted = refl; wrote = wrote_none 0 (found_days n d t 0) k r.found; same_length = refl }

module _ (n d : ℕ) (t : List ℕ) (limit : ℕ) (k : List ℕ) (G : Given 3 n d t (length k)) (looked : ℕ) (c : Cursor) (now : List ℕ) (T : Through n d t limit k looked c now) where
  found_size : length (found_days n d t looked) ≤ c.day
  found_size = let e = ap length T.reached.found in omega (arith, changed_few n d t c.day)

  pub through_given : Given 3 n d t (length now)
  through_given = rw T.same_length G

  pub through_found : c.found ≤ c.day
  through_found = omega (arith, T.wrote.count, found_size)

  pub through_day : c.day ≤ d
  through_day = T.reached.due.most

  pub through_next : (r : Cursor) (next : List ℕ) → looked < limit → c.day < d → Looked n d t c now r next → Through n d t limit k (looked + 1) r next
  through_next r next l h s =
      let e : looked + 1 ≡ suc looked = omega arith in
      let f = found_more n d t looked c.day c.level T.reached h in
      let m = reached_more n d t looked c.day c.level T.reached h r.day r.level s.stepped in
      let b : length (found_days n d t (suc looked)) ≤ r.day = let x = ap length m.found in omega (arith, changed_few n d t r.day) in
      let u : 0 + length (found_days n d t (suc looked)) ≤ length k = omega (arith, m.due.most, G.room) in
      let w = wrote_join 0 (found_days n d t (suc looked)) (found_days n d t looked) _ k now next c.found r.found f u T.wrote s.wrote in
      rw e (record {
        few = omega arith;
        reached = m;
        counted = count_more n d t looked c.day c.level T.reached h T.counted;
        wrote = w;
        same_length = wrote_length 0 r.found (found_days n d t (suc looked)) k next w u;
      })

  -- at the end
  module _ (end : (limit ≤ looked) ⊎ (d ≤ c.day)) where
    all : search_of n d t limit ≡ search_of n d t looked
    all = elim end [
      | inl h ↦ let e : limit ≡ looked = omega (arith, T.few) in rw e
      | inr h ↦ reached_all n d t looked c.day c.level T.reached limit T.few h
    ]

    found_all : found_days n d t limit ≡ found_days n d t looked
    unfolding found_days
    found_all = rw all

    pub through_progress : record { looked = looked; found = c.found; undecided = d - c.day } ≡ progress_of n d t limit
    unfolding progress_of
    through_progress =
        let u = ap length (due_days n d c.day c.level (search_of n d t looked).due T.reached.due) ∙ length-up_from (suc c.day) (d - c.day) in
        let f : c.found ≡ length (found_days n d t looked) = omega (arith, T.wrote.count) in
        rw (all, found_all, T.counted, u, f)

    pub through_list : now ≡ found_days n d t limit ++ drop (length (found_days n d t limit)) k
    through_list = wrote_front (length (found_days n d t limit)) T.wrote (ap length (sym found_all)) ∙ rw found_all
