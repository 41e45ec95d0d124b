-- Laws of values: what equal values say of the days, and that a check against the book of the sealed days finds the
-- changed days' table. Nothing is assumed of the hash but its length; that two inputs do not collide is a premise, and only
-- of the inputs hashed.
use mathlib.Core.{Path.◌≡◌, Path.refl, Path.◌∙◌, Logic.◌↔◌, Logic.inl, Logic.inr, Bool.true, Bool.false, Bool.not, Bool.cond}
use mathlib.Core.List.Memᴰ
use mathlib.Core.List.{List, [], ◌∷◌, ◌++◌, map, flat_map, append_assoc}
use Prim.Native.Nat.{ℕ, ◌*◌, ◌≤◌}
use native.Mathlib.Omega.{arith}
use lib.{ListN.length, ListN.length-append, Seq.take_at, Seq.drop_at}
use borrow.Author.Tests.{not-true}
use Rattle.lists.specs.Lists.{◌among◌, same, Ascends}
use Rattle.evidence.specs.Evidence.{days, Within, meets, set_outcome, table_of, listing, day_of, changed, digest}
use Rattle.evidence.specs.Evidence.{link_input, value, values, check_outcomes, link_inputs, inputs, NoCollision}
use Rattle.lists.proofs.Laws.{split, true_or_false, same_eq, eq_same, up_from_mem, up_from_bounds, keep_mem, mem_keep, keep_ascends, map_same}
use Rattle.evidence.proofs.TableLaws.{meets_of, meets_day, none_met, lists_all, lists_exactly, lists_none}

-- the inputs of the days' digests
abbrev day_parts : ℕ → List (List ℕ) → List (List ℕ)
day_parts d ledger = map (λ g. 0 ∷ day_of ledger g) (days d)

-- 1 for each chain that has the same value over both, else 0
same_value : (List ℕ → List ℕ) → List ℕ → List (List ℕ) → List (List ℕ) → List ℕ → ℕ
same_value H start A B c = cond (same (value H start A c) (value H start B c)) 1 0

-- the changed days lie within 1 to d
pub changed_within : (d : ℕ) (A B : List (List ℕ)) → Within d (changed d A B)
unfolding changed
changed_within d A B g m =
    let b = up_from_bounds 1 d g (keep_mem (λ x. not (same (day_of A x) (day_of B x))) (days d) g m).0 in
    omega arith

pub changed_ascends : (d : ℕ) (A B : List (List ℕ)) → Ascends 1 (changed d A B)
unfolding changed
changed_ascends d A B = keep_ascends (λ g. not (same (day_of A g) (day_of B g))) 1 d

-- every changed day is listed
pub changed_listed : (chains : List (List ℕ)) (d : ℕ) (A B : List (List ℕ)) (g : ℕ) → g among changed d A B →
    g among listing chains d (table_of chains (changed d A B))
changed_listed chains d A B g m = lists_all chains d (changed d A B) (changed_within d A B) g m

-- where each day has a chain of its own, no other day is
pub listed_changed : (chains : List (List ℕ)) (d : ℕ) (A B : List (List ℕ)) → ((g : ℕ) → g among days d → (g ∷ []) among chains) →
    listing chains d (table_of chains (changed d A B)) ≡ changed d A B
unfolding changed
listed_changed chains d A B single = lists_exactly chains d single (λ g. not (same (day_of A g) (day_of B g)))

-- where each day is covered, none is listed exactly if none is changed
pub none_listed : (chains : List (List ℕ)) (d : ℕ) (A B : List (List ℕ)) →
    ((g : ℕ) → g among days d → (c : List ℕ) × (c among chains) × (g among c)) →
    (listing chains d (table_of chains (changed d A B)) ≡ []) ↔ (changed d A B ≡ [])
none_listed chains d A B covered = lists_none chains d covered (changed d A B) (changed_within d A B)

halves : (n : ℕ) (v w d e : List ℕ) → length v ≡ n → length w ≡ n → v ++ d ≡ w ++ e → (v ≡ w) × (d ≡ e)
halves n v w d e hv hw q = (cc (take_at v d n hv, take_at w e n hw), cc (drop_at v d n hv, drop_at w e n hw))

chain_inputs_mem : (H : List ℕ → List ℕ) (start : List ℕ) (ledger : List (List ℕ)) {c : List ℕ} {chains : List (List ℕ)} → c among chains →
    (x : List ℕ) → x among link_inputs H start ledger c → x among flat_map (link_inputs H start ledger) chains
unfolding flat_map
chain_inputs_mem H start ledger (Memᴰ.head {x = d} {xs = ds} e) x m =
    Memᴰ.append_left (flat_map (link_inputs H start ledger) ds) (rw e at m)
chain_inputs_mem H start ledger (Memᴰ.tail {x = d} {xs = ds} h) x m =
    Memᴰ.append_right (link_inputs H start ledger d) (chain_inputs_mem H start ledger h x m)

-- days that agree give values that agree
pub value_same : (H : List ℕ → List ℕ) (A B : List (List ℕ)) (c : List ℕ) (v : List ℕ) → ((g : ℕ) → g among c → day_of A g ≡ day_of B g) → value H v A c ≡ value H v B c
value_same H A B [] v f = refl
value_same H A B (g ∷ c) v f = rw (f g (Memᴰ.head refl)) (value_same H A B c (H (link_input H B v g)) (λ x m. f x (Memᴰ.tail m)))

-- a chain goes on from the value that it has
pub value_append : (H : List ℕ → List ℕ) (ledger : List (List ℕ)) (c e : List ℕ) (v : List ℕ) → value H v ledger (c ++ e) ≡ value H (value H v ledger c) ledger e
value_append H ledger [] e v = refl
value_append H ledger (g ∷ c) e v = value_append H ledger c e (H (link_input H ledger v g))

pub values_append : (H : List ℕ → List ℕ) (start : List ℕ) (ledger cs ds : List (List ℕ)) → values H start ledger (cs ++ ds) ≡ values H start ledger cs ++ values H start ledger ds
values_append H start ledger [] ds = refl
values_append H start ledger (c ∷ cs) ds = rw (values_append H start ledger cs ds, append_assoc)

pub values_same : (H : List ℕ → List ℕ) (start : List ℕ) (A B cs : List (List ℕ)) → ((c : List ℕ) → c among cs → value H start A c ≡ value H start B c) →
    values H start A cs ≡ values H start B cs
values_same H start A B [] f = refl
values_same H start A B (c ∷ cs) f = rw (f c (Memᴰ.head refl), values_same H start A B cs (λ d m. f d (Memᴰ.tail m)))

module _ (H : List ℕ → List ℕ) (sized : (x : List ℕ) → length (H x) ≡ 32) where
  pub length_value : (ledger : List (List ℕ)) (c v : List ℕ) → length v ≡ 32 → length (value H v ledger c) ≡ 32
  length_value ledger [] v h = h
  length_value ledger (g ∷ c) v h = length_value ledger c (H (link_input H ledger v g)) (sized (link_input H ledger v g))

  pub length_values : (start : List ℕ) → length start ≡ 32 → (ledger cs : List (List ℕ)) → length (values H start ledger cs) ≡ 32 * length cs
  length_values start started ledger [] = refl
  length_values start started ledger (c ∷ cs) =
      omega (arith, length-append (value H start ledger c) (values H start ledger cs), length_value ledger c start started, length_values start started ledger cs)

  -- a check against the values over A compares chain by chain; what stands behind them is not read
  outcomes_same : (start : List ℕ) → length start ≡ 32 → (A B cs : List (List ℕ)) (rest : List ℕ) →
      check_outcomes H start B cs (values H start A cs ++ rest) ≡ map (same_value H start A B) cs
  unfolding same_value
  outcomes_same start started A B [] rest = refl
  outcomes_same start started A B (c ∷ cs) rest =
      let l = length_value A c start started in
      rw (append_assoc, take_at (value H start A c) (values H start A cs ++ rest) 32 l, drop_at (value H start A c) (values H start A cs ++ rest) 32 l, outcomes_same start started A B cs rest)

  -- equal digests of the days of c come from equal days
  abbrev DaysTold : List (List ℕ) → List (List ℕ) → List ℕ → Type 0
  DaysTold A B c = (g : ℕ) → g among c → digest H (day_of A g) ≡ digest H (day_of B g) → day_of A g ≡ day_of B g

  -- values that agree come from values and days that agree
  agree_back : (A B : List (List ℕ)) (c : List ℕ) (v w : List ℕ) → length v ≡ 32 → length w ≡ 32 → DaysTold A B c →
      NoCollision H (link_inputs H v A c) (link_inputs H w B c) →
      value H v A c ≡ value H w B c → (v ≡ w) × ((g : ℕ) → g among c → day_of A g ≡ day_of B g)
  agree_back A B [] v w hv hw day nc e = (e, λ g m. elim m [ ])
  agree_back A B (g ∷ c) v w hv hw day nc e =
      let a = link_input H A v g in
      let b = link_input H B w g in
      let rest = agree_back A B c (H a) (H b) (sized a) (sized b) (λ x m. day x (Memᴰ.tail m)) (λ x y mx my. nc x y (Memᴰ.tail mx) (Memᴰ.tail my)) e in
      let q : a ≡ b = nc a b (Memᴰ.head refl) (Memᴰ.head refl) rest.0 in
      let h = halves 32 v w (digest H (day_of A g)) (digest H (day_of B g)) hv hw (cc) in
      (h.0, λ x m. elim (Memᴰ.cases_cons m) [ inl r ↦ rw r (day g (Memᴰ.head refl) h.1) | inr k ↦ rest.1 x k ])

  module _ (start : List ℕ) (started : length start ≡ 32) (chains : List (List ℕ)) (d : ℕ) (inside : (c : List ℕ) → c among chains → Within d c)
      (A B : List (List ℕ)) (nc : NoCollision H (inputs H start chains d A) (inputs H start chains d B)) where
    day_input : (L : List (List ℕ)) (c : List ℕ) → c among chains → (g : ℕ) → g among c → (0 ∷ day_of L g) among inputs H start chains d L
    unfolding inputs
    day_input L c m g k =
        let b = inside c m g k in
        Memᴰ.append_left (flat_map (link_inputs H start L) chains) (Memᴰ.map (λ (x : ℕ). 0 ∷ day_of L x) (up_from_mem 1 d g (omega arith) (omega arith)))

    told : (c : List ℕ) → c among chains → DaysTold A B c
    told c m g k e =
        let q : ◌≡◌ {A = List ℕ} (0 ∷ day_of A g) (0 ∷ day_of B g) = nc (0 ∷ day_of A g) (0 ∷ day_of B g) (day_input A c m g k) (day_input B c m g k) e in
        cc

    -- under the premise, values are equal exactly if the covered days are
    pub value_iff : (c : List ℕ) → c among chains → (value H start A c ≡ value H start B c) ↔ ((g : ℕ) → g among c → day_of A g ≡ day_of B g)
    unfolding inputs
    value_iff c m = (
      λ e. (agree_back A B c start start started started (told c m)
          (λ x y mx my.
          nc x y (Memᴰ.append_right (day_parts d A) (chain_inputs_mem H start A m x mx)) (Memᴰ.append_right (day_parts d B) (chain_inputs_mem H start B m y my))) e).1,
      λ f. value_same H A B c start f,
    )

    changed_day : (g : ℕ) → g among changed d A B → day_of A g ≡ day_of B g → ⊥
    unfolding changed
    changed_day g m e =
        true_or_false (eq_same (day_of A g) (day_of B g) e)
        (not-true (same (day_of A g) (day_of B g)) (keep_mem (λ x. not (same (day_of A x) (day_of B x))) (days d) g m).1)

    day_changed : (g : ℕ) → (1 ≤ g) × (g ≤ d) → (g among changed d A B → ⊥) → day_of A g ≡ day_of B g
    unfolding changed
    day_changed g b n = elim (split (same (day_of A g) (day_of B g))) [
      | inl e ↦ same_eq (day_of A g) (day_of B g) e
      | inr e ↦ absurd (n (mem_keep (λ x. not (same (day_of A x) (day_of B x))) (days d) g (up_from_mem 1 d g (omega arith) (omega arith)) (rw e)))
    ]

    same_value_lem : (c : List ℕ) → c among chains → same (value H start A c) (value H start B c) ≡ not (meets (changed d A B) c)
    same_value_lem c m = elim (split (meets (changed d A B) c)) [
      | inl e ↦ rw e (elim (split (same (value H start A c) (value H start B c))) [
        | inl s ↦ let r = meets_day (changed d A B) c e in
            absurd (changed_day r.0 r.2 ((value_iff c m).0 (same_eq (value H start A c) (value H start B c) s) r.0 r.1))
        | inr s ↦ s
      ])
      | inr e ↦ rw e (eq_same (value H start A c) (value H start B c)
          ((value_iff c m).1 (λ g k. day_changed g (inside c m g k) (λ x. true_or_false (meets_of (changed d A B) c g k x) e))))
    ]

    -- under the premise, a check against the book of the days A writes the table that the changed days give
    pub check_table : (rest : List ℕ) → check_outcomes H start B chains (values H start A chains ++ rest) ≡ table_of chains (changed d A B)
    unfolding table_of same_value
    check_table rest =
        outcomes_same start started A B chains rest ∙
        map_same (same_value H start A B) (set_outcome (changed d A B)) chains (λ c m. rw (same_value_lem c m)
        (elim (meets (changed d A B) c) as (λ b. ◌≡◌ {A = ℕ} (cond (not b) 1 0) (cond b 0 1)) [ true ↦ refl | false ↦ refl ]))

  -- with no premise: where the days agree, each value passes
  pub check_unaltered : (start : List ℕ) → length start ≡ 32 → (chains : List (List ℕ)) (d : ℕ) → ((c : List ℕ) → c among chains → Within d c) →
      (A B : List (List ℕ)) → ((g : ℕ) → g among days d → day_of A g ≡ day_of B g) → (rest : List ℕ) →
      check_outcomes H start B chains (values H start A chains ++ rest) ≡ table_of chains []
  unfolding table_of same_value
  check_unaltered start started chains d inside A B agree rest =
      outcomes_same start started A B chains rest ∙ map_same (same_value H start A B) (set_outcome []) chains (λ c m. rw (
        none_met c,
        eq_same (value H start A c) (value H start B c) (value_same H A B c start (λ g k. let b = inside c m g k in agree g (up_from_mem 1 d g (omega arith) (omega arith)))),
      ))
