-- Checking day by day: what the buffers hold after i days.
use mathlib.Core.Path.{◌≡◌, refl, sym, ap, ap₂, ◌∙◌}
use mathlib.Core.Bool.{true, cond}
use mathlib.Core.List.Memᴰ
use mathlib.Core.List.{List, [], ◌∷◌, ◌++◌, map, flat_map, append_assoc, append-nil}
use Prim.Native.Nat.{ℕ, suc, pred, ◌+◌, ◌-◌, ◌*◌, ◌≤◌, ◌<◌}
use native.Mathlib.Numerals.{add-one}
use native.Mathlib.Omega.{arith}
use lib.ListN.{length, get_or, take, drop, length-append, length-drop, get_or-append}
use lib.Seq.{drop-drop, get_or_at, length-take-le}
use borrow.Rule.Slice.PartMut.{mid_of, put_mid}
use Rattle.lists.specs.Lists.{◌among◌, same}
use Rattle.evidence.specs.Evidence.{days, day_of, digest, value, check_outcomes}
use Rattle.lists.proofs.Laws.{up_from_bounds, length-up_from, up_from_snoc}
use Rattle.evidence.proofs.ValueLaws.{value_same}
use Rattle.layouts.specs.Layouts.{allowed_n, Name, covered_days, names_of_day, names_through, chains_of_day, chains}
use Rattle.layouts.proofs.Coverage.{chains_within, chains_front, chains_suc}
use Rattle.ledger.specs.Ledger.{day_at, days_of}
use Rattle.ledger.proofs.DayLaws.{days_none, days_snoc, days_length}
use Rattle.sha256.specs.Sha256.{sha256, hashed}
use Rattle.sha256_words.specs.Words.{bytes_of}
use Rattle.sha256.proofs.Laws.{sha256_length}
use Rattle.chains.specs.declared.Value.{Value}
use Rattle.chains.specs.Book.{start}
use Rattle.chains.specs.Step.{start_value, linked, linked_slots, restarted, current, day_values}
use Rattle.chains.proofs.Values.{chains_of_day-length}
use Rattle.chains.proofs.Running.{Holds, holds_fresh, holds_next, names_of_day_right}
use Rattle.buffers.specs.Private.{Wrote}
use Rattle.buffers.proofs.Lent.{lent_put, lent_length}
use Rattle.buffers.proofs.Writes.{wrote_front, wrote_join}
use Rattle.comparing.proofs.Laws.{to_end}
use Rattle.checking.specs.Contract.{digests_of, outcomes_of}
use Rattle.comparing.specs.Private.{compared}
use Rattle.checking.specs.Private.{State, fresh, after, DayReady, Ready, compared_day}

-- ---- digests and outcomes of one more day

abbrev digests_in : List (List ℕ) → List ℕ → List ℕ
digests_in L gs = flat_map (λ g. digest sha256 (day_of L g)) gs

digests_append : (L : List (List ℕ)) (xs ys : List ℕ) → digests_in L (xs ++ ys) ≡ digests_in L xs ++ digests_in L ys
unfolding flat_map
digests_append L [] ys = refl
digests_append L (x ∷ xs) ys = ap (λ (r : List ℕ). digest sha256 (day_of L x) ++ r) (digests_append L xs ys) ∙ sym (append_assoc (digest sha256 (day_of L x)) (digests_in L xs) (digests_in L ys))

digests_same : (A B : List (List ℕ)) (xs : List ℕ) → ((g : ℕ) → g among xs → day_of A g ≡ day_of B g) → digests_in A xs ≡ digests_in B xs
unfolding flat_map
digests_same A B [] f = refl
digests_same A B (x ∷ xs) f = ap₂ (λ (p q : List ℕ). digest sha256 p ++ q) (f x (Memᴰ.head refl)) (digests_same A B xs (λ g m. f g (Memᴰ.tail m)))

digests_in-length : (L : List (List ℕ)) (xs : List ℕ) → length (digests_in L xs) ≡ 32 * length xs
unfolding flat_map
digests_in-length L [] = refl
digests_in-length L (x ∷ xs) = omega (arith, length-append (digest sha256 (day_of L x)) (digests_in L xs), sha256_length (0 ∷ day_of L x), digests_in-length L xs)

outcomes_append : (first : List ℕ) (L cs ds : List (List ℕ)) (book : List ℕ) →
    check_outcomes sha256 first L (cs ++ ds) book ≡ check_outcomes sha256 first L cs book ++ check_outcomes sha256 first L ds (drop (32 * length cs) book)
outcomes_append first L [] ds book = refl
outcomes_append first L (c ∷ cs) ds book =
    let e : 32 + 32 * length cs ≡ 32 * suc (length cs) = omega arith in
    ap (λ (r : List ℕ). cond (same (take 32 book) (value sha256 first L c)) 1 0 ∷ r)
    (outcomes_append first L cs ds (drop 32 book) ∙ ap (λ (r : List ℕ). check_outcomes sha256 first L cs (drop 32 book) ++ check_outcomes sha256 first L ds r)
    (drop-drop (32 * length cs) 32 book ∙ ap (λ (k : ℕ). drop k book) e))

outcomes_same : (first : List ℕ) (A B cs : List (List ℕ)) (book : List ℕ) → ((c : List ℕ) → c among cs → value sha256 first A c ≡ value sha256 first B c) →
    check_outcomes sha256 first A cs book ≡ check_outcomes sha256 first B cs book
outcomes_same first A B [] book f = refl
outcomes_same first A B (c ∷ cs) book f =
    ap₂ (λ (v r : List ℕ). cond (same (take 32 book) v) 1 0 ∷ r) (f c (Memᴰ.head refl)) (outcomes_same first A B cs (drop 32 book) (λ d m. f d (Memᴰ.tail m)))

pub check_outcomes-length : (first : List ℕ) (L cs : List (List ℕ)) (book : List ℕ) → length (check_outcomes sha256 first L cs book) ≡ length cs
check_outcomes-length first L [] book = refl
check_outcomes-length first L (c ∷ cs) book = ap suc (check_outcomes-length first L cs (drop 32 book))

-- values of named chains, compared
compared_names : (n : ℕ) (first : List ℕ) (F : List (List ℕ)) (b : Value) (l : List Value) (xs : List Name) (book : List ℕ) →
    ((x : Name) → x among xs → bytes_of (current b l x).words ≡ value sha256 first F (covered_days n x)) → compared (map (current b l) xs) book ≡ check_outcomes sha256 first F
    (map (covered_days n) xs) book
unfolding compared
compared_names n first F b l [] book f = refl
compared_names n first F b l (x ∷ xs) book f =
    ap₂ (λ (v r : List ℕ). cond (same (take 32 book) v) 1 0 ∷ r) (f x (Memᴰ.head refl)) (compared_names n first F b l xs (drop 32 book) (λ y m. f y (Memᴰ.tail m)))

compared_day_lem : (s n : ℕ) (E : List (List ℕ)) (day : List ℕ) (a : allowed_n n ≡ true) (b : Value) (slots : List Value) (h : List ℕ) → Holds s n E b slots → bytes_of h ≡ digest sha256 day →
    suc (length E) ≤ 65536 → (book : List ℕ) →
    compared (day_values s n (suc (length E)) (linked b h) (linked_slots s n (suc (length E)) h slots)) book ≡ check_outcomes sha256 (start s n) (E ++ (day ∷ [])) (chains_of_day s n (suc (length E)))
    book
unfolding day_values chains_of_day
compared_day_lem s n E day a b slots h held hash few book =
    compared_names n (start s n) (E ++ (day ∷ [])) (linked b h) (linked_slots s n (suc (length E)) h slots) (names_of_day s n (suc (length E))) book
    (names_of_day_right s n E day a b slots h held hash few)

-- ---- the lengths of what a check writes

pub digests_length : (ledger ends : List ℕ) (d : ℕ) → length (digests_of ledger ends d) ≡ 32 * d
unfolding digests_of
digests_length ledger ends d = digests_in-length (days_of ledger ends d) (days d) ∙ ap (λ (x : ℕ). 32 * x) (length-up_from 1 d)

pub outcomes_length : (s n d : ℕ) (ledger ends book : List ℕ) → length (outcomes_of s n d ledger ends book) ≡ length (chains s n d)
unfolding outcomes_of
outcomes_length s n d ledger ends book = check_outcomes-length (start s n) (days_of ledger ends d) (chains s n d) book

-- ---- after i days

pub record Through (d : ℕ) (ledger ends book oldWork oldOutcomes : List ℕ) (i at : ℕ) (r : State) (work outs : List ℕ) : Type 0 where
  pub ready : Ready r.scheme r.n d ends (length ledger) (length book) (length oldWork) (length oldOutcomes)
  pub start_is : r.start ≡ start_value r.scheme r.n
  pub holds : Holds r.scheme r.n (days_of ledger ends i) r.black r.slots
  pub at_is : at ≡ length (chains r.scheme r.n i)
  pub work_is : Wrote 0 (digests_of ledger ends i) oldWork (32 * i) work
  pub outcomes_are : outs ≡ outcomes_of r.scheme r.n i ledger ends book ++ drop at oldOutcomes
  pub outcomes_length_is : length outs ≡ length oldOutcomes

pub through_none : (d : ℕ) (ledger ends book work outs : List ℕ) (r : State) → Ready r.scheme r.n d ends (length ledger) (length book) (length work) (length outs) →
    r ≡ fresh r.scheme r.n → Through d ledger ends book work outs 0 0 r work outs
unfolding digests_of outcomes_of chains names_through flat_map
through_none d ledger ends book work outs r ok e =
    record {
      ready = ok;
      start_is = ap (λ (x : State). x.start) e;
      holds = rw (days_none ledger ends, ap (λ (x : State). x.black) e, ap (λ (x : State). x.slots) e) (holds_fresh r.scheme r.n ok.n_ok);
      at_is = refl;
      work_is = record { count = refl; list = refl };
      outcomes_are = refl;
      outcomes_length_is = refl;
    }

-- what stands in a state made new
module _ {r : State} {s n : ℕ} (e : r ≡ fresh s n) where
  pub new_fresh : r ≡ fresh r.scheme r.n
  new_fresh = e ∙ ap₂ fresh (sym (ap (λ (x : State). x.scheme) e)) (sym (ap (λ (x : State). x.n) e))

  pub new_ready : {d : ℕ} {ends : List ℕ} {size bookSize workSize places : ℕ} → Ready s n d ends size bookSize workSize places →
      Ready r.scheme r.n d ends size bookSize workSize places
  new_ready ok = rw e ok

  pub new_outcomes : (d : ℕ) (ledger ends book outs : List ℕ) {o : List ℕ} → o ≡ outcomes_of r.scheme r.n d ledger ends book ++ drop (length (chains r.scheme r.n d)) outs →
      o ≡ outcomes_of s n d ledger ends book ++ drop (length (chains s n d)) outs
  new_outcomes d ledger ends book outs h =
      h ∙ ap₂ (λ (x y : ℕ). outcomes_of x y d ledger ends book ++ drop (length (chains x y d)) outs) (ap (λ (x : State). x.scheme) e) (ap (λ (x : State). x.n) e)

-- there are no more values over fewer days
chains_most : (s n i d : ℕ) → i ≤ d → length (chains s n i) ≤ length (chains s n d)
chains_most s n i d h =
    let r = chains_front s n i d h in
    omega (arith, ap length r.1, length-append (chains s n i) r.0)

module _ {d : ℕ} {ledger ends book oldWork oldOutcomes : List ℕ} {i at : ℕ} {r : State} {work outs : List ℕ}
    (t : Through d ledger ends book oldWork oldOutcomes i at r work outs) where
  abbrev s : ℕ
  s = r.scheme

  abbrev n : ℕ
  n = r.n

  -- where the parts that a turn lends begin
  pub parts_within : i ≤ d → (32 * at ≤ length book) × (at ≤ length outs)
  parts_within h =
      let f = chains_most s n i d h in (
        omega (arith, t.at_is, t.ready.book_long),
        omega (arith, t.at_is, t.ready.outcomes_long, t.outcomes_length_is),
      )

  pub through_all : {x y : ℕ} → i ≡ d → s ≡ x → n ≡ y →
      (work ≡ digests_of ledger ends d ++ drop (32 * d) oldWork) × (outs ≡ outcomes_of x y d ledger ends book ++ drop (length (chains x y d)) oldOutcomes)
  through_all e es en = (
    rw e at (wrote_front (32 * i) t.work_is (digests_length ledger ends i)),
    rw (← es, ← en) (t.outcomes_are ∙ ap₂ (λ (x y : ℕ). outcomes_of s n x ledger ends book ++ drop y oldOutcomes) e (t.at_is ∙ ap (λ (x : ℕ). length (chains s n x)) e)),
  )

  module _ (h : i < d) where
    abbrev E : ℕ → List (List ℕ)
    E x = days_of ledger ends x

    days_are : length (E i) ≡ i
    days_are = days_length ledger ends i

    next_count : length (chains s n (suc i)) ≡ length (chains s n i) + length (names_of_day s n (suc i))
    next_count = ap length (chains_suc s n i) ∙ length-append (chains s n i) (chains_of_day s n (suc i)) ∙ ap (λ (x : ℕ). length (chains s n i) + x) (chains_of_day-length s n (suc i))

    -- the place behind the day's outcomes
    place_next : {k : ℕ} → k ≡ length (names_of_day s n (i + 1)) → at + k ≡ length (chains s n (suc i))
    place_next c = omega (arith, t.at_is, next_count, c ∙ ap (λ (x : ℕ). length (names_of_day s n x)) (add-one i))

    pub values_fit : {k : ℕ} → k ≡ length (names_of_day s n (i + 1)) → at + k ≤ length oldOutcomes
    values_fit c = let f = chains_most s n (suc i) d h in omega (arith, place_next c, t.ready.outcomes_long)

    -- what the day's call asks
    pub day_needs : DayReady r (i + 1) (length (take (length book - 32 * at) (drop (32 * at) book))) (length (mid_of at (length outs - at) outs))
    day_needs =
        let f = chains_most s n (suc i) d h in
        let c = next_count in
        rw (add-one i) (record {
          scheme_ok = t.ready.scheme_ok;
          n_ok = t.ready.n_ok;
          some = omega arith;
          most = omega (arith, t.ready.days_most);
          book_long = rw (length_part book (32 * at)) (omega (arith, t.at_is, t.ready.book_long));
          outcomes_long = rw (length_part outs at) (omega (arith, t.at_is, t.ready.outcomes_long, t.outcomes_length_is));
        })
      where
        length_part : (xs : List ℕ) (k : ℕ) → length (take (length xs - k) (drop k xs)) ≡ length xs - k
        length_part xs k = length-take-le (length xs - k) (drop k xs) (rw length-drop (omega arith))

    -- the day
    abbrev day : List ℕ
    day = day_at ledger ends i

    snoc : E (suc i) ≡ E i ++ (day ∷ [])
    snoc = days_snoc ledger ends i

    old_days : (x : ℕ) → (1 ≤ x) × (x ≤ i) → day_of (E (suc i)) x ≡ day_of (E i) x
    old_days x k = ap (λ (l : List (List ℕ)). day_of l x) snoc ∙ get_or-append (E i) (day ∷ []) [] (pred x) (omega (arith, k.0, k.1, days_are))

    new_day : day_of (E (suc i)) (suc i) ≡ day
    new_day = ap (λ (l : List (List ℕ)). get_or l i []) snoc ∙ get_or_at (E i) day [] [] i days_are

    digests_next : digests_of ledger ends (suc i) ≡ digests_of ledger ends i ++ digest sha256 day
    unfolding digests_of flat_map
    digests_next =
        ap (digests_in (E (suc i))) (up_from_snoc 1 i ∙ ap (λ (x : ℕ). days i ++ (x ∷ [])) one_more) ∙ digests_append (E (suc i)) (days i) (suc i ∷ []) ∙
        ap₂ (λ (p q : List ℕ). p ++ q) (digests_same (E (suc i)) (E i) (days i) (λ g m. let k = up_from_bounds 1 i g m in old_days g (omega arith, omega arith)))
        (ap (λ (p : List ℕ). digest sha256 p ++ []) new_day ∙ append-nil (digest sha256 day))
      where
        one_more : 1 + i ≡ suc i
        one_more = omega arith

    outcomes_next : outcomes_of s n (suc i) ledger ends book ≡ outcomes_of s n i ledger ends book ++ check_outcomes sha256 (start s n) (E i ++ (day ∷ [])) (chains_of_day s n (suc (length (E i))))
        (drop (32 * at) book)
    unfolding outcomes_of
    outcomes_next =
        ap (λ (cs : List (List ℕ)). check_outcomes sha256 (start s n) (E (suc i)) cs book) (chains_suc s n i) ∙
        outcomes_append (start s n) (E (suc i)) (chains s n i) (chains_of_day s n (suc i)) book ∙
        ap₂ (λ (p q : List ℕ). p ++ q) (outcomes_same (start s n) (E (suc i)) (E i) (chains s n i) book
        (λ c m. value_same sha256 (E (suc i)) (E i) c (start s n) (λ g k. old_days g (chains_within s n i c m g k))))
        (ap₂ (λ (L : List (List ℕ)) (k : ℕ). check_outcomes sha256 (start s n) L (chains_of_day s n (suc k)) (drop (32 * length (chains s n i)) book)) snoc (sym days_are) ∙
        ap (λ (k : ℕ). check_outcomes sha256 (start s n) (E i ++ (day ∷ [])) (chains_of_day s n (suc (length (E i)))) (drop (32 * k) book)) (sym t.at_is))

    outcomes_size : length (outcomes_of s n i ledger ends book) ≡ at
    outcomes_size = outcomes_length s n i ledger ends book ∙ sym t.at_is

    -- the day's digest written, and its chains closed
    module _ {bytes hd b : List ℕ} {k to : ℕ} {w o : List ℕ} {next : State} (is-day : bytes ≡ day) (is-digest : hd ≡ hashed (0 ∷ bytes)) (is-bytes : b ≡ bytes_of hd)
        (worked : Wrote (32 * i) b work to w) (counted : k ≡ length (names_of_day s n (i + 1))) (closed : next ≡ after r (i + 1) hd)
        (found : o ≡ compared_day r (i + 1) hd (take (length book - 32 * at) (drop (32 * at) book)) ++ drop k (mid_of at (length outs - at) outs)) where
      hash : bytes_of hd ≡ digest sha256 day
      unfolding sha256
      hash = ap bytes_of is-digest ∙ ap (λ (x : List ℕ). bytes_of (hashed (0 ∷ x))) is-day

      bytes_are : b ≡ digest sha256 day
      bytes_are = is-bytes ∙ hash

      day_is : i + 1 ≡ suc (length (E i))
      day_is = omega (arith, days_are)

      room : suc (length (E i)) ≤ 65536
      room = omega (arith, days_are, t.ready.days_most)

      found_is : compared_day r (i + 1) hd (take (length book - 32 * at) (drop (32 * at) book)) ≡ check_outcomes sha256 (start s n) (E i ++ (day ∷ []))
          (chains_of_day s n (suc (length (E i)))) (drop (32 * at) book)
      found_is =
          ap₂ (λ (x : ℕ) (l : List ℕ). compared_day r x hd l) day_is (to_end book (32 * at)) ∙
          compared_day_lem s n (E i) day t.ready.n_ok r.black r.slots hd t.holds hash room (drop (32 * at) book)

      work_next : Wrote 0 (digests_of ledger ends (i + 1)) oldWork (32 * (i + 1)) w
      work_next =
          wrote_join 0 (digests_of ledger ends (i + 1)) (digests_of ledger ends i) b oldWork work w (32 * i) (32 * (i + 1))
          (rw (add-one i, bytes_are) digests_next) (omega (arith, digests_length ledger ends (i + 1), t.ready.work_long)) t.work_is (rw to_is at worked)
        where
          to_is : to ≡ 32 * (i + 1)
          to_is = omega (arith, worked.count, ap length bytes_are, sha256_length (0 ∷ day))

      outcomes_put : put_mid at (length outs - at) outs o ≡ outcomes_of s n (suc i) ledger ends book ++ drop (at + k) oldOutcomes
      outcomes_put =
          lent_put (outcomes_of s n i ledger ends book) oldOutcomes outs at t.outcomes_are outcomes_size t.outcomes_length_is o
          (compared_day r (i + 1) hd (take (length book - 32 * at) (drop (32 * at) book))) k found ∙
          ap (λ (p : List ℕ). p ++ drop (at + k) oldOutcomes) (ap (λ (p : List ℕ). outcomes_of s n i ledger ends book ++ p) found_is ∙ sym outcomes_next)

      values_length : length (compared_day r (i + 1) hd (take (length book - 32 * at) (drop (32 * at) book))) ≡ k
      values_length =
          ap length found_is ∙ check_outcomes-length (start s n) (E i ++ (day ∷ [])) (chains_of_day s n (suc (length (E i)))) (drop (32 * at) book) ∙
          chains_of_day-length s n (suc (length (E i))) ∙ sym (counted ∙ ap (λ (x : ℕ). length (names_of_day s n x)) day_is)

      pub through_next : Through d ledger ends book oldWork oldOutcomes (i + 1) (at + k) next w (put_mid at (length outs - at) outs o)
      through_next =
          rw (closed, add-one i) (record {
            ready = t.ready;
            start_is = t.start_is;
            holds = rw snoc (holds_next s n (E i) day t.ready.n_ok r.black r.slots hd t.holds hash refl slots_next);
            at_is = place_next counted;
            work_is = rw (add-one i) at work_next;
            outcomes_are = outcomes_put;
            outcomes_length_is =
                lent_length (outcomes_of s n i ledger ends book) oldOutcomes outs at t.outcomes_are outcomes_size t.outcomes_length_is o
                (compared_day r (i + 1) hd (take (length book - 32 * at) (drop (32 * at) book))) k found values_length (values_fit counted);
          })
        where
          slots_next : restarted s n (suc i) r.start (linked_slots s n (suc i) hd r.slots) ≡
              restarted s n (suc (length (E i))) (start_value s n) (linked_slots s n (suc (length (E i))) hd r.slots)
          slots_next = ap₂ (λ (x : ℕ) (v : Value). restarted s n x v (linked_slots s n x hd r.slots)) (sym (add-one i) ∙ day_is) t.start_is
