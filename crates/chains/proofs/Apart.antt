-- Values under starts that differ: no value of one book is a value of the other, if no two of the inputs hashed for them
-- collide. Nothing is assumed of the hash but its length.
use mathlib.Core.Path.{◌≡◌, refl, sym, ap, ◌∙◌}
use mathlib.Core.Logic.{inl, inr}
use mathlib.Core.Bool.{true}
use mathlib.Core.List.Memᴰ
use mathlib.Core.List.{List, [], ◌∷◌, ◌++◌, map}
use Prim.Native.Nat.{ℕ, ◌-◌, ◌^◌}
use native.Mathlib.Decide.{dec_le}
use native.Mathlib.Omega.{arith}
use lib.ListN.{length, take, drop, length-drop, take-append-drop}
use lib.Seq.{take_at}
use Rattle.lists.specs.Lists.{◌among◌}
use Rattle.lists.proofs.Laws.{flat_map_mem}
use Rattle.evidence.specs.Evidence.{days, day_of, digest, link_input, value, link_inputs, inputs, NoCollision}
use Rattle.evidence.proofs.ValueLaws.{value_append, length_value}
use Rattle.layouts.specs.Layouts.{allowed_n, lg, chains}
use Rattle.layouts.proofs.AllowedLaws.{allowed_n_is}
use Rattle.sha256.specs.Sha256.{sha256}
use Rattle.sha256.proofs.Laws.{sha256_length}
use Rattle.chains.specs.Book.{start_input, start, inputs_of}

-- ---- chains that go on from hashes, over any hash of 32 bytes

module _ (H : List ℕ → List ℕ) (sized : (x : List ℕ) → length (H x) ≡ 32) where
  -- what is hashed for a chain's end, and for its front, is hashed for the chain
  inputs_behind : (L : List (List ℕ)) (p q v x : List ℕ) → x among link_inputs H (value H v L p) L q → x among link_inputs H v L (p ++ q)
  inputs_behind L [] q v x m = m
  inputs_behind L (g ∷ p) q v x m = Memᴰ.tail (inputs_behind L p q (H (link_input H L v g)) x m)

  inputs_before : (L : List (List ℕ)) (p q v x : List ℕ) → x among link_inputs H v L p → x among link_inputs H v L (p ++ q)
  inputs_before L [] q v x m = elim m [ ]
  inputs_before L (g ∷ p) q v x m = elim (Memᴰ.cases_cons m) [
    | inl e ↦ Memᴰ.head e
    | inr k ↦ Memᴰ.tail (inputs_before L p q (H (link_input H L v g)) x k)
  ]

  -- chains of as many days: equal values go on from equal values
  go_back : (A B : List (List ℕ)) (c e v w : List ℕ) → length v ≡ 32 → length w ≡ 32 → length c ≡ length e →
      NoCollision H (link_inputs H v A c) (link_inputs H w B e) → value H v A c ≡ value H w B e → v ≡ w
  go_back A B [] [] v w hv hw l nc q = q
  go_back A B [] (k ∷ e) v w hv hw l nc q = absurd (omega arith)
  go_back A B (g ∷ c) [] v w hv hw l nc q = absurd (omega arith)
  go_back A B (g ∷ c) (k ∷ e) v w hv hw l nc q =
      let a = link_input H A v g in
      let b = link_input H B w k in
      let r = go_back A B c e (H a) (H b) (sized a) (sized b) (omega arith) (λ x y mx my. nc x y (Memᴰ.tail mx) (Memᴰ.tail my)) q in
      let s : a ≡ b = nc a b (Memᴰ.head refl) (Memᴰ.head refl) r in
      let t : v ++ digest H (day_of A g) ≡ w ++ digest H (day_of B k) = cc in
      cc (take_at v (digest H (day_of A g)) 32 hv, take_at w (digest H (day_of B k)) 32 hw)

  -- the value of a chain with a day is the hash of a link, which begins with 01
  last_link : (L : List (List ℕ)) (g : ℕ) (p v : List ℕ) →
      (u : List ℕ) × ((1 ∷ u) among link_inputs H v L (g ∷ p)) × (value H v L (g ∷ p) ≡ H (1 ∷ u))
  last_link L g [] v = (v ++ digest H (day_of L g), Memᴰ.head refl, refl)
  last_link L g (k ∷ p) v = let r = last_link L k p (H (link_input H L v g)) in (r.0, Memᴰ.tail r.1, r.2)

  -- a chain from the hash of a, and one from that of b with as many days or more
  longer : (A B : List (List ℕ)) (a b : List ℕ) → (a ≡ b → ⊥) → ((u : List ℕ) → a ≡ 1 ∷ u → ⊥) → (c p q : List ℕ) → length c ≡ length q →
      NoCollision H (a ∷ link_inputs H (H a) A c) (b ∷ link_inputs H (H b) B (p ++ q)) → value H (H a) A c ≡ value H (H b) B (p ++ q) → ⊥
  longer A B a b differ no_link c p q l nc e = first p (λ y m. nc a y (Memᴰ.head refl) m) from
    where
      from : H a ≡ value H (H b) B p
      from =
          go_back A B c q (H a) (value H (H b) B p) (sized a) (length_value H sized B p (H b) (sized b)) l
          (λ x y mx my. nc x y (Memᴰ.tail mx) (Memᴰ.tail (inputs_behind B p q (H b) y my))) (e ∙ value_append H B p q (H b))

      first : (p : List ℕ) → ((y : List ℕ) → y among b ∷ link_inputs H (H b) B (p ++ q) → H a ≡ H y → a ≡ y) → H a ≡ value H (H b) B p → ⊥
      first [] clear s = differ (clear b (Memᴰ.head refl) s)
      first (g ∷ p) clear s =
          let r = last_link B g p (H b) in
          no_link r.0 (clear (1 ∷ r.0) (Memᴰ.tail (inputs_before B (g ∷ p) q (H b) (1 ∷ r.0) r.1)) (s ∙ r.2))

  values_apart : (A B : List (List ℕ)) (a b : List ℕ) → (a ≡ b → ⊥) → ((u : List ℕ) → a ≡ 1 ∷ u → ⊥) → ((u : List ℕ) → b ≡ 1 ∷ u → ⊥) → (c e : List ℕ) →
      NoCollision H (a ∷ link_inputs H (H a) A c) (b ∷ link_inputs H (H b) B e) → value H (H a) A c ≡ value H (H b) B e → ⊥
  values_apart A B a b differ a-none b-none c e nc q = elim (dec_le (length c) (length e)) [
    | yes h ↦ let k = length e - length c in let s = take-append-drop k e in
        longer A B a b differ a-none c (take k e) (drop k e) (omega (arith, length-drop k e)) (rw s nc) (rw s q)
    | no h ↦ let k = length c - length e in let s = take-append-drop k c in
        longer B A b a (λ x. differ (sym x)) b-none e (take k c) (drop k c) (omega (arith, length-drop k c))
        (rw s (λ x y mx my r. sym (nc y x my mx (sym r)))) (rw s (sym q))
  ]

-- ---- layouts that differ

-- the three bytes name scheme and N
start_names : (s n t m : ℕ) → allowed_n n ≡ true → allowed_n m ≡ true → start_input s n ≡ start_input t m → (s ≡ t) × (n ≡ m)
unfolding start_input
start_names s n t m a b e =
    let scheme : s ≡ t = cc in
    let size : lg n ≡ lg m = cc in
    (scheme, (allowed_n_is n a).power ∙ ap (λ (k : ℕ). 2 ^ k) size ∙ sym (allowed_n_is m b).power)

no_link : (s n : ℕ) (u : List ℕ) → start_input s n ≡ 1 ∷ u → ⊥
unfolding start_input
no_link s n u e = let q : ◌≡◌ {A = ℕ} 2 1 = cc in omega arith

-- what is hashed for a chain of the layout, the start's input included
hashed_for : (s n d : ℕ) (L : List (List ℕ)) (c : List ℕ) → c among chains s n d →
    (x : List ℕ) → x among start_input s n ∷ link_inputs sha256 (start s n) L c → x among inputs_of s n d L
unfolding inputs_of inputs
hashed_for s n d L c m x k = elim (Memᴰ.cases_cons k) [
  | inl e ↦ Memᴰ.head e
  | inr i ↦ Memᴰ.tail (Memᴰ.append_right (map (λ g. 0 ∷ day_of L g) (days d)) (flat_map_mem (link_inputs sha256 (start s n) L) m x i))
]

pub layouts_apart : (s n t m : ℕ) → allowed_n n ≡ true → allowed_n m ≡ true → ((s ≡ t) × (n ≡ m) → ⊥) → (d k : ℕ) (A B : List (List ℕ)) →
    NoCollision sha256 (inputs_of s n d A) (inputs_of t m k B) → (c e : List ℕ) → c among chains s n d → e among chains t m k →
    value sha256 (start s n) A c ≡ value sha256 (start t m) B e → ⊥
unfolding start
layouts_apart s n t m a b differ d k A B nc c e mc me =
    values_apart sha256 sha256_length A B (start_input s n) (start_input t m) (λ q. differ (start_names s n t m a b q)) (no_link s n) (no_link t m) c e
    (λ x y mx my. nc x y (hashed_for s n d A c mc x mx) (hashed_for t m k B e me y my))
