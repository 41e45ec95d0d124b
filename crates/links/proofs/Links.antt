-- The two blocks of the byte 1 and sixteen words, one by themselves and in lanes.
-- Assumes nothing.
use Prim.Native.Nat.{ℕ, zero, suc, ◌+◌, ◌*◌, ◌/◌, ◌%◌, ◌^◌, ◌<◌}
use mathlib.Core.Path.{◌≡◌, refl, sym, ap, ap₂, ◌∙◌}
use mathlib.Core.List.{List, [], ◌∷◌, ◌++◌}
use native.Mathlib.Omega.{arith}
use lib.ListN.{length, get_or, drop, drop_of_length-le}
use lib.Seq.{drop-cons}
use Rattle.sha256_words.specs.Words.{initial, word_at, words, bytes_of}
use Rattle.sha256.specs.Sha256.{compress, chunks, blocks, wide, padding, hashed}
use Rattle.sha256.proofs.Laws.{length_compress}
use Rattle.lanes.specs.Lanes.{lane, lane_after, compressed, lane_after_same, compressed_same}
use Rattle.lanes.specs.Private.{Lanes, always}
use Rattle.lanes.proofs.LaneLaws.{length_rows, lane_rows}
use Rattle.links.specs.Private.{across, front, back, link_of}

pub across_of : (a b : ℕ) → b < 2 ^ 32 → a % 256 * 16777216 + b / 256 ≡ across a b
unfolding across
across_of a b l = omega arith

pub front_of : (v h : List ℕ) {w0 w1 w2 w3 w4 w5 w6 w7 w8 w9 w10 w11 w12 w13 w14 w15 : ℕ}
    → w0 ≡ across 1 (get_or v 0 0)
    → w1 ≡ across (get_or v 0 0) (get_or v 1 0)
    → w2 ≡ across (get_or v 1 0) (get_or v 2 0)
    → w3 ≡ across (get_or v 2 0) (get_or v 3 0)
    → w4 ≡ across (get_or v 3 0) (get_or v 4 0)
    → w5 ≡ across (get_or v 4 0) (get_or v 5 0)
    → w6 ≡ across (get_or v 5 0) (get_or v 6 0)
    → w7 ≡ across (get_or v 6 0) (get_or v 7 0)
    → w8 ≡ across (get_or v 7 0) (get_or h 0 0)
    → w9 ≡ across (get_or h 0 0) (get_or h 1 0)
    → w10 ≡ across (get_or h 1 0) (get_or h 2 0)
    → w11 ≡ across (get_or h 2 0) (get_or h 3 0)
    → w12 ≡ across (get_or h 3 0) (get_or h 4 0)
    → w13 ≡ across (get_or h 4 0) (get_or h 5 0)
    → w14 ≡ across (get_or h 5 0) (get_or h 6 0)
    → w15 ≡ across (get_or h 6 0) (get_or h 7 0)
    → w0 ∷ w1 ∷ w2 ∷ w3 ∷ w4 ∷ w5 ∷ w6 ∷ w7 ∷ w8 ∷ w9 ∷ w10 ∷ w11 ∷ w12 ∷ w13 ∷ w14 ∷ w15 ∷ [] ≡ front v h
unfolding front
front_of v h e0 e1 e2 e3 e4 e5 e6 e7 e8 e9 e10 e11 e12 e13 e14 e15 = rw (e0, e1, e2, e3, e4, e5, e6, e7, e8, e9, e10, e11, e12, e13, e14, e15)

pub back_of : (h : List ℕ) {w : ℕ} → w ≡ across (get_or h 7 0) 0x80000000 → w ∷ 0 ∷ 0 ∷ 0 ∷ 0 ∷ 0 ∷ 0 ∷ 0 ∷ 0 ∷ 0 ∷ 0 ∷ 0 ∷ 0 ∷ 0 ∷ 0 ∷ 520 ∷ [] ≡ back h
unfolding back
back_of h e = rw e

-- n elements of l, from element j on
gets : ℕ → ℕ → List ℕ → List ℕ
gets j zero l = []
gets j (suc n) l = get_or l j 0 ∷ gets (suc j) n l

gets_drop : (n j : ℕ) (l : List ℕ) → length l ≡ j + n → gets j n l ≡ drop j l
unfolding gets
gets_drop zero j l e = sym (drop_of_length-le l {i = j} (omega arith))
gets_drop (suc n) j l e =
    ap (λ (x : List ℕ). get_or l j 0 ∷ x) (gets_drop n (suc j) l (omega arith)) ∙ sym (drop-cons l j 0 (omega arith))

-- eight elements, one by one
eight : (l : List ℕ) → length l ≡ 8
    → l ≡ get_or l 0 0 ∷ get_or l 1 0 ∷ get_or l 2 0 ∷ get_or l 3 0 ∷ get_or l 4 0 ∷ get_or l 5 0 ∷ get_or l 6 0 ∷ get_or l 7 0 ∷ []
unfolding gets
eight l e = sym (gets_drop 8 0 l e)

two_blocks : (v0 v1 v2 v3 v4 v5 v6 v7 h0 h1 h2 h3 h4 h5 h6 h7 : ℕ)
    → compress (compress initial (front (v0 ∷ v1 ∷ v2 ∷ v3 ∷ v4 ∷ v5 ∷ v6 ∷ v7 ∷ []) (h0 ∷ h1 ∷ h2 ∷ h3 ∷ h4 ∷ h5 ∷ h6 ∷ h7 ∷ []))) (back (h0 ∷ h1 ∷ h2 ∷ h3 ∷ h4 ∷ h5 ∷ h6 ∷ h7 ∷ []))
    ≡ hashed (1 ∷ (bytes_of (v0 ∷ v1 ∷ v2 ∷ v3 ∷ v4 ∷ v5 ∷ v6 ∷ v7 ∷ []) ++ bytes_of (h0 ∷ h1 ∷ h2 ∷ h3 ∷ h4 ∷ h5 ∷ h6 ∷ h7 ∷ [])))
unfolding hashed blocks chunks padding wide bytes_of words word_at front back across
two_blocks v0 v1 v2 v3 v4 v5 v6 v7 h0 h1 h2 h3 h4 h5 h6 h7 = refl

pub link_of_lem : (v h : List ℕ) {i m n g r : List ℕ} → m ≡ front v h → n ≡ back h → i ≡ initial → g ≡ compress i m → r ≡ compress g n
    → length v ≡ 8 → length h ≡ 8 → r ≡ hashed (1 ∷ (bytes_of v ++ bytes_of h))
link_of_lem v h em en ei eg er lv lh =
    er ∙ ap₂ compress (eg ∙ ap₂ compress ei em) en
    ∙ ap₂ (λ (a b : List ℕ). compress (compress initial (front a b)) (back b)) (eight v lv) (eight h lh)
    ∙ two_blocks (get_or v 0 0) (get_or v 1 0) (get_or v 2 0) (get_or v 3 0) (get_or v 4 0) (get_or v 5 0) (get_or v 6 0) (get_or v 7 0) (get_or h 0 0) (get_or h 1 0) (get_or h 2 0) (get_or h 3 0) (get_or h 4 0)
    (get_or h 5 0) (get_or h 6 0) (get_or h 7 0)
    ∙ sym (ap₂ (λ (a b : List ℕ). hashed (1 ∷ (bytes_of a ++ bytes_of b))) (eight v lv) (eight h lh))

-- ---- links in lanes

pub firsts_are : (v : List ℕ) (r : List (List ℕ)) → Lanes 8 (always v) r → v ≡ initial → Lanes 8 (always initial) r
firsts_are v r h e = record { size = h.size; each = λ j l. h.each j l ∙ e }

pub lanes_of : (h : List ℕ) (s m : List (List ℕ)) {g : List (List ℕ)} {n : List ℕ} {r : List (List ℕ)} → Lanes 8 (always initial) s → g ≡ compressed s m → n ≡ back h → r ≡ compressed_same g n → Lanes 8 (link_of m h) r
unfolding compressed compressed_same
lanes_of h s m {g} {n} ls eg en er =
    record {
      size = ap length er ∙ length_rows 8 (lane_after_same g n);
      each = λ j l.
          ap (λ (x : List (List ℕ)). lane x j) er ∙ lane_rows 8 (lane_after_same g n) j l (length_compress (lane g j) n)
          ∙ ap₂ compress (ap (λ (x : List (List ℕ)). lane x j) eg ∙ lane_rows 8 (lane_after s m) j l (length_compress (lane s j) (lane m j))
          ∙ ap (λ (x : List ℕ). compress x (lane m j)) (ls.each j l)) en;
    }
