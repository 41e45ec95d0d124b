-- Links counted, and the blocks that they compress: two each.
use mathlib.Core.Path.{◌≡◌, refl, sym, ap, ◌∙◌}
use native.Mathlib.Numerals.{add-one}
use mir.Val.{bool_byte}
use mathlib.Core.Bool.{Bool, true, false, cond}
use mathlib.Core.List.{List, [], ◌∷◌}
use Prim.Native.Nat.{ℕ, zero, suc, ◌+◌, ◌*◌, ◌≤◌}
use native.Mathlib.Omega.{arith}
use lib.ListN.{length, length-append}
use Rattle.sha256_words.specs.Words.{bytes_of}
use Rattle.sha256_words.proofs.Laws.{length_bytes}
use Rattle.sha256.proofs.Laws.{hashed_blocks_lem}
use Rattle.chains.specs.declared.Value.{Value}
use Rattle.chains.specs.Step.{link_bytes, link_blocks, links_slot, slot_blocks, slot_links, links_of}

-- ---- counted by a loop

pub links_more : (s n g i : ℕ) (b : Bool) {k x : ℕ} → k ≡ suc (slot_links s n g i) → b ≡ links_slot s n g i → x ≡ bool_byte b → k + x ≡ suc (slot_links s n g (i + 1))
links_more s n g i true h e q = rw (add-one, h, q, sym e) (omega arith)
links_more s n g i false h e q = rw (add-one, h, q, sym e) (omega arith)

-- at most one for each slot
pub one_link : (b : Bool) {x : ℕ} → x ≡ cond b 1 0 → x ≤ 1
one_link true e = omega arith
one_link false e = omega arith

pub slot_links_most : (s n g k : ℕ) → slot_links s n g k ≤ k
slot_links_most s n g zero = omega arith
slot_links_most s n g (suc k) = omega (arith, slot_links_most s n g k, one_link (links_slot s n g k) refl)

pub links_most : (s n g : ℕ) → links_of s n g ≤ 18
unfolding links_of
links_most s n g = omega (arith, slot_links_most s n g 17)

-- ---- blocks

-- a link takes two
pub link_blocks_lem : (v : Value) (h : List ℕ) → length v.words ≡ 8 → length h ≡ 8 → link_blocks v h ≡ 2
unfolding link_blocks
link_blocks_lem v h ev eh =
    let m : length (link_bytes v h) ≡ 65 =
    omega (arith, length-append (bytes_of v.words) (bytes_of h), length_bytes v.words, length_bytes h) in
    hashed_blocks_lem (link_bytes v h) ∙ rw m

-- values of eight words
abbrev pub Eights : List Value → Type 0
Eights [] = Unit {0}
Eights (v ∷ vs) = (length v.words ≡ 8) × Eights vs

module _ (s n g : ℕ) (h : List ℕ) (eh : length h ≡ 8) where
  one_slot : (b : Bool) (x : ℕ) → x ≡ 2 → cond b x 0 ≡ 2 * cond b 1 0
  one_slot true x e = e
  one_slot false x e = refl

  slot_blocks_lem : (i : ℕ) (vs : List Value) → Eights vs → slot_blocks s n g h i vs + 2 * slot_links s n g i ≡ 2 * slot_links s n g (i + length vs)
  slot_blocks_lem i [] e = let p : i + 0 ≡ i = omega arith in rw p (omega arith)
  slot_blocks_lem i (v ∷ vs) e =
      let p : i + suc (length vs) ≡ suc i + length vs = omega arith in
      let here = one_slot (links_slot s n g i) (link_blocks v h) (link_blocks_lem v h e.0 eh) in
      let later = slot_blocks_lem (suc i) vs e.1 in
      rw p (omega (arith, here, later))

  -- black and the seventeen slots
  pub links_blocks : (b : Value) (vs : List Value) → length b.words ≡ 8 → length vs ≡ 17 → Eights vs →
      link_blocks b h + slot_blocks s n g h 0 vs ≡ 2 * links_of s n g
  unfolding links_of
  links_blocks b vs eb many e =
      let q : 0 + length vs ≡ 17 = omega arith in
      let all : slot_blocks s n g h 0 vs + 0 ≡ 2 * slot_links s n g 17 = slot_blocks_lem 0 vs e ∙ ap (λ (k : ℕ). 2 * slot_links s n g k) q in
      omega (arith, link_blocks_lem b h eb eh, all)
