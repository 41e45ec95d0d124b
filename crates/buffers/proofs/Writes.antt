-- Laws of what was written to a buffer from a place on.
use Rattle.std.proofs.Common.{◌≡◌, refl, sym, ap, ◌∙◌, List, [], ◌∷◌, ◌++◌, append_assoc, ℕ, suc, ◌+◌, ◌≤◌, ◌<◌, arith, length, take, drop, set, length-append, take-append-drop}
use Rattle.std.proofs.Math.Seq.{drop-drop, set_split}
use Rattle.std.proofs.lemmas.Grind.{common_steps}
use Rattle.buffers.specs.Private.{Wrote}

pub wrote_none : (at : ℕ) (F l : List ℕ) → F ≡ [] → Wrote at F l at l
wrote_none at F l e = rw e (record { count = omega arith; list = sym (take-append-drop at l) })

pub wrote_one : (at g : ℕ) (F l : List ℕ) → F ≡ g ∷ [] → at < length l → Wrote at F l (at + 1) (set l at g)
wrote_one at g F l e h = let p : at + 1 ≡ suc at = omega arith in rw (e, p) (record { count = omega arith; list = set_split l at g h })

pub wrote_as : {at r : ℕ} {F l k : List ℕ} (G : List ℕ) → G ≡ F → Wrote at F l r k → Wrote at G l r k
wrote_as G e h = rw e h

pub wrote_length : (at r : ℕ) (F l k : List ℕ) → Wrote at F l r k → at + length F ≤ length l → length k ≡ length l
wrote_length at r F l k h b = grind (arith, common_steps)

-- a list written at the front
pub wrote_front : {r : ℕ} {F l k : List ℕ} (n : ℕ) → Wrote 0 F l r k → length F ≡ n → k ≡ F ++ drop n l
wrote_front {r} n h e = grind (arith, common_steps)

-- the buffer up to where a list was written
pub wrote_through : {at r : ℕ} {F l k : List ℕ} (end : ℕ) → Wrote at F l r k → at ≤ length l → at + length F ≡ end → take end k ≡ take at l ++ F
wrote_through {at} {r} {F} {l} end w h e = grind (arith, common_steps)

pub wrote_join : (at : ℕ) (F A B l m k : List ℕ) (b r : ℕ) → F ≡ A ++ B → at + length F ≤ length l → Wrote at A l b m → Wrote b B m r k → Wrote at F l r k
wrote_join at F A B l m k b r f h u v =
    let front : take b m ≡ take at l ++ A = grind (arith, common_steps) in
    let behind : drop b m ≡ drop b l = grind (arith, common_steps) in
    let back : drop r m ≡ drop r l = rw (v.count, ← drop-drop (length B) b m, behind, drop-drop (length B) b l) in
    record {
      count = grind (arith, common_steps);
      list = v.list ∙ rw (front, back, f) (simp append_assoc);
    }

-- one byte more
pub wrote_byte : (at b : ℕ) (F A l m : List ℕ) (r : ℕ) → F ≡ A ++ (b ∷ []) → at + length F ≤ length l → Wrote at A l r m → length m ≡ length l → Wrote at F l (r + 1) (set m r b)
wrote_byte at b F A l m r f h w e =
    wrote_join at F A (b ∷ []) l m (set m r b) r (r + 1) f h w (wrote_one r b (b ∷ []) m refl (omega (arith, w.count, ap length f, length-append A (b ∷ []))))
