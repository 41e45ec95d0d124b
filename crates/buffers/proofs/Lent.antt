-- A buffer filled from the front, each time by a call that is lent the rest of it.
use Rattle.std.proofs.Common.{◌≡◌, ap, ◌∙◌, List, [], ◌++◌, append_assoc, append-nil, ℕ, ◌+◌, ◌-◌, ◌≤◌, arith, length, take, drop, take_all}
use Rattle.std.proofs.lemmas.Grind.{common_steps}
use borrow.Rule.Slice.PartMut.{mid_of, post_of, put_mid}

module _ (p old cur : List ℕ) (a : ℕ) (e : cur ≡ p ++ drop a old) (size : length p ≡ a) (same_length : length cur ≡ length old) where
  rest_is : drop a cur ≡ drop a old
  rest_is = grind (arith, common_steps)

  -- the part that is lent is what stood there
  pub lent_is : mid_of a (length cur - a) cur ≡ drop a old
  lent_is = rw rest_is (take_all (length cur - a) (drop a old) (grind (arith, common_steps)))

  -- and what the call puts there goes on the front
  pub lent_put : (y z : List ℕ) (k : ℕ) → y ≡ z ++ drop k (mid_of a (length cur - a) cur) → put_mid a (length cur - a) cur y ≡ (p ++ z) ++ drop (a + k) old
  lent_put y z k q =
      let i = lent_is in
      let front : take a cur ≡ p = grind (arith, common_steps) in
      let after : post_of a (length cur - a) cur ≡ [] = grind (arith, common_steps) in
      let new : y ≡ z ++ drop (a + k) old = grind (arith, common_steps) in
      rw (front, after, new) (simp (append_assoc, append-nil))

  pub lent_length : (y z : List ℕ) (k : ℕ) → y ≡ z ++ drop k (mid_of a (length cur - a) cur) → length z ≡ k → a + k ≤ length old → length (put_mid a (length cur - a) cur y) ≡ length old
  lent_length y z k q l h =
      ap length (lent_put y z k q) ∙ grind (arith, common_steps)
