-- What is proved of 02's links of a day (proofs/LinkLaws), scheme by scheme.
use Rattle.std.specs.Prelude.{◌≡◌, true, ℕ, suc, length}
use Rattle.lists.specs.Lists.{keep, up_from}
use Rattle.layouts.specs.Layouts.{allowed_n, lg, offset, covers}
use Rattle.chains.specs.Step.{links_of}

-- black once; then under scheme 2 each tile chain that covers the day, under scheme 3 seventeen levels (SPEC 17.2)
pub record LinksOfDay (n g : ℕ) : Type 0 where
  pub black_links : links_of 1 n g ≡ 1
  pub tile_links : links_of 2 n g ≡ suc (length (keep (λ i. covers n i (offset n g)) (up_from 0 (suc (lg n)))))
  pub tree_links : links_of 3 n g ≡ suc 17

abbrev pub LinksTold : Type 0
LinksTold = (n g : ℕ) → allowed_n n ≡ true → LinksOfDay n g
