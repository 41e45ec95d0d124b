-- What is proved of a message that comes in pieces (proofs/Laws).
use Rattle.std.specs.Prelude.{◌≡◌, List, ◌++◌, ℕ, ◌+◌, length}
use Rattle.lists.specs.Lists.{joined}
use Rattle.sha256.specs.Sha256.{hashed}
use Rattle.hasher.specs.Hasher.{begun, absorbed_all, finished}

-- however a message is cut into pieces (SPEC 3.2), its hash value is the standard's for the whole
abbrev pub AnyCutting : Type 0
AnyCutting =
    (m : List ℕ) (pieces : List (List ℕ)) →
    finished (absorbed_all (begun m) (length m) pieces) (length m + length (joined pieces)) ≡ hashed (m ++ joined pieces)
