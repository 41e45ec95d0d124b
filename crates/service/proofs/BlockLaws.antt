-- The blocks that add and close compress, as their code counts them.
use mathlib.Core.Path.{◌≡◌, ap, ◌∙◌}
use mathlib.Core.List.{List, [], ◌∷◌}
use Prim.Native.Nat.{ℕ, suc, ◌+◌, ◌*◌, ◌/◌, ◌%◌}
use native.Mathlib.Numerals.{add-one}
use native.Mathlib.Omega.{arith}
use lib.ListN.{length}
use mir.Val.{Val}
use denote.Shadow.{shadow}
use denote.Array.{each}
use Rattle.hasher.proofs.Laws.{absorbed_blocks_lem, finished_blocks_lem, finished_length}
use Rattle.chains.specs.declared.Value.{Value}
use Rattle.chains.specs.Step.{links_of}
use Rattle.chains.specs.contracts.Value.{the_row}
use Rattle.chains.proofs.BlockLaws.{Eights, links_blocks}
use Rattle.service.specs.declared.Record.{Record}
use Rattle.service.specs.Contract.{open_day, grown_blocks, digest_of, closed_blocks}

pub grown_blocks_lem : (r : Record) (piece : List ℕ) → length r.block ≡ 64 → grown_blocks r piece ≡ ((r.bytes + 1) % 64 + length piece) / 64
unfolding grown_blocks
grown_blocks_lem r piece e = absorbed_blocks_lem (open_day r) (r.bytes + 1) piece e

-- a record of the sizes of its type
pub record Typed (r : Record) : Type 0 where
  pub hash_many : length r.hash ≡ 8
  pub block_many : length r.block ≡ 64
  pub black_many : length r.black.words ≡ 8
  pub running_many : length r.running ≡ 17
  pub eights : Eights r.running

-- what owning the values of slots tells of them
pub eights_of : (l : List Value) (us : List Val) → shadow (each the_row.Denot the_row.own_val l us) → Eights l
eights_of [] us s = tt
eights_of (v ∷ vs) [] s = absurd s
eights_of (v ∷ vs) (u ∷ us) s = (s.0.1.1.0.1.0.1, eights_of vs us s.1)

pub closed_blocks_lem : (r : Record) → Typed r → closed_blocks r ≡ ((r.bytes + 1) % 64 + 8) / 64 + 1 + 2 * links_of r.scheme r.n (suc r.days)
unfolding closed_blocks
closed_blocks_lem r z =
    let h = finished_length (open_day r) (r.bytes + 1) z.hash_many in
    let a = finished_blocks_lem (open_day r) (r.bytes + 1) z.block_many in
    let b = links_blocks r.scheme r.n (suc r.days) (digest_of r) h r.black r.running z.black_many z.running_many z.eights in
    omega (arith, a, b)

pub counted_blocks : (r : Record) → Typed r → {k : ℕ} → k ≡ links_of r.scheme r.n (r.days + 1) → ((r.bytes + 1) % 64 + 8) / 64 + 1 + 2 * k ≡ closed_blocks r
counted_blocks r z {k} e =
    let q : k ≡ links_of r.scheme r.n (suc r.days) = e ∙ ap (links_of r.scheme r.n) (add-one r.days) in
    omega (arith, q, closed_blocks_lem r z)
