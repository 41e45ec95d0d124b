-- `hasher::digest_short` meets its contract.
use Rattle.hasher.proofs.Filling.{marked_by}
use Rattle.hasher.proofs.Cases.{digest_one}
use Rattle.hasher.proofs.digest_short.Goals as goal

pub returns : goal.returns
returns c =
    let e = marked_by c.args.first c.args.s.now c.copy_from_slice.new.self c.copy_from_slice.ensures.after c.requires in
    let o = digest_one c.args.first c.args.s.now c.requires in
    cc (c.ended.ensures, c.initial.ensures, c.blocks-2.ensures)
