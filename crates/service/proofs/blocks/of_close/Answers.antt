-- `service::blocks::of_close` meets its contract.
use Prim.Native.Nat.{◌+◌}
use native.Mathlib.Omega.{arith}
use borrow.Author.Rules.{rules}
use Rattle.chains.proofs.BlockLaws.{links_most}
use Rattle.service.proofs.RecordLaws.{allowed_is}
use Rattle.service.proofs.DayLaws.{day_asks}
use Rattle.service.proofs.BlockLaws.{eights_of, counted_blocks}
use Rattle.service.proofs.blocks.of_close.Goals as goal

pub overflow_add-state : goal.overflow_add-state
overflow_add-state c = record { fits = omega (arith, c.requires.day_left) }

pub link_count-links-requires : goal.link_count-links-requires
link_count-links-requires c = let a = day_asks c.args.state c.requires in (a.1, a.2)

pub overflow_add-result : goal.overflow_add-result
overflow_add-result c = record { fits = omega (arith, (allowed_is c.args.state c.requires.allowed).bytes_most) }

pub overflow_mul-result : goal.overflow_mul-result
overflow_mul-result c =
    let r = c.args.state in
    record { fits = omega (arith, c.link_count-links.ensures, links_most r.scheme r.n (r.days + 1)) }

pub overflow_add-result-4 : goal.overflow_add-result-4
overflow_add-result-4 c =
    let r = c.args.state in
    record { fits = omega (arith, c.link_count-links.ensures, links_most r.scheme r.n (r.days + 1)) }

pub returns : goal.returns
returns c =
    let r = c.args.state in
    let running = c.well_formed.0.1.1.1.1.1.1.1.1.1.1.0 in
    counted_blocks r (record {
      hash_many = search rules;
      block_many = search rules;
      black_many = search rules;
      running_many = search rules;
      eights = eights_of r.running running.0 running.1.1;
    }) c.link_count-links.ensures
