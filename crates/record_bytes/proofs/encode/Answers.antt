-- `record_bytes::encode` meets its contract.
use Rattle.std.proofs.Common.{◌≡◌, length, arith, rules}
use Rattle.buffers.proofs.Writes.{wrote_through}
use Rattle.record_bytes.specs.Bytes.{hash_at, black_at, start_at, record_size}
use Rattle.record_bytes.proofs.Steps.{through, record_put}
use Rattle.record_bytes.proofs.encode.Goals as goal

pub returns : goal.returns
returns c =
    let s = c.args.state in
    let hash : length s.hash ≡ 8 = search rules in
    let black : length s.black.words ≡ 8 = search rules in
    let start : length s.start.words ≡ 8 = search rules in
    let block : length s.block ≡ 64 = search rules in
    let all : length c.put_slots.new.b ≡ record_size = search rules in
    record_put _ s c.put_numbers.ensures (through hash_at _ hash c.put_numbers-2.ensures) (through black_at _ black c.put_numbers-3.ensures) c.put_slots.ensures
    (wrote_through start_at c.put.ensures (omega (arith, all)) (omega (arith, block)))
    (through start_at _ start c.put_numbers-4.ensures) (search rules) c.put_numbers-5.ensures
