-- `record_bytes::put_slots` meets its contract.
use Rattle.std.proofs.Common.{append-nil, rules}
use Rattle.record_bytes.specs.Bytes.{slots_bytes}
use Rattle.record_bytes.proofs.Steps.{slot_put, slots_put}
use Rattle.record_bytes.proofs.put_slots.Goals as goal

pub loop-k-init : goal.loop-k-init
unfolding slots_bytes
loop-k-init c = simp append-nil

pub loop-k-preserved : goal.loop-k-preserved
loop-k-preserved c = slot_put _ c.put_numbers.new.b c.args.slots _ c.loop-k.k (search rules) (search rules) c.put_numbers.ensures c.loop-k.invariant

pub returns : goal.returns
returns c = slots_put _ c.loop-k.b c.args.slots c.loop-k.k (search rules) (search rules) c.loop-k.invariant
