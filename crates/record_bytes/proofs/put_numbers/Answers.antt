-- `record_bytes::put_numbers` meets its contract.
use Rattle.std.proofs.Common.{add-zero, append-nil, rules, arith}
use Rattle.record_bytes.specs.Bytes.{numbers_bytes}
use Rattle.record_bytes.proofs.Steps.{number_put}
use Rattle.record_bytes.proofs.put_numbers.Goals as goal

pub loop-k-init : goal.loop-k-init
unfolding numbers_bytes
loop-k-init c = simp (add-zero, append-nil)

pub loop-k-preserved : goal.loop-k-preserved
loop-k-preserved c =
    number_put _ c.loop-k.b c.args.numbers.now _ _ _ c.loop-k.k (omega arith) (search rules) (search rules) (search rules) c.loop-k.invariant
