-- `reading::bits` meets its contract.
use Rattle.reading.proofs.{BitLaws.bits_by}
use Rattle.reading.proofs.bits.Goals as goal

pub returns : goal.returns
returns c = rw c.greatest.ensures (bits_by c.args.t.now)
