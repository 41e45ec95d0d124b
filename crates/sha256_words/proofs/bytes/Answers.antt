-- `sha256_words::bytes` meets its contract.
use Rattle.std.proofs.Common.{rules}
use Rattle.sha256_words.proofs.Laws.{bytes_more}
use Rattle.sha256_words.proofs.bytes.Goals as goal

pub loop-i-preserved : goal.loop-i-preserved
loop-i-preserved c = bytes_more _ _ _ _ _ c.loop-i.invariant (search rules) (search rules) (search rules)
