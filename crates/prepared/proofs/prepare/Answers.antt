-- `prepared::prepare` meets its contract.
use mathlib.Core.Path.{refl}
use Rattle.sha256_words.specs.Words.{add32}
use Rattle.prepared.proofs.Laws.{added_none, added_next, prepared_of}
use borrow.Author.Rules.{rules}
use Rattle.prepared.proofs.prepare.Goals as goal

pub loop-i-init : goal.loop-i-init
loop-i-init c = added_none _ _ (search rules)

pub loop-i-preserved : goal.loop-i-preserved
unfolding add32
loop-i-preserved c = added_next _ _ _ _ c.loop-i.invariant (search rules) refl

pub returns : goal.returns
returns c = prepared_of _ _ _ _ _ c.loop-i.invariant (search rules) c.table-k.ensures c.scheduled-w.ensures
