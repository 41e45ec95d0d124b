-- A turn writes a value more.
use mathlib.Core.Path.{refl}
use borrow.Author.Rules.{rules}
use Rattle.service.proofs.DayLaws.{no_value_written, value_written}
use Rattle.service.proofs.day.write.Goals as goal

pub loop-i-init : goal.loop-i-init
loop-i-init c = no_value_written c.args.values.now c.args.part.now

pub loop-i-preserved : goal.loop-i-preserved
loop-i-preserved c = value_written _ _ _ _ _ _ _ _ _ c.loop-i.invariant c.bytes.ensures (search rules) refl c.put.ensures (search rules) (search rules)
