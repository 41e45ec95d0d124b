-- `number_text::decimal::put_numbers` meets its contract.
use Rattle.number_text.proofs.DecimalLaws.{numbers_none, numbers_room, numbers_next}
use Rattle.number_text.proofs.decimal.put_numbers.Goals as goal

pub loop-x-init : goal.loop-x-init
loop-x-init c = numbers_none c.args.at c.args.numbers.now c.args.out.now

pub put_number-next-requires : goal.put_number-next-requires
put_number-next-requires c = numbers_room _ _ _ _ _ _ _ c.loop-x-test.true c.requires c.loop-x.auto.out c.loop-x.invariant

pub loop-x-preserved : goal.loop-x-preserved
loop-x-preserved c = numbers_next _ _ _ _ _ _ _ _ c.loop-x-test.true c.requires c.loop-x.invariant c.put_number-next.ensures
