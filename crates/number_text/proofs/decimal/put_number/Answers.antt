-- `number_text::decimal::put_number` meets its contract.
use Rattle.number_text.proofs.DecimalLaws.{number_put}
use Rattle.number_text.proofs.decimal.put_number.Goals as goal

pub returns : goal.returns
returns c = number_put _ _ _ _ _ c.requires c.put_digits.ensures
