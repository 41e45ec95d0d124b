-- `number_text::decimal::put_digits` meets its contract.
use Rattle.number_text.proofs.decimal.+put_digits.Given as goal

abbrev pub decreases-put_digits : goal.decreases-put_digits
decreases-put_digits l = l.k
