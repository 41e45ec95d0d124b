-- `number_text::decimal::put_digits` meets its contract.
use native.Mathlib.Omega.{arith}
use Rattle.number_text.proofs.DecimalLaws.{decimal_room, decimal_next}
use Rattle.number_text.proofs.decimal.+put_digits.Goals as goal

pub bounds-out-next : goal.bounds-out-next
bounds-out-next t c =
    let a = c.args in
    omega (
      arith,
      decimal_room a.k _ a.at c.put_digits-next.result _ a.out.now _ c.if-k-eq0.false c.requires c.put_digits-next.ensures
          c.put_digits-next.auto.out,
      c.put_digits-next.auto.out,
    )

pub returns : goal.returns
returns t c = decimal_next _ _ _ _ _ _ c.if-k-eq0.false (omega arith) c.requires c.put_digits-next.ensures c.put_digits-next.auto.out
