-- `put_decimal` puts the tenth of a number of two digits or more, then its last digit. The number falls.
use Rattle.std.proofs.Common.{arith}
use Rattle.std.proofs.Math.Nat.{mod-lt}
use Rattle.text.proofs.DecimalDigits.{tenth, decimal_digit, decimal_more}
use Rattle.text.proofs.BytesBehindAText.{then_put}
use Rattle.text.proofs.+put_decimal.Goals as goal

pub digit-requires : goal.digit-requires
digit-requires t c = c.if-n-lt-TEN.true

pub returns-then-n-lt-TEN : goal.returns-then-n-lt-TEN
returns-then-n-lt-TEN t c = rw (decimal_digit c.args.n c.if-n-lt-TEN.true, ← c.digit.ensures) c.put_byte.ensures

pub put_decimal-requires : goal.put_decimal-requires
put_decimal-requires t c =
    let fall = tenth c.args.n c.if-n-lt-TEN.false in
    (omega arith, tt)

pub digit-requires-2 : goal.digit-requires-2
digit-requires-2 t c = mod-lt c.args.n {m = 10} (omega arith)

pub returns : goal.returns
returns t c =
    rw (decimal_more c.args.n c.if-n-lt-TEN.false, ← c.digit-2.ensures)
    (then_put c.put_decimal.ensures c.put_byte-2.ensures)
