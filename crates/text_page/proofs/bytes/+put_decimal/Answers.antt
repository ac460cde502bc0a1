-- The proof of the cycle of calls {put_decimal}. A digit is written as it is; a larger number is a
-- tenth of it, and its last digit.
-- Assumes nothing.
use Rattle.std.proofs.Common.{◌<◌, sym, arith, rules}
use Rattle.text_page.specs.PageLaws.{writes_as, writes_byte, writes_join}
use Rattle.text_page.proofs.DecimalLaws.{decimal_one, decimal_more, decimal_some, decimal_longer, decimal_most}
use Rattle.text_page.proofs.bytes.+put_decimal.Goals as goal

pub returns-then-n-lt10 : goal.returns-then-n-lt10
returns-then-n-lt10 t c =
    let big : c.args.n < 18446744073709551616 = search rules in
    let w = writes_as (writes_byte c.put.ensures c.digit.ensures) (sym (decimal_one c.args.n c.if-n-lt10.true)) in
    (w, omega (arith, w.moved, decimal_most c.args.n big))

pub put-requires-2 : goal.put-requires-2
put-requires-2 t c =
    let w = c.put_decimal-next.ensures.0 in
    record { fits = omega (arith, decimal_longer c.args.n c.if-n-lt10.false, w.moved, c.requires.fits) }

pub returns : goal.returns
returns t c =
    let big : c.args.n < 18446744073709551616 = search rules in
    let w = writes_as (writes_join c.put_decimal-next.ensures.0 (writes_byte c.put-2.ensures c.digit-2.ensures))
    (sym (decimal_more c.args.n c.if-n-lt10.false)) in
    (w, omega (arith, w.moved, decimal_most c.args.n big))

pub put-requires : goal.put-requires
put-requires t c = record { fits = omega (arith, decimal_some c.args.n, c.requires.fits) }

pub put_decimal-next-requires : goal.put_decimal-next-requires
put_decimal-next-requires t c =
    (omega arith, record { fits = omega (arith, decimal_longer c.args.n c.if-n-lt10.false, c.requires.fits) })
