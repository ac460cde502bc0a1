-- The measure of the recursion of `text_page::bytes::put_decimal`: the number.
use Rattle.text_page.proofs.bytes.+put_decimal.Given as goal

abbrev pub decreases-put_decimal : goal.decreases-put_decimal
decreases-put_decimal l = l.n
