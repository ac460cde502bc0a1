-- `text_gaps::gap_reader::digit_of` meets its contract: a digit of a run is the value of its byte.
-- Assumes nothing.
use native.Mathlib.Omega.{arith}
use borrow.Author.Rules.{rules}
use Rattle.text_patterns.proofs.FilledLaws.{digits_in}
use Rattle.text_gaps.proofs.GapNumberLaws.{digit_is}
use Rattle.text_gaps.proofs.gap_reader.digit_of.Goals as goal

pub overflow_add-k : goal.overflow_add-k
overflow_add-k c = omega (arith, (digits_in c.args.s.now c.args.from c.args.i c.requires).2)

pub bounds-s-k : goal.bounds-s-k
bounds-s-k c =
    (digits_in c.args.s.now c.args.from
    c.args.i c.requires).2

pub overflow_sub-s : goal.overflow_sub-s
overflow_sub-s c =
    (digits_in c.args.s.now c.args.from
    c.args.i c.requires).1

pub returns : goal.returns
returns c = digit_is c.args.s.now c.args.from c.args.i c.from.result c.requires (search rules)
