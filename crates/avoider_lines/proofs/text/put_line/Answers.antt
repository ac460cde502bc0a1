-- `avoider_lines::text::put_line` meets its contract: what is still to come are the entries from
-- the index on, and the line end.
-- Assumes nothing.
use Prim.Native.Nat.{min}
use native.Mathlib.Omega.{arith}
use mathlib.Core.Path.{◌≡◌, sym, ap, ◌∙◌}
use lib.ListN.{length}
use Rattle.word.specs.Ceilings.{WORD}
use Rattle.text_page.specs.PageLaws.{writes_as, writes_join, start, step, again, finish_by, same_size}
use Rattle.text_page.specs.Decimal.{decimal}
use Rattle.text_page.proofs.DecimalLaws.{room_decimal}
use Rattle.avoider_lines.specs.LineTextLaws.{written_size, line_none, line_first, line_step, line_end}
use borrow.Author.Rules.{rules}
use Rattle.avoider_lines.proofs.text.put_line.Goals as goal

pub shape_of-page-then-count-eq0 : goal.shape_of-page-then-count-eq0
shape_of-page-then-count-eq0 c = written_size c.put.ensures

pub returns-then-count-eq0 : goal.returns-then-count-eq0
returns-then-count-eq0 c =
    let few : c.min-count.result ≡ min c.args.n (length c.args.word) =
    let a = c.args in
    let all : length a.word ≡ WORD = search rules in
    c.min-count.ensures ∙ ap (min a.n) (sym all) in
    let a = c.args in
    let w = c.put.ensures in
    (writes_as w (line_none a.word a.n c.min-count.result (few) c.if-count-eq0.true), omega (arith, w.moved))

pub put_decimal-next-requires : goal.put_decimal-next-requires
put_decimal-next-requires c = room_decimal _ _ (search rules) (search rules)

pub loop-i-init : goal.loop-i-init
loop-i-init c =
    let w = c.put_decimal-next.ensures in
    (omega arith, omega (arith, c.if-count-eq0.false), omega (arith, w.1), start _ _ _)

pub put_entry-next-requires : goal.put_entry-next-requires
put_entry-next-requires c = omega (arith, c.loop-i.invariant.1, c.loop-i.invariant.2, c.min-count.ensures)

pub loop-i-preserved : goal.loop-i-preserved
loop-i-preserved c =
    let few : c.min-count.result ≡ min c.args.n (length c.args.word) =
    let a = c.args in
    let all : length a.word ≡ WORD = search rules in
    c.min-count.ensures ∙ ap (min a.n) (sym all) in
    let a = c.args in
    let l = c.loop-i in
    let w = c.put_entry-next.ensures in (
      omega arith,
      omega arith,
      omega (arith, w.1),
      step (again l.invariant.3 (line_step a.word a.n c.min-count.result (few) l.i (omega arith))) w.0,
    )

pub put-requires-2 : goal.put-requires-2
put-requires-2 c =
    record { fits = omega (arith, c.loop-i.invariant.1, c.loop-i.invariant.2, c.min-count.ensures) }

pub shape_of-page : goal.shape_of-page
shape_of-page c =
    let first = c.put_decimal-next.ensures in
    written_size c.put-2.ensures ∙ same_size c.loop-i.invariant.3 ∙ written_size first.0

pub returns : goal.returns
returns c =
    let few : c.min-count.result ≡ min c.args.n (length c.args.word) =
    let a = c.args in
    let all : length a.word ≡ WORD = search rules in
    c.min-count.ensures ∙ ap (min a.n) (sym all) in
    let a = c.args in
    let l = c.loop-i in
    let k = c.min-count in
    let first = c.put_decimal-next.ensures in
    let end = c.put-2.ensures in
    let rest = finish_by (again l.invariant.3 (line_end a.word a.n k.result (few) l.i (omega arith))) end in
    let number = writes_as first.0 (ap decimal (search rules)) in (
      writes_as (writes_join number rest) (sym (line_first a.word a.n k.result (few) c.if-count-eq0.false)),
      omega (arith, l.invariant.1, l.invariant.2, k.ensures, end.moved),
    )
