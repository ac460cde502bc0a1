-- `text_writer::writing::put_digits` meets its contract: what is still to come are the digits from
-- the index on.
-- Assumes nothing.
use borrow.Author.Rules.{rules}
use native.Mathlib.Omega.{arith}
use Rattle.text_page.specs.PageLaws.{start_as, step, again, finish, same_size, room_next}
use Rattle.text_writer.specs.WrittenLaws.{shown_start, shown_step, shown_end}
use Rattle.text_writer.proofs.writing.put_digits.Goals as goal

pub loop-i-init : goal.loop-i-init
loop-i-init c =
    let a = c.args in
    start_as _ _ _ _ (shown_start a.n a.run.now c.requires.0.inside)

pub overflow_add-run : goal.overflow_add-run
overflow_add-run c =
    let i = c.loop-i.i in
    omega (arith, c.requires.0.small i (search rules))

pub put-next-requires : goal.put-next-requires
put-next-requires c =
    let a = c.args in
    let l = c.loop-i in
    room_next _ _ c.requires.1 l.invariant (shown_step a.run.now l.i a.n (search rules))

pub loop-i-preserved : goal.loop-i-preserved
loop-i-preserved c =
    let a = c.args in
    let l = c.loop-i in
    step (again l.invariant (shown_step a.run.now l.i a.n (search rules))) c.put-next.ensures

pub shape_of-page : goal.shape_of-page
shape_of-page c = same_size c.loop-i.invariant

pub returns : goal.returns
returns c =
    let a = c.args in
    let l = c.loop-i in
    finish (again l.invariant (shown_end a.run.now l.i a.n (search rules)))
