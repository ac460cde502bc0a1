-- `text_writer::writing::put_permutation` meets its contract: the text of no digits is ε, and that
-- of some digits is theirs.
-- Assumes nothing.
use mathlib.Core.Path.{sym}
use borrow.Author.Rules.{rules}
use Rattle.text_page.specs.PageLaws.{room_as, writes_as}
use Rattle.text_writer.specs.WrittenLaws.{perm_none, perm_some}
use Rattle.text_writer.proofs.writing.put_permutation.Goals as goal

pub put_bytes-requires : goal.put_bytes-requires
put_bytes-requires c =
    let a = c.args in
    room_as c.requires.1 (perm_none a.n a.run.now c.if-n-eq0.true)

pub returns-then-n-eq0 : goal.returns-then-n-eq0
returns-then-n-eq0 c =
    let a = c.args in
    writes_as c.put_bytes.ensures (sym (perm_none a.n a.run.now (search rules)))

pub put_digits-requires : goal.put_digits-requires
put_digits-requires c =
    let a = c.args in
    let p = c.requires in
    (p.0, room_as p.1 (perm_some a.n a.run.now p.0.inside (search rules)))

pub returns : goal.returns
returns c =
    let a = c.args in
    let p = c.requires in
    writes_as c.put_digits.ensures (sym (perm_some a.n a.run.now p.0.inside (search rules)))
