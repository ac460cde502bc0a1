-- `text_writer::writing::put_pattern` meets its contract: the text is that of the permutation.
-- Assumes nothing.
use mathlib.Core.Path.{◌≡◌, sym}
use native.Mathlib.Omega.{arith}
use lib.ListN.{length}
use borrow.Author.Rules.{rules}
use Rattle.forms.specs.SchemeMemory.{pattern_in}
use Rattle.text_grammar.specs.Spelling.{perm_piece}
use Rattle.text_page.specs.PageLaws.{room_as, writes_as}
use Rattle.text_writer.specs.WrittenLaws.{text_one}
use Rattle.text_writer.proofs.writing.put_pattern.Goals as goal

pub put_permutation-requires : goal.put_permutation-requires
put_permutation-requires c =
    let p = c.args.p in
    let h = c.requires in
    let eight : length p.digits ≡ 8 = search rules in
    (record { inside = omega arith; small = h.0.small }, room_as h.1 (text_one (perm_piece (pattern_in p))))

pub returns : goal.returns
returns c =
    let p = c.args.p in
    writes_as c.put_permutation.ensures (sym (text_one (perm_piece (pattern_in p))))
