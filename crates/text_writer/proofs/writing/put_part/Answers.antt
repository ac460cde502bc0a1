-- `text_writer::writing::put_part` meets its contract: the text is that of the number.
-- Assumes nothing.
use Prim.Native.Nat.{ℕ}
use mathlib.Core.Path.{sym, ap, ◌∙◌}
use borrow.Author.Rules.{rules}
use Rattle.text_grammar.specs.Spelling.{bytes_of, digits, numeral}
use Rattle.text_page.specs.PageLaws.{room_as, writes_as}
use Rattle.text_writer.specs.WrittenLaws.{text_one}
use Rattle.text_writer.proofs.writing.put_part.Goals as goal

pub put_number-requires : goal.put_number-requires
put_number-requires c =
    let w = c.from.ensures in
    let same = ap (λ (n : ℕ). bytes_of (digits (numeral n))) w in
    (search rules, room_as c.requires (text_one (digits (numeral c.args.x)) ∙ sym same))

pub returns : goal.returns
returns c =
    let same = ap (λ (n : ℕ). bytes_of (digits (numeral n))) c.from.ensures in
    writes_as c.put_number.ensures (same ∙ sym (text_one (digits (numeral c.args.x))))
