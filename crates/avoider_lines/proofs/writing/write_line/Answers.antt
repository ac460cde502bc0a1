-- `avoider_lines::writing::write_line` is safe, and hands on the line of the avoider: the bytes of
-- the line lie within the page.
-- Assumes nothing.
use mathlib.Core.Path.{◌≡◌, sym, ap, ◌∙◌}
use native.Mathlib.Omega.{arith}
use lib.ListN.{length}
use lib.Seq.{length-take-le}
use Rattle.table_text.specs.PrintedLaws.{printed}
use borrow.Author.Rules.{rules}
use Rattle.avoider_lines.specs.LineText.{LINE, line_of}
use Rattle.avoider_lines.specs.LineTextLaws.{written_size}
use Rattle.avoider_lines.proofs.writing.write_line.Goals as goal

pub slice_bounds-write_bytes-end : goal.slice_bounds-write_bytes-end
slice_bounds-write_bytes-end c =
    let p = c.put_line-end in
    let size : length p.new.page ≡ LINE = search rules in
    sym (length-take-le p.result p.new.page (omega (arith, p.ensures.1, size)))

pub write_bytes-requires : goal.write_bytes-requires
write_bytes-requires c =
    let p = c.put_line-end in
    let size : length p.new.page ≡ LINE = search rules in
    printed p.ensures.0 (omega (arith, p.ensures.1, size, written_size p.ensures.0)) ∙ ap line_of c.requires
