-- `text_writer::writing::put_vector_at` meets its contract: the vector that is written is the one
-- with the index.
-- Assumes nothing.
use mathlib.Core.Path.{sym, ap}
use Rattle.forms.specs.SchemeMemory.{gap_in}
use Rattle.forms.specs.declared.memory.Gap.{Gap}
use Rattle.text_grammar.specs.Spelling.{vector_pieces}
use Rattle.text_page.specs.PageLaws.{room_as, writes_as}
use Rattle.text_writer.specs.Writable.{text}
use Rattle.text_writer.proofs.writing.put_vector_at.Goals as goal

pub put_vector-requires : goal.put_vector-requires
put_vector-requires c =
    let read = c.entry_gap-g.ensures in (
      rw read (c.requires.0.fit c.args.j c.requires.1),
      room_as c.requires.2 (sym (ap (λ (g : Gap). text (vector_pieces (gap_in g))) read)),
    )

pub returns : goal.returns
returns c =
    writes_as c.put_vector.ensures (ap (λ (g : Gap). text (vector_pieces (gap_in g))) c.entry_gap-g.ensures)
