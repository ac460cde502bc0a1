-- `text_writer::writing::put_rule` meets its contract: by the two cases of a rule.
-- Assumes nothing.
use mathlib.Core.Path.{sym, ap}
use Rattle.forms.specs.SchemeMemory.{does_of}
use Rattle.forms.specs.declared.memory.Rule.{Rule}
use Rattle.text_grammar.specs.Spelling.{rule_pieces}
use Rattle.text_writer.specs.Writable.{text}
use Rattle.text_page.specs.PageLaws.{room_as, writes_as}
use Rattle.text_writer.proofs.writing.put_rule.Goals as goal

pub put_bytes-requires : goal.put_bytes-requires
put_bytes-requires c = room_as c.requires.1 (ap (λ (r : Rule). text (rule_pieces (does_of r))) c.in-Expand.is)

pub put_deleted-requires : goal.put_deleted-requires
put_deleted-requires c =
    (c.requires.0.fit c.in-Delete.d c.in-Delete.is, room_as c.requires.1 (ap (λ (r : Rule). text (rule_pieces (does_of r))) c.in-Delete.is))

pub returns-in-Expand : goal.returns-in-Expand
returns-in-Expand c =
    writes_as c.put_bytes.ensures
    (sym (ap (λ (r : Rule). text (rule_pieces (does_of r))) c.in-Expand.is))

pub returns-in-Delete : goal.returns-in-Delete
returns-in-Delete c =
    writes_as c.put_deleted.ensures (sym (ap (λ (r : Rule). text (rule_pieces (does_of r))) c.in-Delete.is))
