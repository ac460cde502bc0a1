-- `text_writer::writing::put_deleted` meets its contract: an opening brace, the first position, the
-- further ones and a closing brace.
-- Assumes nothing.
use mathlib.Core.Path.{◌≡◌, refl}
use native.Mathlib.Omega.{arith}
use borrow.Author.Rules.{rules}
use lib.ListN.{length}
use Rattle.word.specs.Ceilings.{PREFIX}
use Rattle.forms.specs.HeldLaws.{six_whole}
use Rattle.text_page.specs.PageLaws.{start_as, step, finish_by, room_next, room_last}
use Prim.Native.Nat.{◌-◌}
use mathlib.Core.List.{[], ◌∷◌, ◌++◌}
use Rattle.forms.specs.SchemeList.{deletes}
use Rattle.forms.specs.SchemeMemory.{positions_in}
use Rattle.text_grammar.specs.Spelling.{rule_pieces}
use Rattle.text_writer.specs.Writable.{text, further, number}
use Rattle.text_writer.specs.WrittenLaws.{text_deletes}
use Rattle.text_writer.proofs.writing.put_deleted.Goals as goal
use Rattle.text_writer.proofs.writing.put_deleted.Goals.{After-from-n}

-- the array has all its places
six : (c : After-from-n) → length c.args.d.positions ≡ PREFIX
six c = (let o = c.well_formed in search rules)

-- the text by its parts
parts : (c : After-from-n) → text (rule_pieces (deletes (positions_in c.args.d))) ≡
    (0x7B ∷ []) ++ (text (number c.args.d.positions 0) ++ (further (number c.args.d.positions) 1 (c.from-n.result - 1) ++ (0x7D ∷ [])))
parts c = text_deletes c.args.d c.args.d.positions c.from-n.result (six_whole c.args.d (six c)) c.from-n.ensures c.requires.0

pub put_part-second-requires : goal.put_part-second-requires
put_part-second-requires c =
    let whole = start_as _ _ c.args.at c.args.page.now (parts (goal.at.put_part-second-requires c).After-from-n) in
    room_next _ _ c.requires.1 (step whole c.put-first.ensures) refl

pub put_further_parts-last-requires : goal.put_further_parts-last-requires
put_further_parts-last-requires c =
    let o = (goal.at.put_further_parts-last-requires c).After-from-n in
    let whole = start_as _ _ c.args.at c.args.page.now (parts o) in
    let n = c.from-n.ensures in (
      omega (arith, c.requires.0.some, n),
      omega (arith, c.requires.0.few, n, six o),
      room_next _ _ c.requires.1 (step (step whole c.put-first.ensures) c.put_part-second.ensures) refl,
    )

pub put-requires : goal.put-requires
put-requires c =
    let whole = start_as _ _ c.args.at c.args.page.now (parts (goal.at.put-requires c).After-from-n) in
    room_last c.requires.1 (step (step (step whole c.put-first.ensures) c.put_part-second.ensures)
    c.put_further_parts-last.ensures)

pub returns : goal.returns
returns c =
    let whole = start_as _ _ c.args.at c.args.page.now (parts (goal.at.returns c).After-from-n) in
    finish_by (step (step (step whole c.put-first.ensures) c.put_part-second.ensures)
    c.put_further_parts-last.ensures) c.put.ensures
