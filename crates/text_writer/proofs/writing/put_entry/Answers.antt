-- `text_writer::writing::put_entry` meets its contract: the seven parts of an entry, one after the
-- other.
-- Assumes nothing.
use mathlib.Core.Path.{◌≡◌, refl}
use native.Mathlib.Omega.{arith}
use lib.ListN.{length}
use borrow.Author.Rules.{rules}
use Rattle.forms.specs.SchemeMemory.{entry_in}
use Rattle.text_page.specs.PageLaws.{start_as, step, finish_by, room_next, room_last}
use Rattle.text_writer.specs.WrittenLaws.{text_entry}
use Rattle.text_writer.proofs.writing.put_entry.Goals as goal

pub put_permutation-second-requires : goal.put_permutation-second-requires
put_permutation-second-requires c =
    let a = c.args in
    let h = c.requires in
    let whole = start_as _ _ a.at a.page.now (text_entry (entry_in a.e)) in
    let six : length a.e.prefix ≡ 6 = search rules in
    (record { inside = omega (arith, h.0.short); small = h.0.small }, room_next _ _ h.1 (step whole c.put-first.ensures) refl)

pub put-third-requires : goal.put-third-requires
put-third-requires c =
    let a = c.args in
    let h = c.requires in
    let whole = start_as _ _ a.at a.page.now (text_entry (entry_in a.e)) in
    room_next _ _ h.1 (step (step whole c.put-first.ensures) c.put_permutation-second.ensures) refl

pub put_gaps-fourth-requires : goal.put_gaps-fourth-requires
put_gaps-fourth-requires c =
    let a = c.args in
    let h = c.requires in
    let whole = start_as _ _ a.at a.page.now (text_entry (entry_in a.e)) in (
      h.0,
      room_next _ _ h.1
          (step (step (step whole c.put-first.ensures) c.put_permutation-second.ensures)
          c.put-third.ensures) refl,
    )

pub put-fifth-requires : goal.put-fifth-requires
put-fifth-requires c =
    let a = c.args in
    let h = c.requires in
    let whole = start_as _ _ a.at a.page.now (text_entry (entry_in a.e)) in
    room_next _ _ h.1
    (step (step (step (step whole c.put-first.ensures) c.put_permutation-second.ensures)
    c.put-third.ensures) c.put_gaps-fourth.ensures) refl

pub put_rule-last-requires : goal.put_rule-last-requires
put_rule-last-requires c =
    let a = c.args in
    let h = c.requires in
    let whole = start_as _ _ a.at a.page.now (text_entry (entry_in a.e)) in (
      h.0.rule,
      room_next _ _ h.1
          (step (step (step (step (step whole c.put-first.ensures) c.put_permutation-second.ensures)
          c.put-third.ensures) c.put_gaps-fourth.ensures) c.put-fifth.ensures) refl,
    )

pub put-requires : goal.put-requires
put-requires c =
    let a = c.args in
    let h = c.requires in
    let whole = start_as _ _ a.at a.page.now (text_entry (entry_in a.e)) in
    room_last h.1
    (step (step (step
    (step (step (step whole c.put-first.ensures) c.put_permutation-second.ensures)
    c.put-third.ensures) c.put_gaps-fourth.ensures) c.put-fifth.ensures)
    c.put_rule-last.ensures)

pub returns : goal.returns
returns c =
    let a = c.args in
    let h = c.requires in
    let whole = start_as _ _ a.at a.page.now (text_entry (entry_in a.e)) in
    finish_by (step
    (step (step (step (step (step whole c.put-first.ensures) c.put_permutation-second.ensures)
    c.put-third.ensures) c.put_gaps-fourth.ensures) c.put-fifth.ensures)
    c.put_rule-last.ensures) c.put.ensures
