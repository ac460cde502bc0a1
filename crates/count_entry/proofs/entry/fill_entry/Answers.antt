-- `count_entry::entry::fill_entry` meets its contract.
-- Assumes nothing.
use mathlib.Core.Path.{◌∙◌}
use Rattle.count_entry.proofs.FrameLaws.{index_small, work_fits, work_gaps, work_number, work_low, entry_walked}
use Rattle.count_entry.proofs.entry.fill_entry.Goals as goal

pub gaps_of-gaps-requires : goal.gaps_of-gaps-requires
gaps_of-gaps-requires c =
    let a = c.args in
    let q = c.requires.0 in
    (index_small a.sheet.now a.places.now a.f a.c q, q.framed.of.long)

pub fill_cells-requires : goal.fill_cells-requires
fill_cells-requires c =
    let a = c.args in
    let q = c.requires.0 in
    let w = c.work_of-w in
    let g = c.gaps_of-gaps in (
      work_fits a.sheet.now a.places.now a.f a.c q w.result w.ensures g.result.now g.ensures,
      work_gaps a.sheet.now a.places.now a.f a.c q w.result w.ensures g.result.now g.ensures,
      work_number a.sheet.now a.places.now a.f a.c q w.result w.ensures g.result.now g.ensures,
      work_low a.sheet.now a.places.now a.f a.c q w.result w.ensures g.result.now g.ensures,
      c.requires.1,
    )

pub returns : goal.returns
returns c =
    let a = c.args in
    let w = c.work_of-w in
    let g = c.gaps_of-gaps in
    λ q.
    c.fill_cells.ensures ∙
    entry_walked a.sheet.now a.places.now a.f a.c q w.result w.ensures g.result.now g.ensures a.table.now
