-- `table_reading::read_some` meets its contract: what is taken of some chunk, and no error where
-- the input ended.
-- Assumes nothing.
use mathlib.Core.Path.{◌≡◌, sym, ap, ap₂, ◌∙◌}
use mir.Syntax.{w32, w64}
use mir.Val.{to_z, of_z}
use borrow.Author.Rules.{rules}
use Rattle.table_reading.specs.Reads.{AfterRead, state_after, taken_of}
use Rattle.table_reading.specs.ReadLaws.{reads_some, end_clean}
use Rattle.table_reading.proofs.read_some.Goals as goal

pub returns-clause-kept : goal.returns-clause-kept
returns-clause-kept c = reads_some _ _ _ _ _ c.taken.ensures.kept

pub returns-clause-error : goal.returns-clause-error
unfolding taken_of
returns-clause-error c = λ e.
    let a = c.answer_of-answer in
    let got : to_z w64 (of_z w64 a.result.got) ≡ a.result.got = search rules in
    let error : to_z w32 (of_z w32 a.result.error) ≡ a.result.error = search rules in
    let s = ap (λ (x : AfterRead). x.state) c.taken.ensures.kept ∙ ap₂ state_after got error in
    c.taken.ensures.error ∙ error ∙
    end_clean c.read.result _ a.result.got a.result.error a.ensures.ok a.ensures.err (sym s ∙ e)
