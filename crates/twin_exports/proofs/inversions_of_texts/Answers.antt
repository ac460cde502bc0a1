-- `twin_exports::inversions_of_texts` meets its contract: what reading found, and then counting by
-- inversions.
-- Assumes nothing.
use mathlib.Core.Path.{sym, ap, ◌∙◌}
use Rattle.forms.specs.SchemeMemory.{faulty}
use Rattle.notation.specs.Answers.{read_fault}
use Rattle.count_figure_answer.specs.FigureCounting.{figured_or}
use Rattle.twin_exports.specs.TextCountLaws.{both_found, both_lists}
use Rattle.twin_exports.specs.FigureTextLaws.{figures_refused, figures_done}
use Rattle.twin_exports.proofs.inversions_of_texts.Goals as goal

pub returns-in-Ok : goal.returns-in-Ok
returns-in-Ok c =
    let d = c.count_by_inversions in
    let q = c.read_scheme-s in
    let p = c.read_patterns-p in
    let a = c.args in
    let lists = both_lists p.result q.result _ _ (sym c.both.ensures ∙ c.in-Ok.is) in
    figures_done a.patterns.now a.scheme.now p.result p.ensures q.result q.ensures _ (ap read_fault c.both.ensures ∙
    both_found p.result q.result) a.n a.table.now a.results.now d.result c.size_code.result c.size_code.ensures
    (ap (λ r. faulty (read_fault r)) c.in-Ok.is) _ _ (rw (lists.0, lists.1) d.ensures)

pub returns-in-Err : goal.returns-in-Err
returns-in-Err c =
    let q = c.read_scheme-s in
    let p = c.read_patterns-p in
    let a = c.args in
    figures_refused a.patterns.now a.scheme.now p.result p.ensures q.result q.ensures _ (ap read_fault c.both.ensures ∙
    both_found p.result q.result) a.n a.table.now a.results.now _ c.code.result c.code.ensures
    (ap (λ r. faulty (read_fault r)) c.in-Err.is) (sym (ap (λ r. figured_or (read_fault r) 0) c.in-Err.is))
