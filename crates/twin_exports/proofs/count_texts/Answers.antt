-- `twin_exports::count_texts` meets its contract: what reading found, and then counting.
-- Assumes nothing.
use mathlib.Core.Path.{sym, ap, ◌∙◌}
use Rattle.forms.specs.SchemeMemory.{faulty}
use Rattle.notation.specs.Answers.{read_fault}
use Rattle.count_answer.specs.Counting.{counted_or}
use Rattle.twin_exports.specs.TextCountLaws.{both_found, both_lists, count_refused, count_done}
use Rattle.twin_exports.proofs.count_texts.Goals as goal

pub returns-in-Ok : goal.returns-in-Ok
returns-in-Ok c =
    let p = c.read_patterns-p in
    let q = c.read_scheme-s in
    let lists = both_lists p.result q.result _ _ (sym c.both.ensures ∙ c.in-Ok.is) in
    count_done _ _ p.result p.ensures q.result q.ensures _ (ap read_fault c.both.ensures ∙ both_found p.result q.result)
    (ap (λ r. faulty (read_fault r)) c.in-Ok.is) _ _ _ c.count.result c.code.result
    (rw (lists.0, lists.1) c.count.ensures) c.code.ensures

pub returns-in-Err : goal.returns-in-Err
returns-in-Err c =
    let p = c.read_patterns-p in
    let q = c.read_scheme-s in
    count_refused _ _ p.result p.ensures q.result q.ensures _ (ap read_fault c.both.ensures ∙ both_found p.result q.result)
    (ap (λ r. faulty (read_fault r)) c.in-Err.is) _ _ _ c.code-in-Err.result
    (sym (ap (λ r. counted_or (read_fault r) 0) c.in-Err.is)) c.code-in-Err.ensures
