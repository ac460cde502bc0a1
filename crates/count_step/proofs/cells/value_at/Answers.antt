-- `count_step::cells::value_at` meets its contract.
-- Assumes nothing.
use native.Mathlib.Omega.{arith}
use mathlib.Core.Path.{sym, ◌∙◌}
use Rattle.count_step.proofs.FillLaws.{step_covered, step_deletes, step_alone, step_sums}
use Rattle.count_step.proofs.cells.value_at.Goals as goal

pub returns-then-not-is_free : goal.returns-then-not-is_free
returns-then-not-is_free c =
    sym (step_covered _ _ _ _ _ _ _
    (sym c.is_free.ensures ∙ c.if-not-is_free.true))

pub overflow_add-links : goal.overflow_add-links
overflow_add-links c = omega (arith, c.rank_without-rank.ensures.1, c.requires.0.near 0)

pub returns-then-task-ne0 : goal.returns-then-task-ne0
returns-then-task-ne0 c =
    let fr = sym c.is_free.ensures ∙ c.if-not-is_free.false in
    c.read.ensures ∙ step_deletes _ _ _ _ _ _ _
    c.rank_without-rank.result fr c.if-task-ne0.true c.rank_without-rank.ensures.0

pub returns-then-task-eq0 : goal.returns-then-task-eq0
returns-then-task-eq0 c =
    let fr = sym c.is_free.ensures ∙ c.if-not-is_free.false in
    step_alone _ _ _ _ _ _ _ fr c.if-task-ne0.false (c.requires.2 ∙ c.if-task-eq0.true)

pub returns : goal.returns
returns c =
    let fr = sym c.is_free.ensures ∙ c.if-not-is_free.false in
    c.child_sum.ensures ∙ step_sums _ _ _ _ _ _ _ fr c.if-task-ne0.false
    (λ e. c.if-task-eq0.false (sym c.requires.2 ∙ e))
