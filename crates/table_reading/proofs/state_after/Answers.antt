-- `table_reading::state_after` meets its contract: by the answer of `read`, and then by
-- errno.
-- Assumes nothing.
use mathlib.Core.Path.{◌≡◌, sym, ap, ◌∙◌}
use lib.IntN.{pos}
use lib.Signed.{lt_z}
use mir.Syntax.{w32, w64}
use mir.Val.{to_z, of_z}
use borrow.Author.Rules.{rules}
use Rattle.table_reading.specs.ReadLaws.{state_more, state_end, state_again, state_failed}
use Rattle.table_reading.proofs.state_after.Goals as goal

pub returns-then-got-gt0 : goal.returns-then-got-gt0
returns-then-got-gt0 c =
    let a = c.args in
    let same : to_z w64 (of_z w64 a.got) ≡ a.got = search rules in
    state_more a.got a.error (ap (lt_z (pos 0)) (sym same) ∙ c.if-got-gt0.true)

pub returns-then-got-eq0 : goal.returns-then-got-eq0
returns-then-got-eq0 c =
    let a = c.args in
    let same : to_z w64 (of_z w64 a.got) ≡ a.got = search rules in
    state_end a.got a.error (sym same ∙ ap (to_z w64) c.if-got-eq0.true)

pub returns-then-error-ne-EINTR : goal.returns-then-error-ne-EINTR
returns-then-error-ne-EINTR c =
    let a = c.args in
    let same : to_z w64 (of_z w64 a.got) ≡ a.got = search rules in
    state_failed a.error a.got (ap (lt_z (pos 0)) (sym same) ∙ c.if-got-gt0.false)
    (λ (e : a.got ≡ pos 0). c.if-got-eq0.false (ap (of_z w64) e)) (λ (e : a.error ≡ pos 4). c.if-error-ne-EINTR.true (ap (of_z w32) e))

pub returns : goal.returns
returns c =
    let a = c.args in
    let same : to_z w64 (of_z w64 a.got) ≡ a.got = search rules in
    let error : to_z w32 (of_z w32 a.error) ≡ a.error = search rules in
    state_again a.error a.got (ap (lt_z (pos 0)) (sym same) ∙ c.if-got-gt0.false)
    (λ (e : a.got ≡ pos 0). c.if-got-eq0.false (ap (of_z w64) e)) (sym error ∙ ap (to_z w32) c.if-error-ne-EINTR.false)
