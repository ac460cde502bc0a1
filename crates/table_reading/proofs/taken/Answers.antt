-- `table_reading::taken` meets its contract: the bytes that were read, and the state.
-- Assumes nothing.
use Prim.Native.Nat.{ℕ}
use mathlib.Core.Path.{◌≡◌, ap, ap₂, ◌∙◌}
use lib.IntN.{ℤ}
use mir.Syntax.{w32, w64}
use mir.Val.{to_z, of_z}
use lib.ListN.{take}
use Rattle.table_reading.specs.declared.State.{State}
use Rattle.table_lines.specs.Kept.{Memory, memory_of}
use Rattle.table_lines.specs.KeptWalk.{kept_on}
use Rattle.table_reading.specs.Reads.{AfterRead, state_after, bytes_got, taken_of}
use borrow.Author.Rules.{rules}
use Rattle.table_reading.proofs.taken.Goals as goal

abbrev after : State → Memory → AfterRead
after s m = record { state = s; memory = m }

pub returns-clause-kept : goal.returns-clause-kept
unfolding taken_of
returns-clause-kept c =
    let a = c.args in
    let count = c.count-n in
    let before = memory_of a.lines a.set.now a.scheme.now in
    let same : to_z w64 (of_z w64 a.got) ≡ a.got = search rules in
    let error : to_z w32 (of_z w32 a.error) ≡ a.error = search rules in
    ap₂ after
    (c.state_after-state.ensures ∙ ap₂ state_after same error)
    (c.keep-kept.ensures
    ∙ ap (λ (n : ℕ). kept_on before (take n a.chunk.now)) count.ensures.value
    ∙ ap (λ (z : ℤ). kept_on before (bytes_got a.chunk.now z)) same)
