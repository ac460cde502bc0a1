-- `table_print::printing::judge_lines` meets its contract: the parts lie within the buffers.
-- Assumes nothing.
use Prim.Native.Nat.{ℕ}
use native.Mathlib.Omega.{arith}
use mathlib.Core.Path.{sym, ap, ◌∙◌}
use lib.ListN.{take}
use lib.Seq.{length-take-le}
use Rattle.table_lines.specs.CallerLaws.{take_least}
use Rattle.table_print.proofs.printing.judge_lines.Goals as goal

pub slice_bounds-read_and_judge-end : goal.slice_bounds-read_and_judge-end
slice_bounds-read_and_judge-end c =
    let m = c.min-m in
    sym (length-take-le m.result c.args.set.now (let h = m.ensures in omega arith))

pub slice_bounds-read_and_judge-end-2 : goal.slice_bounds-read_and_judge-end-2
slice_bounds-read_and_judge-end-2 c =
    let n = c.min-n in
    sym (length-take-le n.result c.args.scheme.now (let h = n.ensures in omega arith))

pub returns : goal.returns
returns c =
    let n = c.min-n in
    let m = c.min-m in
    let a = c.args in
    rw (
      ← (ap (λ (x : ℕ). take x a.set.now) m.ensures ∙ take_least a.set.now a.lines.set_length),
      ← (ap (λ (x : ℕ). take x a.scheme.now) n.ensures ∙ take_least a.scheme.now a.lines.scheme_length),
    )
    c.read_and_judge.ensures
