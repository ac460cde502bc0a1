-- `avoider_lines::judging::set_in` meets its contract: the part lies within the buffer.
-- Assumes nothing.
use Prim.Native.Nat.{ℕ}
use native.Mathlib.Omega.{arith}
use mathlib.Core.Path.{sym, ap, ◌∙◌}
use lib.ListN.{take}
use lib.Seq.{length-take-le}
use Rattle.notation.specs.PatternAnswers.{patterns_answer}
use Rattle.table_lines.specs.CallerLaws.{take_least}
use Rattle.avoider_lines.proofs.judging.set_in.Goals as goal

pub slice_bounds-read_patterns-end : goal.slice_bounds-read_patterns-end
slice_bounds-read_patterns-end c =
    let n = c.min-n in
    sym (length-take-le n.result c.args.set.now (let h = n.ensures in omega arith))

pub returns : goal.returns
returns c =
    let n = c.min-n in
    let a = c.args in
    c.read_patterns.ensures.0
    ∙ ap patterns_answer (ap (λ (x : ℕ). take x a.set.now) n.ensures ∙ take_least a.set.now a.lines.set_length)
