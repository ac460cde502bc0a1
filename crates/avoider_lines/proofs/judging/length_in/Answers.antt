-- `avoider_lines::judging::length_in` meets its contract: the part lies within the buffer.
-- Assumes nothing.
use Prim.Native.Nat.{ℕ}
use native.Mathlib.Omega.{arith}
use mathlib.Core.Path.{sym, ap, ◌∙◌}
use mathlib.Core.List.{List}
use lib.ListN.{take}
use lib.Seq.{length-take-le}
use Rattle.table_lines.specs.Lines.{number_in}
use Rattle.table_lines.specs.Kept.{as_number}
use Rattle.table_lines.specs.CallerLaws.{take_least}
use Rattle.avoider_lines.proofs.judging.length_in.Goals as goal

pub slice_bounds-number_in-end : goal.slice_bounds-number_in-end
slice_bounds-number_in-end c =
    let n = c.min-n in
    sym (length-take-le n.result c.args.second.now (let h = n.ensures in omega arith))

pub returns : goal.returns
returns c =
    let n = c.min-n in
    let a = c.args in
    c.number_in.ensures
    ∙ ap (λ (s : List ℕ). as_number (number_in s))
    (ap (λ (x : ℕ). take x a.second.now) n.ensures ∙ take_least a.second.now a.lines.scheme_length)
