-- `table_lines::input::last_number` meets its contract: the kept bytes lie within the array.
-- Assumes nothing.
use Prim.Native.Nat.{ℕ, min}
use native.Mathlib.Omega.{arith}
use mathlib.Core.Path.{◌≡◌, sym, ap, ◌∙◌}
use mathlib.Core.List.{List}
use lib.ListN.{length, take}
use lib.Seq.{length-take-le}
use Rattle.table_lines.specs.Lines.{number_in}
use Rattle.table_lines.specs.Kept.{as_number}
use Rattle.table_lines.specs.CallerLaws.{take_least}
use borrow.Author.Rules.{rules}
use Rattle.table_lines.proofs.input.last_number.Goals as goal

pub slice_bounds-number_in-end : goal.slice_bounds-number_in-end
slice_bounds-number_in-end c =
    let three : length c.args.lines.last ≡ 3 =
    let g = c.well_formed in search rules in
    let l = c.min-n in
    sym (length-take-le l.result c.args.lines.last (omega (arith, l.ensures, three)))

pub returns : goal.returns
returns c =
    let three : length c.args.lines.last ≡ 3 =
    let g = c.well_formed in search rules in
    let a = c.args in
    let l = c.min-n in
    let same : take l.result a.lines.last ≡ take a.lines.last_length a.lines.last =
    ap (λ (n : ℕ). take n a.lines.last) (l.ensures ∙ ap (min a.lines.last_length) (sym (three)))
    ∙ take_least a.lines.last a.lines.last_length in
    c.number_in.ensures ∙ ap (λ (s : List ℕ). as_number (number_in s)) same
