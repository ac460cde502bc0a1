-- `table_lines::input::two_digits` meets its contract: two digits spell a number, where the first
-- is no zero.
-- Assumes nothing.
use Prim.Native.Nat.{ℕ, ◌+◌, ◌*◌}
use native.Mathlib.Omega.{arith}
use mathlib.Core.Path.{sym, ap, ap₂, ◌∙◌}
use Rattle.std.specs.Prelude.{Some}
use Rattle.table_lines.specs.Kept.{as_number}
use Rattle.table_lines.specs.LastNumberLaws.{below_digits, above_digits, two_spelt, first_misspelt, second_misspelt}
use Rattle.table_lines.proofs.input.two_digits.Goals as goal

pub returns-then-a-gt57 : goal.returns-then-a-gt57
returns-then-a-gt57 c =
    sym
    (ap as_number (first_misspelt c.args.a c.args.b
    (above_digits c.args.a (omega arith))))

pub returns-then-b-lt48 : goal.returns-then-b-lt48
returns-then-b-lt48 c =
    let a = c.args in
    sym (ap as_number (second_misspelt a.a a.b (omega arith) (omega arith) (below_digits a.b (omega arith))))

pub returns-then-b-gt57 : goal.returns-then-b-gt57
returns-then-b-gt57 c =
    let a = c.args in
    sym (ap as_number (second_misspelt a.a a.b (omega arith) (omega arith) (above_digits a.b (omega arith))))

pub returns : goal.returns
returns c =
    let a = c.args in
    ap Some (ap₂ (λ (x y : ℕ). x * 10 + y) c.from.ensures c.from-2.ensures)
    ∙ sym (ap as_number (two_spelt a.a a.b (omega arith) (omega arith) (omega arith) (omega arith)))
