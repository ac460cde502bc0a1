-- `table_lines::input::one_digit` meets its contract: a digit spells its value.
-- Assumes nothing.
use native.Mathlib.Omega.{arith}
use mathlib.Core.Path.{sym, ap, ◌∙◌}
use Rattle.std.specs.Prelude.{Some}
use Rattle.table_lines.specs.Kept.{as_number}
use Rattle.table_lines.specs.LastNumberLaws.{below_digits, above_digits, one_spelt, one_misspelt}
use Rattle.table_lines.proofs.input.one_digit.Goals as goal

pub returns-then-a-lt48 : goal.returns-then-a-lt48
returns-then-a-lt48 c = sym (ap as_number (one_misspelt c.args.a (below_digits c.args.a (omega arith))))

pub returns-then-a-gt57 : goal.returns-then-a-gt57
returns-then-a-gt57 c = sym (ap as_number (one_misspelt c.args.a (above_digits c.args.a (omega arith))))

pub returns : goal.returns
returns c =
    ap Some c.from.ensures ∙ sym (ap as_number (one_spelt c.args.a (omega arith) (omega arith)))
