-- `count_cursor::cursor::longest` meets its contract.
-- Assumes nothing.
use native.Mathlib.Omega.{arith}
use mathlib.Core.Logic.{inl, inr}
use Rattle.count_cursor.proofs.cursor.longest.Goals as goal

pub returns-then-row-lt-PREFIX : goal.returns-then-row-lt-PREFIX
returns-then-row-lt-PREFIX c =
    record { low = omega arith; reach = omega arith; short = omega arith; all = inr (omega arith) }

pub returns-else-row-lt-PREFIX : goal.returns-else-row-lt-PREFIX
returns-else-row-lt-PREFIX c =
    record { low = omega arith; reach = omega arith; short = omega arith; all = inl (omega arith) }
