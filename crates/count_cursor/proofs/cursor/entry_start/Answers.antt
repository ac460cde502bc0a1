-- `count_cursor::cursor::entry_start` meets its contract.
-- Assumes nothing.
use Prim.Native.Nat.{◌+◌, ◌-◌}
use mathlib.Core.Path.{refl, sym, ap, ◌∙◌}
use lib.ListN.{take}
use Rattle.spacing.specs.Following.{first_vector}
use Rattle.count_cursor.proofs.cursor.entry_start.Goals as goal

pub returns : goal.returns
returns c =
    let a = c.args in
    let k = c.field-k.ensures in
    record {
      here = refl;
      entry = refl;
      rank = refl;
      spacing = ap (λ m. take (m + 1) c.first_spacing-g.result) (sym k) ∙ c.first_spacing-g.ensures ∙
          ap (λ m. first_vector m (a.row - m)) k;
    }
