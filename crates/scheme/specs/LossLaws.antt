-- "The inversions lost by a deletion follow from prefix and spacing" (02, order 5), for the entries
-- of a scheme: each member of a cell of a deleting entry loses the same number.
use Rattle.std.specs.Prelude.{ℕ, ◌+◌, ◌≡◌, false, length}
use Rattle.std.proofs.Common.{sym, ap, ◌∙◌}
use mathlib.Core.List.{List, Memᴰ}
use Rattle.word.specs.Inversions.{inversions}
use Rattle.cell.specs.Cell.{cell, deleted}
use Rattle.cell.specs.Lost.{lost_inversions}
use Rattle.cell.proofs.LostLaws.{cell_loses}
use Rattle.forms.specs.SchemeList.{deletes, EntryList}
use Rattle.scheme.specs.WellFormed.{outside}
use Rattle.scheme.specs.PositionLaws.{positions_inside, positions_distinct}
use Rattle.scheme.specs.Proper.{ProperEntry}

pub entry_loses : (P : List (List ℕ)) (e : EntryList) (R : List ℕ) → ProperEntry e → e.rule ≡ deletes R → (g w : List ℕ) →
    Memᴰ w (cell P e.prefix g) → inversions w ≡ inversions (deleted R w) + lost_inversions e.prefix R g
entry_loses P e R proper rule g w m =
    let o : outside (length e.prefix) (deletes R) ≡ false = ap (outside (length e.prefix)) (sym rule) ∙ proper.inside in
    cell_loses P e.prefix R g proper.perm (positions_inside (length e.prefix) R o)
    (positions_distinct (length e.prefix) R o) w m
