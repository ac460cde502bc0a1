-- Laws of a proper entry in memory: its prefix, its gap vectors, its position.
use Rattle.std.specs.Prelude.{ℕ, suc, ◌+◌, ◌≤◌, ◌<◌, ◌≡◌, true, length, get_or, take}
use Rattle.std.proofs.Common.{add-one, arith, sym, ap, ◌∙◌}
use mathlib.Core.List.Memᴰ
use mathlib.Core.List.{Memᴰ}
use Rattle.word.specs.Ceilings.{PREFIX, GAPS, PARTS, TOTAL}
use Rattle.word.specs.Word.{is_perm}
use Rattle.word.specs.ListLaws.{row_in}
use Rattle.cell.specs.Cell.{total}
use Rattle.forms.specs.GapRows.{gaps_of, HasVectors}
use Rattle.forms.specs.GapRowLaws.{gaps_stand}
use Rattle.forms.specs.SchemeMemory.{parts_at, gap_at, entry_in}
use Rattle.forms.specs.MemoryLaws.{padded_within, length_padded}
use Rattle.scheme.specs.TestLaws.{length_items}
use Rattle.forms.specs.declared.memory.Entry.{Entry}
use Rattle.scheme.specs.Proper.{ProperEntry}

module _ (e : Entry) (proper : ProperEntry (entry_in e)) where
  pub entry_short : e.length ≤ PREFIX
  entry_short = omega (arith, proper.short, length_padded e.length e.prefix)

  pub entry_few : e.gap_count ≤ GAPS
  entry_few = omega (arith, proper.few, length_items (gap_at e) e.gap_count)

  gap_member : (j : ℕ) → j < e.gap_count → Memᴰ (gap_at e j) (entry_in e).gaps
  gap_member j h = Memᴰ.map (gap_at e) (row_in 0 e.gap_count j (omega arith) (omega arith))

  pub gap_width : (j : ℕ) → j < e.gap_count → get_or e.widths j 0 ≡ suc e.length
  gap_width j h =
      sym (length_padded (get_or e.widths j 0) (parts_at e.gaps j)) ∙ proper.wide (gap_at e j) (gap_member j h) ∙
      ap suc (length_padded e.length e.prefix)

  pub gap_total : (j : ℕ) → j < e.gap_count → total (gap_at e j) ≤ TOTAL
  gap_total j h = proper.small (gap_at e j) (gap_member j h)

  -- the array holds the gap vectors, once it is known to have all places
  module _ (all : length e.gaps ≡ PARTS) where
    pub gaps_hold : gaps_of e.gaps (e.length + 1) e.gap_count ≡ (entry_in e).gaps
    gaps_hold =
        gaps_stand e (e.length + 1) e.gap_count all (omega (arith, entry_short)) entry_few
        (λ j h. gap_width j h ∙ sym (add-one e.length))

    pub gaps_in : HasVectors e.gaps e.gap_count
    gaps_in = omega (arith, entry_few, all)

  -- the prefix, once its array is known to have six digits
  module _ (six : length e.prefix ≡ PREFIX) where
    pub prefix_is : (entry_in e).prefix ≡ take e.length e.prefix
    prefix_is = padded_within e.length e.prefix (omega (arith, entry_short, six))

    pub prefix_perm : is_perm (take e.length e.prefix) ≡ true
    prefix_perm = ap is_perm (sym prefix_is) ∙ proper.perm
