-- `count_plain::reading::is_free_at` meets its contract.
-- Assumes nothing.
use native.Mathlib.Omega.{arith}
use Prim.Native.Nat.{ℕ, ◌+◌}
use mathlib.Core.Path.{◌≡◌, ap, ap₂, ◌∙◌}
use mathlib.Core.List.{List}
use lib.ListN.{length, take}
use Rattle.word.specs.Ceilings.{PARTS}
use Rattle.cell.specs.Cell.{free}
use Rattle.forms.specs.GapRows.{gaps_of}
use Rattle.count_plan.proofs.SheetRowLaws.{parts_long}
use Rattle.count_plain.proofs.reading.is_free_at.Goals as goal

pub is_free-requires : goal.is_free-requires
is_free-requires c =
    let long : length c.gaps_of-gaps.result.now ≡ PARTS = ap length c.gaps_of-gaps.ensures ∙ parts_long c.args.sheet.now c.args.e
    c.requires.0 c.requires.2 in
    (omega (arith, c.requires.1), omega (arith, c.field-n.ensures, c.requires.3, long))

pub returns : goal.returns
returns c =
    let a = c.args in
    c.is_free.ensures ∙
    ap₂ (λ (parts : List ℕ) (n : ℕ). free (gaps_of parts (a.k + 1) n) (take (a.k + 1) a.g)) c.gaps_of-gaps.ensures
    c.field-n.ensures
