-- `wellformed::entry_tests::same_gap` meets its contract: the parts of the arrays are the vectors.
-- Assumes nothing.
use mathlib.Core.Path.{◌≡◌, sym, ap₂, ◌∙◌}
use native.Mathlib.Omega.{arith}
use lib.ListN.{length, take}
use Rattle.word.specs.Ceilings.{COMPONENTS}
use Rattle.cell.specs.Basis.{same}
use Rattle.forms.specs.MemoryLaws.{padded_within, same_pointwise}
use borrow.Author.Rules.{rules}
use Rattle.wellformed.proofs.entry_tests.same_gap.Goals as goal

pub returns : goal.returns
returns c =
    let b = c.args.b in
    let d = c.args.d in
    let first : length b.parts ≡ COMPONENTS = search rules in
    let second : length d.parts ≡ COMPONENTS = search rules in
    c.eq.ensures ∙ sym (same_pointwise (take b.width b.parts) (take d.width d.parts)) ∙
    ap₂ same
    (sym (padded_within b.width b.parts (omega (arith, c.requires.0))))
    (sym (padded_within d.width d.parts (omega (arith, c.requires.1))))
