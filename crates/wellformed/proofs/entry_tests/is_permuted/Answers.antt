-- `wellformed::entry_tests::is_permuted` meets its contract: the part of the array is the prefix.
-- Assumes nothing.
use mathlib.Core.Path.{◌≡◌, sym, ap, ◌∙◌}
use native.Mathlib.Omega.{arith}
use lib.ListN.{length}
use lib.Seq.{length-take-le}
use Rattle.word.specs.Ceilings.{PREFIX}
use Rattle.word.specs.Word.{is_perm}
use Rattle.forms.specs.MemoryLaws.{padded_within}
use borrow.Author.Rules.{rules}
use Rattle.wellformed.proofs.entry_tests.is_permuted.Goals as goal

pub slice_bounds-is_permutation-end : goal.slice_bounds-is_permutation-end
slice_bounds-is_permutation-end c =
    let e = c.args.e in
    let six : length e.prefix ≡ PREFIX = search rules in
    sym (length-take-le e.length e.prefix (omega (arith, c.requires.short)))

pub returns : goal.returns
returns c =
    let e = c.args.e in
    let six : length e.prefix ≡ PREFIX = search rules in
    c.is_permutation.ensures ∙ ap is_perm (sym (padded_within e.length e.prefix (omega (arith, c.requires.short))))
