-- `lexicographic::listing::basis_in` meets its contract: the slice holds the patterns.
-- Assumes nothing.
use Prim.Native.Nat.{ℕ}
use mathlib.Core.Path.{◌≡◌, ap, subst, ◌∙◌}
use mathlib.Core.List.{List}
use lib.ListN.{length}
use borrow.Author.Rules.{rules}
use Rattle.word.specs.Ceilings.{PATTERNS}
use Rattle.forms.specs.SetMemory.{held_in}
use Rattle.basis.specs.BasisSet.{IsBasis}
use Rattle.scheme.specs.SetLaws.{slice_holds}
use Rattle.lexicographic.proofs.listing.basis_in.Goals as goal

pub returns : goal.returns
returns c =
    let a = c.args in
    let room : length a.patterns.items ≡ PATTERNS = (let g = c.well_formed in search rules) in
    subst (λ (P : List (List ℕ)). IsBasis P c.basis_of.result)
    (ap held_in c.as_slice.ensures ∙ slice_holds a.patterns c.requires room) c.basis_of.ensures
