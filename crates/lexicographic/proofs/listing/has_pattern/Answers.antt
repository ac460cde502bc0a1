-- `lexicographic::listing::has_pattern` meets its contract: the slice holds the patterns.
-- Assumes nothing.
use mathlib.Core.Path.{◌≡◌, ap, ◌∙◌}
use mathlib.Core.Bool.{not}
use mathlib.Core.List.{List}
use Prim.Native.Nat.{ℕ}
use lib.ListN.{length}
use borrow.Author.Rules.{rules}
use Rattle.word.specs.Ceilings.{PATTERNS}
use Rattle.word.specs.Word.{avoids}
use Rattle.forms.specs.SetMemory.{held_in}
use Rattle.scheme.specs.SetLaws.{slice_holds}
use Rattle.lexicographic.proofs.listing.has_pattern.Goals as goal

pub returns : goal.returns
returns c =
    let a = c.args in
    let room : length a.patterns.items ≡ PATTERNS = (let g = c.well_formed in search rules) in
    c.any_in.ensures ∙
    ap (λ (P : List (List ℕ)). not (avoids P a.permutation.now))
    (ap held_in c.as_slice.ensures ∙ slice_holds a.patterns c.requires room)
