-- `lexicographic::listing::first_listed` meets its contract: the basis has the same avoiders.
-- Assumes nothing.
use mathlib.Core.Path.{◌≡◌, ap, ◌∙◌}
use lib.ListN.{length}
use borrow.Author.Rules.{rules}
use Rattle.word.specs.Ceilings.{PATTERNS}
use Rattle.word.specs.Listing.{first_avoider}
use Rattle.forms.specs.SchemeMemory.{patterns_in}
use Rattle.forms.specs.SetMemory.{held_in}
use Rattle.lexicographic.proofs.SetLaws.{held_first}
use Rattle.lexicographic.proofs.listing.first_listed.Goals as goal

pub returns : goal.returns
returns c =
    let a = c.args in
    let basis = c.basis_in-basis in
    let room : length basis.result.items ≡ PATTERNS = (let o = basis.type_inv in search rules) in
    c.first_of.ensures ∙ ap (λ s. first_avoider (held_in s) a.n) c.as_slice.ensures ∙
    held_first (patterns_in a.patterns) c.requires.0 basis.result basis.ensures room a.n
