-- `lexicographic::listing::next_listed` meets its contract: the basis has the same avoiders.
-- Assumes nothing.
use mathlib.Core.Path.{◌≡◌, ap, ◌∙◌}
use lib.ListN.{length}
use borrow.Author.Rules.{rules}
use Rattle.word.specs.Ceilings.{PATTERNS}
use Rattle.word.specs.Word.{is_perm, avoids}
use Rattle.word.specs.Listing.{next_avoider}
use Rattle.forms.specs.SchemeMemory.{patterns_in}
use Rattle.forms.specs.SetMemory.{held_in}
use Rattle.lexicographic.proofs.SetLaws.{held_avoids, held_next}
use Rattle.lexicographic.proofs.listing.next_listed.Goals as goal

pub next_of-requires : goal.next_of-requires
next_of-requires c =
    let a = c.args in
    let basis = c.basis_in-basis in
    let room : length basis.result.items ≡ PATTERNS = (let o = basis.type_inv in search rules) in
    let e = c.word_of-word.ensures in
    let same = held_avoids (patterns_in a.patterns) c.requires.0 basis.result basis.ensures room a.permutation.now in (
      c.requires.1,
      record {
        perm = ap is_perm e ∙ c.requires.2;
        size = ap length e;
        avoids_all = ap (avoids (held_in c.as_slice.result.now)) e ∙
            ap (λ s. avoids (held_in s) a.permutation.now) c.as_slice.ensures ∙ same ∙ c.requires.3;
      },
    )

pub returns : goal.returns
returns c =
    let a = c.args in
    let basis = c.basis_in-basis in
    let room : length basis.result.items ≡ PATTERNS = (let o = basis.type_inv in search rules) in
    c.next_of.ensures ∙
    ap (next_avoider (held_in c.as_slice.result.now)) c.word_of-word.ensures ∙
    ap (λ s. next_avoider (held_in s) a.permutation.now) c.as_slice.ensures ∙
    held_next (patterns_in a.patterns) c.requires.0 basis.result basis.ensures room a.permutation.now
