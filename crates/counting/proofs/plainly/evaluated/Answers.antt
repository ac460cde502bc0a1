-- `counting::plainly::evaluated` meets its contract: the slice holds the patterns.
-- Assumes nothing.
use mathlib.Core.Path.{◌≡◌, ap, ◌∙◌}
use mathlib.Core.List.{List}
use Prim.Native.Nat.{ℕ}
use lib.ListN.{length}
use Rattle.word.specs.Ceilings.{PATTERNS}
use Rattle.forms.specs.SchemeMemory.{patterns_in, scheme_in}
use Rattle.forms.specs.SetMemory.{held_in}
use Rattle.scheme.specs.SetLaws.{slice_holds}
use Rattle.verdict.specs.Value.{count_of}
use borrow.Author.Rules.{rules}
use Rattle.counting.proofs.plainly.evaluated.Goals as goal
use Rattle.counting.proofs.plainly.evaluated.Goals.{After-as_slice}

holds : (c : After-as_slice) → held_in c.as_slice.result.now ≡ patterns_in c.args.patterns
holds c =
    let room : length c.args.patterns.items ≡ PATTERNS = (let o = c.well_formed in search rules) in
    ap held_in c.as_slice.ensures ∙ slice_holds c.args.patterns c.requires.1.patterns room

pub plain_count-requires : goal.plain_count-requires
plain_count-requires c =
    let q = c.requires in
    let h = holds (goal.at.plain_count-requires c).After-as_slice in
    (q.0, rw h q.1, rw h q.2)

pub returns : goal.returns
returns c =
    let a = c.args in
    c.plain_count.ensures ∙ ap (λ (P : List (List ℕ)). count_of P (scheme_in a.scheme) a.n) (holds (goal.at.returns c).After-as_slice)
