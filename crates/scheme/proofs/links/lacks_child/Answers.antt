-- `scheme::links::lacks_child` meets its contract.
-- Assumes nothing.
use Prim.Native.Nat.{◌≤◌}
use mathlib.Core.Path.{◌≡◌, sym, ap, ◌∙◌}
use native.Mathlib.Omega.{arith}
use borrow.Author.Rules.{rules}
use lib.ListN.{length, take}
use Rattle.word.specs.Ceilings.{PREFIX}
use Rattle.word.specs.Word.{is_perm}
use Rattle.forms.specs.MemoryLaws.{padded_within}
use Rattle.scheme.proofs.LookupLaws.{expand_child}
use Rattle.forms.specs.SchemeMemory.{padded}
use lib.Seq.{length-take-le}
use Rattle.scheme.proofs.links.lacks_child.Goals as goal
use Rattle.scheme.proofs.links.lacks_child.Goals.{In-Expand}

-- the digits of the prefix
digits : (c : In-Expand) → (take c.args.e.length c.args.e.prefix ≡ padded c.args.e.length c.args.e.prefix) ×
    (length (take c.args.e.length c.args.e.prefix) ≡ c.args.e.length)
digits c =
    let e = c.args.e in
    let six : length e.prefix ≡ PREFIX = search rules in
    let short : e.length ≤ PREFIX = c.requires.short in
    (sym (padded_within e.length e.prefix (omega arith)), length-take-le e.length e.prefix (omega arith))

pub childless-requires : goal.childless-requires
childless-requires c =
    let (same, size) = digits (goal.at.childless-requires c).In-Expand in
    let short : c.args.e.length ≤ PREFIX = c.requires.short in
    (omega (arith, size), ap is_perm same ∙ c.requires.perm)

pub returns-in-Expand : goal.returns-in-Expand
returns-in-Expand c =
    let e = c.args.e in
    let six : length e.prefix ≡ PREFIX = search rules in
    let short : e.length ≤ PREFIX = c.requires.short in
    λ ps w. c.childless.ensures ps w ∙ sym (expand_child ps e.prefix e.length e.rule (omega arith)
    c.in-Expand.is)

pub returns-in-Delete : goal.returns-in-Delete
returns-in-Delete c = λ ps w. search rules
