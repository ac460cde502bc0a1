-- `scheme::links::childless` meets its contract: a child is not listed if one from the last entry a
-- on is not.
-- Assumes nothing.
use Prim.Native.Nat.{◌+◌}
use mathlib.Core.Path.{◌≡◌, sym, ap, ◌∙◌}
use mathlib.Core.Bool.{not}
use native.Mathlib.Omega.{arith}
use lib.ListN.{length}
use Rattle.cell.specs.Child.{child_at}
use Rattle.scheme.specs.WellFormed.{listed}
use Rattle.scheme.specs.TestLaws.{place_here, place_later, place_end}
use Rattle.scheme.specs.ProperLaws.{all_childless}
use Rattle.scheme.proofs.LookupLaws.{unlisted, missing, children_start}
use mathlib.Core.List.{List}
use Prim.Native.Nat.{ℕ}
use Rattle.forms.specs.Codes.{Codes}
use Rattle.scheme.proofs.links.childless.Goals as goal
use Rattle.scheme.proofs.links.childless.Goals.{After-has_entry}

pub returns-then-k-eq-PREFIX : goal.returns-then-k-eq-PREFIX
returns-then-k-eq-PREFIX c =
    let p = c.args.prefix.now in
    λ ps w. sym (all_childless ps w.short p c.requires.1 (omega arith))

pub loop-a-init : goal.loop-a-init
loop-a-init c = λ ps w. children_start (unlisted ps) c.args.prefix.now c.requires.1

-- whether the child with the last entry a has an entry
asked : (c : After-has_entry) (ps : List (List ℕ)) → Codes ps c.args.codes.now →
    c.has_entry.result ≡ listed ps (child_at c.args.prefix.now c.loop-a.a)
asked c ps w = c.has_entry.ensures ps w ∙ ap (listed ps) c.child-q.ensures

pub returns-then-not-has_entry : goal.returns-then-not-has_entry
returns-then-not-has_entry c =
    let p = c.args.prefix.now in
    let l = c.loop-a in
    λ ps w.
    sym (l.invariant ps w ∙ place_here (missing ps p) (length p + 2) l.a (omega arith)
    (ap not (sym (asked (goal.at.returns-then-not-has_entry c).After-has_entry ps w) ∙ c.if-not-has_entry.true)))

pub loop-a-preserved : goal.loop-a-preserved
loop-a-preserved c =
    let p = c.args.prefix.now in
    let l = c.loop-a in
    λ ps w.
    l.invariant ps w ∙ place_later (missing ps p) (length p + 2) l.a (omega arith)
    (ap not (sym (asked (goal.at.loop-a-preserved c).After-has_entry ps w) ∙ c.if-not-has_entry.false))

pub returns : goal.returns
returns c =
    let p = c.args.prefix.now in
    let l = c.loop-a in
    λ ps w. sym (l.invariant ps w ∙ place_end (missing ps p) (length p + 2) l.a (omega arith))
