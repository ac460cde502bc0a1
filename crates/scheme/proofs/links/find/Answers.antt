-- `scheme::links::find` meets its contract: the first of all codes is the first of those from the
-- index on.
-- Assumes nothing.
use mathlib.Core.Path.{sym, ap, ◌∙◌}
use native.Mathlib.Omega.{arith}
use Rattle.scheme.specs.Links.{found_of}
use Rattle.scheme.proofs.LookupLaws.{code_start, code_here, code_later, code_end}
use Rattle.scheme.proofs.links.find.Goals as goal

pub loop-i-init : goal.loop-i-init
loop-i-init c = code_start c.args.codes.now c.args.code

pub returns-then-code-x : goal.returns-then-code-x
returns-then-code-x c =
    let a = c.args in
    sym (ap found_of (c.loop-i.invariant ∙ code_here a.codes.now a.code c.loop-i.i (omega arith) c.if-code-x.true))

pub loop-i-preserved : goal.loop-i-preserved
loop-i-preserved c =
    let a = c.args in
    c.loop-i.invariant ∙ code_later a.codes.now a.code c.loop-i.i (omega arith) c.if-code-x.false

pub returns : goal.returns
returns c =
    let a = c.args in
    let l = c.loop-i in
    sym (ap found_of (l.invariant ∙ code_end a.codes.now a.code l.i (omega arith)))
