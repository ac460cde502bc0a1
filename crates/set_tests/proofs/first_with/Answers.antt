-- `set_tests::first_with` meets its contract: the first item at which the test fails is the first
-- from the index on.
-- Assumes nothing.
use Rattle.std.proofs.Common.{arith, sym, ap, ◌∙◌}
use Rattle.forms.specs.SchemeMemory.{fault_of}
use Rattle.scheme.specs.TestOrder.{place_in}
use Rattle.scheme.specs.TestLaws.{first_start, first_here, first_later, first_end}
use Rattle.std.specs.Prelude.{Err}
use Rattle.set_tests.proofs.first_with.Goals as goal

pub loop-i-init : goal.loop-i-init
loop-i-init g c = λ f is. first_start c.args.why f (place_in c.args.s) c.args.s.count

pub returns-then-fails : goal.returns-then-fails
returns-then-fails g c =
    let s = c.args.s in
    let l = c.loop-i in
    λ f is.
    ap Err c.at.ensures ∙
    ap fault_of (sym (l.invariant f is ∙ first_here c.args.why f (place_in s) s.count l.i (omega arith)
    (sym (is _ _ c.fails.ensures) ∙ c.if-fails.true)))

pub loop-i-preserved : goal.loop-i-preserved
loop-i-preserved g c =
    let s = c.args.s in
    let l = c.loop-i in
    λ f is.
    l.invariant f is ∙ first_later c.args.why f (place_in s) s.count l.i (omega arith)
    (sym (is _ _ c.fails.ensures) ∙ c.if-fails.false)

pub returns : goal.returns
returns g c =
    let s = c.args.s in
    let l = c.loop-i in
    λ f is. ap fault_of (sym (l.invariant f is ∙ first_end c.args.why f (place_in s) s.count l.i (omega arith)))
