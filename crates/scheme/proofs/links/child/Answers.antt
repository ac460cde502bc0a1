-- `scheme::links::child` meets its contract: the digits up to the index are those of the child.
-- Assumes nothing.
use mathlib.Core.Path.{◌≡◌, ap, ◌∙◌}
use mathlib.Core.List.{map}
use native.Mathlib.Omega.{arith}
use lib.ListN.{length, take, length-set}
use lib.Seq.{take_all}
use Rattle.word.specs.Word.{bump}
use Rattle.scheme.proofs.PrefixLaws.{digit_bounds, child_more, child_whole}
use Rattle.scheme.proofs.links.child.Goals as goal

pub raised-requires : goal.raised-requires
raised-requires c = omega (arith, digit_bounds c.args.prefix.now c.loop-j.j c.requires.1 (omega arith))

pub loop-j-preserved : goal.loop-j-preserved
loop-j-preserved c =
    let a = c.args in
    let l = c.loop-j in (
      child_more l.digits a.prefix.now l.j a.a c.raised.result (omega (arith, l.invariant.1)) (omega arith) c.raised.ensures
          l.invariant.0,
      length-set l.digits l.j c.raised.result ∙ l.invariant.1,
    )

pub returns : goal.returns
returns c =
    let a = c.args in
    let l = c.loop-j in
    let p = a.prefix.now in
    let all : l.j ≡ length p = omega arith in
    let front : take (length p) l.digits ≡ map (bump a.a) p =
    (rw all at l.invariant.0) ∙ ap (map (bump a.a)) (take_all (length p) p (omega arith)) in
    child_whole l.digits p (length p) a.a (omega (arith, l.invariant.1)) front
