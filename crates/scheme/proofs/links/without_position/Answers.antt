-- `scheme::links::without_position` meets its contract: the digits up to the index are those of the
-- shorter prefix.
-- Assumes nothing.
use Prim.Native.Nat.{◌-◌, ◌<◌}
use mathlib.Core.Path.{◌≡◌, ap, ◌∙◌}
use mathlib.Core.List.{[], ◌∷◌}
use native.Mathlib.Omega.{arith}
use lib.ListN.{length, take, get_or, length-set}
use lib.Seq.{take_all}
use Rattle.word.specs.Word.{bump}
use Rattle.word.specs.Vocabulary.{unbump}
use Rattle.cell.specs.Cell.{deleted}
use Rattle.scheme.proofs.PrefixLaws.{digit_bounds, bump_inside, one_size, one_more}
use Rattle.scheme.proofs.links.without_position.Goals as goal

pub lowered-requires : goal.lowered-requires
lowered-requires c =
    let a = c.args in
    let j = c.loop-j.j in
    let inside : bump (a.r - 1) j < length a.prefix.now = bump_inside (a.r - 1) j (length a.prefix.now) (omega arith) in
    omega (arith, c.kept.ensures, digit_bounds a.prefix.now (bump (a.r - 1) j) c.requires.3 inside)

pub loop-j-preserved : goal.loop-j-preserved
loop-j-preserved c =
    let p = c.args.prefix.now in
    let r = c.args.r in
    let l = c.loop-j in
    let h = c.requires in
    let value : c.lowered.result ≡ unbump (get_or p (r - 1) 0) (get_or p (bump (r - 1) l.j) 0) =
    c.lowered.ensures ∙ ap (unbump (get_or p (r - 1) 0)) c.kept.ensures in (
      one_more p r h.3 h.0 h.1 l.digits l.j c.lowered.result
          (omega arith) (omega (arith, h.2, l.invariant.1)) value l.invariant.0,
      length-set l.digits l.j c.lowered.result ∙ l.invariant.1,
    )

pub returns : goal.returns
returns c =
    let p = c.args.prefix.now in
    let r = c.args.r in
    let l = c.loop-j in
    let h = c.requires in
    let all : l.j ≡ length p - 1 = omega arith in
    let front : take (length p - 1) l.digits ≡ take (length p - 1) (deleted (r ∷ []) p) = rw all at l.invariant.0 in
    front ∙ take_all (length p - 1) (deleted (r ∷ []) p) (omega (arith, one_size p r h.3 h.0 h.1))
