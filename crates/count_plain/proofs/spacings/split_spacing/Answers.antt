-- `count_plain::spacings::split_spacing` meets its contract.
-- Assumes nothing.
use borrow.Author.Rules.{rules}
use native.Mathlib.Omega.{arith}
use Prim.Native.Nat.{◌+◌}
use mathlib.Core.Path.{◌≡◌, ap, ◌∙◌}
use lib.ListN.{length, take, length-set}
use lib.Seq.{length-take-le, get_or-take, take_all}
use Rattle.word.specs.Ceilings.{COMPONENTS}
use Rattle.count_plain.specs.Pieces.{split_at}
use Rattle.count_plain.specs.PieceLaws.{split_length, more, split_take}
use Rattle.spacing.proofs.RankWalkLaws.{part_small}
use Rattle.count_plain.proofs.spacings.split_spacing.Goals as goal

pub split_piece-x-requires : goal.split_piece-x-requires
split_piece-x-requires c =
    let a = c.args in
    let l = c.loop-j in
    let q = get_or-take (a.k + 1) a.g a.i 0 (omega arith) in (
      omega arith,
      omega arith,
      c.requires.2,
      omega (arith, c.requires.3),
      omega (arith, part_small (take (a.k + 1) a.g) a.i, c.requires.4),
    )

pub loop-j-preserved : goal.loop-j-preserved
loop-j-preserved c =
    let a = c.args in
    let l = c.loop-j in
    let seven : length a.g ≡ COMPONENTS = (search rules) in
    let size = length-take-le (a.k + 1) a.g (omega arith) in (
      length-set l.r l.j c.split_piece-x.result ∙ l.invariant.0,
      more l.r (split_at (take (a.k + 1) a.g) a.i a.left) l.j c.split_piece-x.result (omega (arith, l.invariant.0))
          (omega (arith, split_length (take (a.k + 1) a.g) a.i a.left (omega arith)))
          (c.split_piece-x.ensures ∙ split_take a.g a.k (omega arith) a.i a.left l.j c.requires.1
          (omega arith)) l.invariant.1,
    )

pub returns : goal.returns
returns c =
    let a = c.args in
    let l = c.loop-j in
    let seven : length a.g ≡ COMPONENTS = (search rules) in
    let size = length-take-le (a.k + 1) a.g (omega arith) in
    let e : a.k + 2 ≡ l.j = omega arith in
    let len = split_length (take (a.k + 1) a.g) a.i a.left (omega arith) in
    ap (λ n. take n l.r) e ∙ l.invariant.1 ∙ take_all l.j (split_at (take (a.k + 1) a.g) a.i a.left) (omega arith)
