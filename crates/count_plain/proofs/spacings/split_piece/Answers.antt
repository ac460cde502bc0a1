-- `count_plain::spacings::split_piece` meets its contract.
-- Assumes nothing.
use native.Mathlib.Omega.{arith}
use native.Mathlib.Numerals.{add-one}
use mathlib.Core.Path.{◌≡◌, sym, ◌∙◌}
use lib.ListN.{length}
use Rattle.word.specs.Ceilings.{COMPONENTS}
use Rattle.count_plain.specs.PieceLaws.{split_before, split_low, split_high, split_after}
use borrow.Author.Rules.{rules}
use Rattle.count_plain.proofs.spacings.split_piece.Goals as goal

pub returns-then-j-i : goal.returns-then-j-i
returns-then-j-i c =
    let a = c.args in
    let seven : length a.g ≡ COMPONENTS = (search rules) in
    sym (split_before a.g a.i a.left (omega arith) a.j c.if-j-i.true)

pub returns-then-j-i-2 : goal.returns-then-j-i-2
returns-then-j-i-2 c =
    let a = c.args in
    let seven : length a.g ≡ COMPONENTS = (search rules) in
    sym (split_low a.g a.i a.left (omega arith) a.j c.if-j-i-2.true)

pub returns-then-j-i-3 : goal.returns-then-j-i-3
returns-then-j-i-3 c =
    let a = c.args in
    let seven : length a.g ≡ COMPONENTS = (search rules) in
    sym (split_high a.g a.i a.left (omega arith) a.j (c.if-j-i-3.true ∙ add-one a.i))

pub returns : goal.returns
returns c =
    let a = c.args in
    let seven : length a.g ≡ COMPONENTS = (search rules) in
    sym (split_after a.g a.i a.left (omega arith) a.j (omega arith))
