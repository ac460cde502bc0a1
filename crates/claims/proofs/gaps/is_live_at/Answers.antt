-- `claims::gaps::is_live_at` meets its contract: the first entries are those of the cell, and
-- completing them decides.
-- Assumes nothing.
use mathlib.Core.Path.{◌≡◌, ◌∙◌}
use native.Mathlib.Omega.{arith}
use Prim.Native.Nat.{◌+◌}
use lib.ListN.{length, take}
use lib.Seq.{length-take-le}
use Rattle.cell.specs.Built.{level}
use Rattle.placing.specs.Lookup.{Says}
use Rattle.word.specs.Ceilings.{WORD, PREFIX, COMPONENTS}
use Rattle.claims.proofs.GapClaimLaws.{cell_length, live_is}
use borrow.Author.Rules.{rules}
use Rattle.forms.specs.SetMemory.{held_in}
use Rattle.claims.proofs.gaps.is_live_at.Goals as goal
use Rattle.claims.proofs.gaps.is_live_at.Goals.{Start, After-levels_of-levels}

-- the number of components of the spacing, and what the table says of its levels
size : (start : Start) → length (take (start.args.k + 1) start.args.parts) ≡ start.args.k + 1
size start =
    let seven : length start.args.parts ≡ COMPONENTS = (let o = start.well_formed in search rules) in
    length-take-le (start.args.k + 1) start.args.parts (omega (arith, seven, start.requires.0))

said : (c : After-levels_of-levels) → Says c.levels_of-levels.result (c.args.k + 1) (level (take (c.args.k + 1) c.args.parts))
said c v h = c.levels_of-levels.ensures v (omega (arith, size (goal.at.After-levels_of-levels c).Start))

pub levels_of-levels-requires : goal.levels_of-levels-requires
levels_of-levels-requires c = (omega (arith, size (goal.at.levels_of-levels-requires c).Start, c.requires.0), c.requires.2)

pub overflow_add-n : goal.overflow_add-n
overflow_add-n c =
    let q = c.requires in
    let w = c.from.ensures in
    search rules

pub overflow_add-n-2 : goal.overflow_add-n-2
overflow_add-n-2 c =
    let q = c.requires in
    let w = c.from-2.ensures in
    let v = c.from.ensures in
    search rules

pub completable-requires : goal.completable-requires
completable-requires c =
    let seven-components : length c.args.parts ≡ COMPONENTS =
    (let o = c.well_formed in search rules) in
    let a = c.args in
    let q = c.requires in
    let v = c.levels_of-levels in
    let seven = seven-components in
    let whole = cell_length a.k a.parts seven q.0 q.2 v.result (said (goal.at.completable-requires c).After-levels_of-levels) in
    (omega (arith, q.0), omega (arith, q.0, q.2, whole, c.from-2.ensures, c.from.ensures))

pub returns : goal.returns
returns c =
    let six-digits : length c.args.prefix ≡ PREFIX =
    (let o = c.well_formed in search rules) in
    let seven-components : length c.args.parts ≡ COMPONENTS =
    (let o = c.well_formed in search rules) in
    let all-entries : length c.kept-w.result.entries ≡ WORD =
    (let k = c.kept-w.type_inv in search rules) in
    let a = c.args in
    let q = c.requires in
    let v = c.levels_of-levels in
    let w = c.kept-w in
    let six = six-digits in
    let seven = seven-components in
    let twenty = all-entries in
    c.completable.ensures ∙
    live_is a.k a.parts seven q.0 q.2 v.result (said (goal.at.returns c).After-levels_of-levels)
    (held_in a.patterns.now) a.prefix w.result.entries _ w.result.length six q.1 twenty
    w.ensures.0 w.ensures.1 (omega (arith, c.from-2.ensures, c.from.ensures))
