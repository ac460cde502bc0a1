-- `count_plan::sheet::put_gaps` meets its contract: the entry's array is written as it is.
-- Assumes nothing.
use mathlib.Core.Path.{◌≡◌}
use native.Mathlib.Omega.{arith}
use borrow.Author.Rules.{rules}
use lib.ListN.{length}
use Rattle.word.specs.Ceilings.{PARTS}
use Rattle.count_plan.proofs.sheet.put_gaps.Goals as goal

pub put-requires : goal.put-requires
put-requires c =
    let all : length c.args.e.gaps ≡ PARTS = (let g = c.well_formed in search rules) in
    (omega (arith, c.requires), c.requires.1)
