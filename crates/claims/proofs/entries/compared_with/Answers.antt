-- `claims::entries::compared_with` meets its contract: by the cases of the rule.
-- Assumes nothing.
use native.Mathlib.Omega.{arith}
use mathlib.Core.Path.{◌≡◌}
use lib.ListN.{length}
use Rattle.word.specs.Ceilings.{PARTS}
use Rattle.scheme.specs.EntryMemoryLaws.{entry_short, gaps_in}
use Rattle.claims.proofs.RuleLaws.{expands_compared, deletes_compared}
use borrow.Author.Rules.{rules}
use Rattle.claims.proofs.entries.compared_with.Goals as goal

pub compared_count-requires : goal.compared_count-requires
compared_count-requires c =
    let e = c.args.e in
    let all : length e.gaps ≡ PARTS = (let g = c.well_formed in search rules) in
    (omega (arith, entry_short e c.requires.1), c.requires.0, gaps_in e c.requires.1 all)

pub returns-in-Expand : goal.returns-in-Expand
returns-in-Expand c =
    let a = c.args in
    expands_compared a.m a.e c.in-Expand.is

pub returns-in-Delete : goal.returns-in-Delete
returns-in-Delete c =
    let a = c.args in
    let all : length a.e.gaps ≡ PARTS = (let g = c.well_formed in search rules) in
    deletes_compared a.m a.e _ c.compared_count.result c.requires.0 c.requires.1
    c.in-Delete.is all
    c.compared_count.ensures
