-- `successor::least::first_of` meets its contract: the first avoider that begins with ε.
-- Assumes nothing.
use mathlib.Core.Path.{sym, ap, ◌∙◌}
use native.Mathlib.Omega.{arith}
use mathlib.Core.List.{[]}
use lib.ListN.{take}
use Rattle.word.specs.Ceilings.{WORD}
use Rattle.word.specs.Word.{is_perm}
use Rattle.forms.specs.SetMemory.{held_in}
use Rattle.successor.specs.Values.{given_in}
use Rattle.successor.specs.StepLaws.{first_least, least_none}
use Rattle.successor.specs.WordLaws.{perm_row, take_row}
use Rattle.successor.proofs.least.first_of.Goals as goal

pub completed-requires : goal.completed-requires
completed-requires c =
    let a = c.args in
    let row = ap (take a.n) c.in_a_row-start.ensures ∙ take_row a.n 1 WORD c.requires in
    (omega arith, c.requires, ap is_perm row ∙ perm_row a.n)

pub returns-in_err-any : goal.returns-in_err-any
returns-in_err-any c =
    let a = c.args in
    let P = held_in a.patterns.now in
    ap (given_in a.n) c.from_residual.ensures ∙
    sym (first_least P a.n ∙ least_none P a.n [] (sym c.in_err-any.ensures.decided))

pub returns : goal.returns
returns c = sym (first_least (held_in c.args.patterns.now) c.args.n ∙ c.least_from.ensures)
