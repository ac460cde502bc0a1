-- `successor::least::lowered` meets its contract: the least smaller value, or the entry itself.
-- Assumes nothing.
use mathlib.Core.Path.{◌≡◌}
use native.Mathlib.Omega.{arith}
use lib.ListN.{length}
use borrow.Author.Rules.{rules}
use Rattle.word.specs.Ceilings.{WORD}
use Rattle.forms.specs.SetMemory.{held_in}
use Rattle.successor.specs.FrontLaws.{entry_within, lowers_either}
use Rattle.successor.proofs.least.lowered.Goals as goal

pub least_value-requires : goal.least_value-requires
least_value-requires c =
    let a = c.args in
    let long : length a.word ≡ WORD = search rules in
    let (low, high) = entry_within a.n a.i a.word c.requires.0 (omega (arith, long, c.requires.1)) c.requires.2.perm in
    (c.requires.0, c.requires.1, omega arith, omega (arith, high, c.from-high.ensures), c.requires.2.perm)

pub returns : goal.returns
returns c =
    let a = c.args in
    let long : length a.word ≡ WORD = search rules in
    rw c.unwrap_or.ensures
    (lowers_either (held_in a.patterns.now) a.n a.i a.word c.requires.0 (omega (arith, long, c.requires.1))
    c.from-high.result c.least_value.result c.from-high.ensures c.requires.2 c.least_value.ensures)
