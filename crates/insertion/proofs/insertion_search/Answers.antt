-- `insertion::insertion_search` meets its contract: at the start no value is put in.
-- Assumes nothing.
use mathlib.Core.Path.{◌≡◌}
use borrow.Author.Rules.{rules}
use native.Mathlib.Omega.{arith}
use lib.ListN.{length}
use Rattle.std.specs.Prelude.{is_none}
use Rattle.forms.specs.SetMemory.{held_in}
use Rattle.insertion.specs.InsertionLaws.{puts_searches}
use Rattle.insertion.proofs.insertion_search.Goals as goal

pub returns : goal.returns
returns c =
    let a = c.args in
    let long : length a.word ≡ 20 = search rules in
    let answer = c.put_in.ensures in (
      puts_searches (held_in a.patterns.now) a.span.n a.span.fixed a.word (is_none a.span.budget)
          c.put_in.result (omega arith) answer,
      answer.ends,
    )
