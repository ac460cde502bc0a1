-- `completion::put` meets its contract.
-- Assumes nothing.
use native.Mathlib.Numerals.{add-one}
use Prim.Native.Nat.{◌<◌}
use lib.ListN.{length}
use lib.Seq.{take-suc-set}
use borrow.Author.Rules.{rules}
use Rattle.completion.proofs.put.Goals as goal

pub returns : goal.returns
returns c =
    let a = c.args in
    let room : a.len < length a.word = search rules in
    rw (add-one a.len) (take-suc-set a.word a.len a.v room)
