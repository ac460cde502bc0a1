-- `scheme::links::entry_code` meets its contract.
-- Assumes nothing.
use Prim.Native.Nat.{◌≤◌}
use mathlib.Core.Path.{◌≡◌}
use borrow.Author.Rules.{rules}
use native.Mathlib.Omega.{arith}
use lib.ListN.{length}
use Rattle.word.specs.Ceilings.{PREFIX}
use Rattle.forms.specs.MemoryLaws.{padded_within}
use Rattle.scheme.proofs.links.entry_code.Goals as goal

pub returns : goal.returns
returns c =
    let e = c.args.e in
    let six : length e.prefix ≡ PREFIX = search rules in
    let short : e.length ≤ PREFIX = search rules in
    rw (padded_within e.length e.prefix (omega arith)) c.code_of.ensures
