-- `claims::gaps::is_empty_below` meets its contract: the two tests in turn.
-- Assumes nothing.
use Prim.Native.Nat.{◌+◌}
use mathlib.Core.Path.{sym, ◌∙◌}
use native.Mathlib.Omega.{arith}
use lib.ListN.{take}
use Rattle.claims.proofs.GapClaimLaws.{shows_not, shows_if_empty}
use Rattle.forms.specs.SetMemory.{held_in}
use Rattle.claims.proofs.gaps.is_empty_below.Goals as goal

pub at_least-requires : goal.at_least-requires
at_least-requires c = omega (arith, c.requires.0)

pub returns-then-not-at_least : goal.returns-then-not-at_least
returns-then-not-at_least c =
    let a = c.args in
    sym (shows_not (held_in a.patterns.now) (take a.at.length a.at.prefix)
    (take (a.at.length + 1) a.at.parts) (take (a.at.length + 1) a.g)
    (sym c.at_least.ensures ∙ c.if-not-at_least.true))

pub is_live_at-requires : goal.is_live_at-requires
is_live_at-requires c = c.requires

pub returns : goal.returns
returns c =
    let a = c.args in
    let above = sym c.at_least.ensures ∙ c.if-not-at_least.false in
    shows_if_empty (held_in a.patterns.now) (take a.at.length a.at.prefix)
    (take (a.at.length + 1) a.at.parts) (take (a.at.length + 1) a.g)
    c.is_live_at.result above c.is_live_at.ensures
