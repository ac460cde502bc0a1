-- `forms::gaps::with_gap` meets its contract: the components stand from their place on.
-- Assumes nothing.
use Prim.Native.Nat.{◌*◌, ◌+◌, ◌-◌}
use mathlib.Core.Path.{◌≡◌}
use native.Mathlib.Omega.{arith}
use lib.ListN.{length}
use borrow.Author.Rules.{rules}
use Rattle.word.specs.Ceilings.{COMPONENTS, PARTS}
use Rattle.forms.specs.StoredLaws.{sets_part}
use Rattle.forms.proofs.gaps.with_gap.Goals as goal

pub returns : goal.returns
returns c =
    let a = c.args in
    let at = COMPONENTS * a.j in
    let whole : length a.gaps ≡ PARTS = search rules in
    let seven : length a.parts ≡ COMPONENTS = search rules in
    let stored : c.copy_from_slice.new.self ≡ a.parts = search rules in
    rw stored (sets_part a.gaps at (at + COMPONENTS - at) a.parts (omega arith) (omega arith))
