-- `count_plan::reading::gaps_of` meets its contract.
-- Assumes nothing.
use native.Mathlib.Omega.{arith}
use Prim.Native.Nat.{◌+◌, ◌*◌, ◌-◌}
use mathlib.Core.Path.{◌≡◌, ap}
use lib.ListN.{take, drop}
use Rattle.word.specs.Ceilings.{PARTS}
use Rattle.count_plan.specs.SheetSizes.{HEAD, CARD}
use Rattle.count_plan.proofs.reading.gaps_of.Goals as goal

pub returns : goal.returns
returns c =
    let a = c.args in
    let e : CARD * a.e + HEAD + PARTS - (CARD * a.e + HEAD) ≡ PARTS = omega arith in
    ap (λ n. take n (drop (CARD * a.e + HEAD) a.sheet.now)) e
