-- `crowding::monotone_length` meets its contract.
-- Assumes nothing.
use mathlib.Core.Path.{◌≡◌, sym, ap, ◌∙◌}
use native.Mathlib.Omega.{arith}
use lib.ListN.{length}
use Rattle.forms.specs.SetMemory.{held}
use Rattle.forms.specs.HeldLaws.{held_few}
use Rattle.crowding.specs.Crowding.{monotone}
use Rattle.crowding.proofs.PatternLaws.{length_monotone, length_other}
use Rattle.crowding.proofs.monotone_length.Goals as goal

pub returns-then-is_monotone : goal.returns-then-is_monotone
returns-then-is_monotone c =
    let β = held c.args.p.now in
    let e = c.as_slice-digits.ensures in
    let size : length c.as_slice-digits.result.now ≡ length β = ap length e in (
      length_monotone c.args.up β (length c.as_slice-digits.result.now) (sym size)
          (ap (monotone c.args.up) (sym e) ∙ sym c.is_monotone.ensures ∙ c.if-is_monotone.true),
      omega (arith, size, held_few c.args.p.now),
    )

pub returns-else-is_monotone : goal.returns-else-is_monotone
returns-else-is_monotone c = (
  length_other c.args.up (held c.args.p.now)
      (ap (monotone c.args.up) (sym c.as_slice-digits.ensures) ∙ sym c.is_monotone.ensures ∙ c.if-is_monotone.false),
  omega arith,
)
