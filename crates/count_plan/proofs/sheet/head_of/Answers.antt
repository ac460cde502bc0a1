-- `count_plan::sheet::head_of` meets its contract.
-- Assumes nothing.
use mathlib.Core.Path.{refl, ap₂}
use mathlib.Core.List.{◌∷◌}
use Rattle.count_plan.proofs.sheet.head_of.Goals as goal

pub returns : goal.returns
returns c =
    (ap₂ ◌∷◌ c.low.ensures
    (ap₂ ◌∷◌ c.low-2.ensures
    (ap₂ ◌∷◌ c.low-3.ensures
    (ap₂ ◌∷◌ c.low-4.ensures
    (ap₂ ◌∷◌ refl
    (ap₂ ◌∷◌ refl
    (ap₂ ◌∷◌ refl
    (ap₂ ◌∷◌ refl
    (ap₂ ◌∷◌ refl
    (ap₂ ◌∷◌ refl
    (ap₂ ◌∷◌ refl
    (ap₂ ◌∷◌ refl
    (ap₂ ◌∷◌ refl
    (ap₂ ◌∷◌ refl
    (ap₂ ◌∷◌ refl
    (ap₂ ◌∷◌ refl
    (ap₂ ◌∷◌ c.low-5.ensures
    (ap₂ ◌∷◌ c.low-6.ensures
    (ap₂ ◌∷◌ c.low-7.ensures
    (ap₂ ◌∷◌ c.low-8.ensures
    (ap₂ ◌∷◌ c.low-9.ensures
    (ap₂ ◌∷◌ c.low-10.ensures
    (ap₂ ◌∷◌ c.low-11.ensures
    (ap₂ ◌∷◌ c.low-12.ensures
    refl))))))))))))))))))))))))
