-- The slice of the set that the basis is holds the basis.
use Rattle.std.specs.Prelude.{◌≡◌, List, ℕ, length, take}
use Rattle.std.proofs.Common.{◌∙◌, arith}
use Rattle.word.specs.Ceilings.{PATTERNS}
use Rattle.cell.specs.Basis.{basis}
use Rattle.forms.specs.SetMemory.{held_in}
use Rattle.forms.specs.HeldLaws.{held_set}
use Rattle.forms.specs.declared.memory.Patterns.{Patterns}
use Rattle.basis.specs.BasisSet.{IsBasis}

pub basis_held : (P : List (List ℕ)) (b : Patterns) → IsBasis P b → length b.items ≡ PATTERNS → held_in (take b.count b.items) ≡ basis P
basis_held P b is room = held_set b (omega (arith, is.few, room)) is.short ∙ is.holds
