-- The memory of a pattern list of any size: true counts and lengths, the first 24 patterns, of each
-- the first 8 digits. Definitions only.
use Rattle.std.specs.Prelude.{ℕ, zero, suc, List, [], ◌∷◌, map, length}
use Rattle.std.specs.declared.option.Option.{Option}
use Rattle.std.specs.declared.option.Option.TheVariants.{Some, None}
use Rattle.std.proofs.Math.Option.{Option as MathOption, none, some}
use Rattle.word.specs.Ceilings.{DIGITS, PATTERNS}
use Rattle.forms.specs.declared.memory.Pattern.{Pattern}
use Rattle.forms.specs.declared.memory.Patterns.{Patterns}

-- the first n elements of a list, and z at the places behind its end
abbrev pub filled : {A : Type 0} → ℕ → A → List A → List A
filled zero z l = []
filled (suc n) z [] = z ∷ filled n z []
filled (suc n) z (x ∷ l) = x ∷ filled n z l

abbrev pub pattern_of : List ℕ → Pattern
pattern_of u = record { digits = filled DIGITS 0 u; length = length u }

unfoldable pub loaded_patterns : List (List ℕ) → Patterns
loaded_patterns P = record { items = filled PATTERNS (pattern_of []) (map pattern_of P); count = length P }

-- what a text spells, in memory
abbrev pub pattern_text : MathOption (List (List ℕ)) → Option Patterns
pattern_text none = None
pattern_text (some P) = Some (loaded_patterns P)
