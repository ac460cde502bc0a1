-- Sets of patterns in memory: the pattern at a place is one of the set.
use Rattle.std.specs.Prelude.{ℕ, zero, suc, ◌<◌, refl, length, get_or}
use Rattle.std.proofs.Common.{arith}
use mathlib.Core.List.{List, [], ◌∷◌, Memᴰ}
use Rattle.forms.specs.SetMemory.{held, held_in}
use Rattle.forms.specs.declared.memory.Pattern.{Pattern}

-- the pattern at a place of a set is one of its patterns
pub pattern_member : (s : List Pattern) (i : ℕ) (d : Pattern) → i < length s → Memᴰ (held (get_or s i d)) (held_in s)
pattern_member [] i d h = absurd (omega arith)
pattern_member (x ∷ s) zero d h = Memᴰ.head refl
pattern_member (x ∷ s) (suc i) d h = Memᴰ.tail (pattern_member s i d (omega arith))
