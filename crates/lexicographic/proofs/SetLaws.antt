-- Laws of the set in memory that holds the basis: its avoiders are those of the patterns.
use Rattle.std.specs.Prelude.{ℕ, ◌≡◌, true, length, take}
use Rattle.std.proofs.Common.{sym, ap, ◌∙◌}
use mathlib.Core.List.{List, Memᴰ}
use Rattle.word.specs.Ceilings.{PATTERNS}
use Rattle.word.specs.Word.{is_perm, avoids}
use Rattle.word.specs.Listing.{first_avoider, next_avoider}
use Rattle.word.specs.Finding.{clean, first_fault}
use Rattle.cell.specs.Basis.{basis}
use Rattle.cell.proofs.BasisLaws.{basis_avoids}
use Rattle.forms.specs.SetMemory.{held_in}
use Rattle.forms.specs.declared.memory.Patterns.{Patterns}
use Rattle.scheme.specs.WellFormed.{pattern_tests}
use Rattle.scheme.specs.ProperLaws.{proper_pattern}
use Rattle.basis.specs.BasisSet.{IsBasis}
use Rattle.basis.specs.BasisSetLaws.{basis_held}
use Rattle.lexicographic.proofs.AnswerLaws.{basis_first, basis_next}

module _ (P : List (List ℕ)) (formed : first_fault (pattern_tests P) ≡ clean) (s : Patterns) (b : IsBasis P s)
    (room : length s.items ≡ PATTERNS) where
  held : held_in (take s.count s.items) ≡ basis P
  held = basis_held P s b room

  each_perm : (β : List ℕ) → Memᴰ β P → is_perm β ≡ true
  each_perm β m = (proper_pattern P formed β m).perm

  pub held_avoids : (w : List ℕ) → avoids (held_in (take s.count s.items)) w ≡ avoids P w
  held_avoids w = ap (λ (Q : List (List ℕ)). avoids Q w) held ∙ sym (basis_avoids P each_perm w)

  pub held_first : (n : ℕ) → first_avoider (held_in (take s.count s.items)) n ≡ first_avoider P n
  held_first n = ap (λ (Q : List (List ℕ)). first_avoider Q n) held ∙ basis_first P each_perm n

  pub held_next : (w : List ℕ) → next_avoider (held_in (take s.count s.items)) w ≡ next_avoider P w
  held_next w = ap (λ (Q : List (List ℕ)). next_avoider Q w) held ∙ basis_next P each_perm w
