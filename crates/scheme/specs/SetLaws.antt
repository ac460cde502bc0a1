-- A set of patterns in memory as containment takes it holds the patterns.
use Rattle.std.specs.Prelude.{ℕ, ◌≤◌, ◌<◌, ◌≡◌, true, length, get_or, take}
use Rattle.std.proofs.Common.{arith}
use mathlib.Core.List.Memᴰ
use mathlib.Core.List.{List, Memᴰ}
use Rattle.word.specs.Ceilings.{DIGITS, PATTERNS}
use Rattle.word.specs.Word.{is_perm}
use Rattle.word.specs.ListLaws.{row_in}
use Rattle.word.specs.Finding.{clean, first_fault}
use Rattle.word.specs.Patterns.{patterns_of}
use Rattle.scheme.specs.WellFormed.{pattern_tests}
use Rattle.forms.specs.SchemeMemory.{no_pattern, pattern_in, patterns_in}
use Rattle.forms.specs.MemoryLaws.{length_padded}
use Rattle.scheme.specs.TestLaws.{length_items}
use Rattle.forms.specs.declared.memory.Patterns.{Patterns}
use Rattle.scheme.specs.ProperLaws.{few_patterns, proper_pattern}
use Rattle.forms.specs.SetMemory.{held_in, HasDigits, HasLengths}
use Rattle.forms.specs.HeldLaws.{set_held, held_set}

module _ (s : Patterns) (formed : first_fault (pattern_tests (patterns_in s)) ≡ clean) where
  pub few : s.count ≤ PATTERNS
  few = omega (arith, few_patterns (patterns_in s) formed, length_items (λ i. pattern_in (get_or s.items i no_pattern)) s.count)

  short : (i : ℕ) → i < s.count → (get_or s.items i no_pattern).length ≤ DIGITS
  short i h =
      let p = get_or s.items i no_pattern in
      let q = proper_pattern (patterns_in s) formed (pattern_in p)
      (Memᴰ.map (λ j. pattern_in (get_or s.items j no_pattern)) (row_in 0 s.count i (omega arith) (omega arith))) in
      omega (arith, q.short, length_padded p.length p.digits)

  -- the slice that memory holds has the patterns
  pub slice_holds : length s.items ≡ PATTERNS → held_in (take s.count s.items) ≡ patterns_in s
  slice_holds h = held_set s (omega (arith, few, h)) short

  module _ (rows : List (List ℕ)) (lengths : List ℕ) (hr : length rows ≡ PATTERNS) (hl : length lengths ≡ PATTERNS)
      (has : HasDigits s.items rows) (sizes : HasLengths s.items lengths) where
    -- the arrays hold the patterns
    pub set_holds : patterns_of rows lengths s.count ≡ patterns_in s
    set_holds = set_held s few short rows lengths hr hl has sizes

    -- each of them is a permutation
    pub set_perms : (β : List ℕ) → Memᴰ β (patterns_of rows lengths s.count) → is_perm β ≡ true
    set_perms β m = (proper_pattern (patterns_in s) formed β (rw set_holds at m)).perm
