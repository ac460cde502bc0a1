-- Laws on the tests of a pattern list in memory: when digits are a pattern, and the number of
-- patterns before the tests of the items.
-- Assumes nothing.
use Prim.Native.Nat.{ℕ, ◌≤◌, ◌<◌}
use native.Mathlib.Omega.{arith}
use mathlib.Core.Path.{◌≡◌, refl, sym, ap, ap₂, ◌∙◌}
use Rattle.std.proofs.Common.{◌⊎◌, inl, inr}
use lib.Seq.{take_all}
use Rattle.word.specs.ListLaws.{below_or_not}
use mathlib.Core.Bool.{true, not}
use mathlib.Core.List.{List, []}
use lib.ListN.{length, take}
use lib.Dec.{ltb}
use borrow.Author.Tests.{lt-ltb, le-ltb, eq-eqb, ne_eqb}
use Rattle.word.specs.Ceilings.{DIGITS, PATTERNS}
use Rattle.word.specs.Word.{is_perm}
use Rattle.word.specs.Patterns.{is_pattern}
use Rattle.word.specs.Finding.{first_fault}
use Rattle.word.specs.declared.refusal.Refusal.TheVariants.{Oversize, NoPermutation}
use Rattle.scheme.specs.WellFormed.{first_at, first_twin, listed, pattern_tests}
use Rattle.forms.specs.SchemeMemory.{padded, pattern_in, patterns_in, fault_of, or_else}
use Rattle.scheme.specs.TestOrder.{place_in}
use Rattle.forms.specs.declared.memory.Patterns.{Patterns}
use Rattle.std.specs.Prelude.{Err}
use Rattle.word.specs.Refusal.{refused_at}
use Rattle.cell.specs.Basis.{same}
use Rattle.forms.specs.SetMemory.{held}
use Rattle.forms.specs.HeldLaws.{held_short}
use Rattle.forms.specs.declared.memory.Pattern.{Pattern}
use Rattle.scheme.specs.TestLaws.{length_items, three_faults}
use Rattle.forms.specs.MemoryLaws.{length_padded, padded_within, padded_no_perm, same_padded}

-- whether the first n digits of an array are a pattern
module _ (l : List ℕ) (n : ℕ) where
  pub no_empty : n ≡ 0 → not (is_pattern (padded n l)) ≡ true
  no_empty e = rw (length_padded n l, eq-eqb n 0 e) refl

  pub no_behind : length l < n → not (is_pattern (padded n l)) ≡ true
  no_behind h = rw (length_padded n l, ne_eqb n 0 (omega arith), padded_no_perm n l h) refl

  pub pattern_within : 0 < n → n ≤ length l → is_pattern (padded n l) ≡ is_perm (take n l)
  pattern_within p h = rw (length_padded n l, ne_eqb n 0 (omega arith), padded_within n l h) refl

-- the number of patterns decides, or the tests of the items do
module _ (s : Patterns) where
  pub many_patterns : PATTERNS < s.count → fault_of (first_fault (pattern_tests (patterns_in s))) ≡ Err (refused_at Oversize 0)
  many_patterns h = rw (length_items (place_in s) s.count, lt-ltb PATTERNS s.count h) refl

  pub few_patterns : s.count ≤ PATTERNS →
      fault_of (first_fault (pattern_tests (patterns_in s))) ≡
      or_else (fault_of (first_at Oversize (λ β. ltb DIGITS (length β)) 0 (patterns_in s)))
      (or_else (fault_of (first_at NoPermutation (λ β. not (is_pattern β)) 0 (patterns_in s)))
      (fault_of (first_twin listed 0 [] (patterns_in s))))
  few_patterns h = rw (length_items (place_in s) s.count, le-ltb PATTERNS s.count h)
      (three_faults (first_at Oversize (λ β. ltb DIGITS (length β)) 0 (patterns_in s))
      (first_at NoPermutation (λ β. not (is_pattern β)) 0 (patterns_in s)) (first_twin listed 0 [] (patterns_in s)))

-- Patterns of one length are the same if their digits in memory are.
same_held : (p q : Pattern) → p.length ≤ DIGITS → p.length ≡ q.length → same (held p) (held q) ≡ same (pattern_in p) (pattern_in q)
same_held p q h e = ap₂ same (held_short p h) (held_short q (omega (arith, e)))

same_whole : (p q : Pattern) → length p.digits ≡ DIGITS → length q.digits ≡ DIGITS → DIGITS < p.length → p.length ≡ q.length →
    same (held p) (held q) ≡ same (pattern_in p) (pattern_in q)
same_whole p q f g h e =
    ap₂ same (whole p f h) (whole q g (omega (arith, e))) ∙
    sym (same_padded p.length p.digits q.digits (f ∙ sym g) (omega (arith, f))) ∙
    ap (λ (n : ℕ). same (pattern_in p) (padded n q.digits)) e
  where
    whole : (r : Pattern) → length r.digits ≡ DIGITS → DIGITS < r.length → held r ≡ r.digits
    whole r eight long =
        let all : padded DIGITS r.digits ≡ r.digits =
        padded_within DIGITS r.digits (omega arith) ∙ take_all DIGITS r.digits (omega arith) in
        rw all (take_all r.length r.digits (omega arith))

pub same_length : (p q : Pattern) → length p.digits ≡ DIGITS → length q.digits ≡ DIGITS → p.length ≡ q.length →
    same (held p) (held q) ≡ same (pattern_in p) (pattern_in q)
same_length p q f g e = go (below_or_not DIGITS p.length)
  where
    go : (DIGITS < p.length) ⊎ (p.length ≤ DIGITS) → same (held p) (held q) ≡ same (pattern_in p) (pattern_in q)
    go (inl h) = same_whole p q f g h e
    go (inr n) = same_held p q n e

-- whether the digits in memory are a pattern
pub pattern_held : (p : Pattern) → 0 < p.length → p.length ≤ DIGITS → is_pattern (pattern_in p) ≡ is_perm (held p)
pattern_held p h k = rw (length_padded p.length p.digits, ne_eqb p.length 0 (omega arith), held_short p k) refl
