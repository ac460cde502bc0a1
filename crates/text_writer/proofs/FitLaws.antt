-- What a pattern list that passes its tests fits: the writer's bounds in memory, digits that can be
-- written, a text within its ceiling.
-- Assumes nothing.
use Prim.Native.Nat.{ℕ, ◌+◌, ◌≤◌, ◌<◌}
use native.Mathlib.Omega.{arith}
use mathlib.Core.Path.{◌≡◌}
use mathlib.Core.Logic.{◌⊎◌, inl, inr}
use mathlib.Core.Bool.{true}
use mathlib.Core.List.{List, [], ◌∷◌, Memᴰ}
use lib.ListN.{length, get_or, get_or-eq_default}
use lib.Dec.{leb}
use borrow.Author.Tests.{le-leb}
use Rattle.word.specs.Ceilings.{DIGITS, PATTERN_TEXT}
use Rattle.word.specs.Lists.{all}
use Rattle.word.specs.ListLaws.{all_in, get_or_mem, row_in, below_or_not}
use Rattle.word.specs.Word.{is_perm}
use Rattle.word.specs.PermLaws.{perm_bounds}
use Rattle.word.specs.Finding.{clean, first_fault}
use Rattle.scheme.specs.WellFormed.{pattern_tests}
use Rattle.scheme.specs.ProperLaws.{few_patterns, proper_pattern}
use Rattle.forms.specs.SchemeMemory.{padded, no_pattern, pattern_in, patterns_in}
use Rattle.forms.specs.MemoryLaws.{length_padded, get_or_padded}
use Rattle.scheme.specs.TestLaws.{length_items}
use Rattle.scheme.specs.TestOrder.{place_in}
use Rattle.forms.specs.declared.memory.Patterns.{Patterns}
use Rattle.text_grammar.specs.Spelling.{perm_piece, digit_run, written_patterns}
use Rattle.text_writer.specs.Writable.{PatternsFit}
use Rattle.text_writer.specs.WrittenLaws.{text_one}
use Rattle.text_writer.specs.RoomLaws.{bound_braced, bound_perm}

-- the digits of a permutation of at most 9 entries

pub perm_digits : (u : List ℕ) → is_perm u ≡ true → length u ≤ 9 → digit_run u ≡ true
perm_digits u p h = all_in (λ (d : ℕ). leb d 9) u (λ (d : ℕ) (m : Memᴰ d u). let (low, high) = perm_bounds u p
    m in le-leb d 9 (omega arith))

-- the same in memory
pub perm_places : (n : ℕ) (l : List ℕ) → is_perm (padded n l) ≡ true → n ≤ 9 → (k : ℕ) → k < n → get_or l k 0 ≤ 9
perm_places n l p h k i = go (below_or_not k (length l))
  where
    go : (k < length l) ⊎ (length l ≤ k) → get_or l k 0 ≤ 9
    go (inl q) =
        let m = get_or_mem (padded n l) k 0 (omega (arith, length_padded n l)) in
        let (low, high) = perm_bounds (padded n l) p m in
        omega (arith, get_or_padded n l k i q, length_padded n l)
    go (inr q) = omega (arith, get_or-eq_default l 0 {n = k} q)

-- patterns in memory that pass their tests fit what the writer requires
pub patterns_fit : (s : Patterns) → first_fault (pattern_tests (patterns_in s)) ≡ clean → PatternsFit s
patterns_fit s e =
    let few = few_patterns (patterns_in s) e in
    record {
      few = omega (arith, few, length_items (place_in s) s.count);
      fit = λ (i : ℕ) (k : i < s.count).
          let p = get_or s.items i no_pattern in
          let m : Memᴰ (pattern_in p) (patterns_in s) =
          mathlib.Core.List.Memᴰ.map (place_in s) (row_in 0 s.count i (omega arith) (omega arith)) in
          let small = proper_pattern (patterns_in s) e (pattern_in p) m in
          let size : p.length ≤ DIGITS = (let a = small.short in omega (arith, a, length_padded p.length p.digits)) in
          record { short = size; small = perm_places p.length p.digits small.perm (omega arith) };
    }

-- their digits can be written
pub patterns_writable : (P : List (List ℕ)) → first_fault (pattern_tests P) ≡ clean → all digit_run P ≡ true
patterns_writable P e =
    all_in digit_run P
    (λ (β : List ℕ) (m : Memᴰ β P). let h = proper_pattern P e β m in let short = h.short in perm_digits β h.perm (omega arith))

-- patterns of fewer bytes than this, a comma for each, and two braces, or three bytes for no
-- pattern
abbrev WIDEST : ℕ
WIDEST = DIGITS + 3

pub patterns_short : (P : List (List ℕ)) → first_fault (pattern_tests P) ≡ clean → length (written_patterns P) ≤ PATTERN_TEXT
patterns_short P e =
    let few = few_patterns P e in
    let whole = bound_braced (λ (p : List ℕ). perm_piece p ∷ []) WIDEST P
    (λ (β : List ℕ) (m : Memᴰ β P).
    let short = (proper_pattern P e β m).short in
    rw (text_one (perm_piece β)) (omega (arith, bound_perm β))) in
    omega arith
