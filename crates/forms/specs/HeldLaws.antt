-- Slices and arrays as containment takes them hold the patterns of a set in memory.
use Rattle.std.specs.Prelude.{ℕ, zero, suc, ◌≤◌, ◌<◌, ◌≡◌, refl, ◌++◌, length, get_or, take, replicate}
use Rattle.std.proofs.Common.{arith, sym, ap, ap₂, ◌∙◌, take-take, take_all, length-take}
use mathlib.Core.List.{List, [], ◌∷◌, map, map-map, Memᴰ}
use Rattle.word.specs.Ceilings.{PREFIX, DIGITS, PATTERNS}
use Rattle.word.specs.Lists.{row}
use Rattle.word.specs.ListLaws.{map_same, row_out}
use Rattle.word.specs.Patterns.{patterns_of}
use Rattle.forms.specs.SetMemory.{held, held_in, pattern_at, HasDigits, HasLengths}
use Rattle.forms.specs.SchemeMemory.{six_of, padded, no_pattern, pattern_in, patterns_in}
use Rattle.forms.specs.MemoryLaws.{padded_within, length_padded, take_row}
use Rattle.forms.specs.declared.memory.Pattern.{Pattern}
use Rattle.forms.specs.declared.memory.Patterns.{Patterns}
use Rattle.forms.specs.declared.memory.Positions.{Positions}

-- the patterns of a set, place by place
patterns_row : (rows : List (List ℕ)) (lengths : List ℕ) (n : ℕ) → n ≤ length rows → n ≤ length lengths →
    patterns_of rows lengths n ≡ map (pattern_at rows lengths) (row 0 n)
patterns_row rows lengths zero h k = refl
patterns_row [] lengths (suc n) h k = absurd (omega arith)
patterns_row (r ∷ rows) [] (suc n) h k = absurd (omega arith)
patterns_row (r ∷ rows) (x ∷ lengths) (suc n) h k =
    ap (λ u. take x r ∷ u) (patterns_row rows lengths n (omega arith) (omega arith) ∙ later 0 n)
  where
    later : (a n : ℕ) → map (pattern_at rows lengths) (row a n) ≡ map (pattern_at (r ∷ rows) (x ∷ lengths)) (row (suc a) n)
    later a zero = refl
    later a (suc n) = ap (λ u. pattern_at rows lengths a ∷ u) (later (suc a) n)

-- arrays that have the digits and the lengths of a set within the ceilings hold its patterns
module _ (s : Patterns) (few : s.count ≤ PATTERNS) (short : (i : ℕ) → i < s.count → (get_or s.items i no_pattern).length ≤ DIGITS)
    (rows : List (List ℕ)) (lengths : List ℕ) (hr : length rows ≡ PATTERNS) (hl : length lengths ≡ PATTERNS)
    (has : HasDigits s.items rows) (sizes : HasLengths s.items lengths) where
  pub set_held : patterns_of rows lengths s.count ≡ patterns_in s
  set_held =
      patterns_row rows lengths s.count (omega (arith, few, hr)) (omega (arith, few, hl)) ∙
      map_same (pattern_at rows lengths) (λ i. pattern_in (get_or s.items i no_pattern)) (row 0 s.count)
      (λ (i : ℕ) (m : Memᴰ i (row 0 s.count)). at i (omega (arith, row_out 0 s.count m)))
    where
      at : (i : ℕ) → i < s.count → pattern_at rows lengths i ≡ pattern_in (get_or s.items i no_pattern)
      at i h =
          let p = get_or s.items i no_pattern in
          let (same, eight) = has i (omega (arith, few)) in
          let low = short i h in
          let size : get_or lengths i 0 ≡ p.length = sizes i (omega (arith, few)) ∙ omega arith in
          let d : length p.digits ≡ DIGITS = sym (ap length same) ∙ eight in
          ap₂ take size same ∙ sym (padded_within p.length p.digits (omega (arith, d)))

-- zeros behind a list do not show in its front
front : (n : ℕ) (l : List ℕ) (a b : ℕ) → n ≤ a → n ≤ b → take n (l ++ replicate a 0) ≡ take n (l ++ replicate b 0)
front zero l a b h k = refl
front (suc n) [] (suc a) (suc b) h k = ap (λ (u : List ℕ). 0 ∷ u) (front n [] a b (omega arith) (omega arith))
front (suc n) [] zero b h k = absurd (omega arith)
front (suc n) [] (suc a) zero h k = absurd (omega arith)
front (suc n) (x ∷ l) a b h k = ap (λ (u : List ℕ). x ∷ u) (front n l a b (omega arith) (omega arith))

pub padded_front : (n m : ℕ) (l : List ℕ) → n ≤ m → take n (padded m l) ≡ padded n l
padded_front n m l h = take-take n m (l ++ replicate m 0) h ∙ front n l m n h (omega arith)

-- no more digits are held than the array has
pub held_few : (p : Pattern) → length (held p) ≤ DIGITS
held_few p =
    omega (
      arith,
      length-take p.length (padded DIGITS p.digits),
      length_padded DIGITS p.digits,
    )

-- a pattern within the ceiling is held whole
pub held_short : (p : Pattern) → p.length ≤ DIGITS → held p ≡ pattern_in p
held_short p h = padded_front p.length DIGITS p.digits h

-- the slice of a set within the ceilings holds its patterns
pub held_set : (s : Patterns) → s.count ≤ length s.items → ((i : ℕ) → i < s.count → (get_or s.items i no_pattern).length ≤ DIGITS) →
    held_in (take s.count s.items) ≡ patterns_in s
held_set s few short =
    ap held_in (take_row s.items no_pattern s.count few) ∙ map-map held (λ i. get_or s.items i no_pattern) (row 0 s.count) ∙
    map_same (λ i. held (get_or s.items i no_pattern)) (λ i. pattern_in (get_or s.items i no_pattern)) (row 0 s.count)
    (λ (i : ℕ) (m : Memᴰ i (row 0 s.count)). held_short (get_or s.items i no_pattern) (short i (omega (arith, row_out 0 s.count m))))

-- the array of positions is that of those that have a place
pub six_whole : (d : Positions) → length d.positions ≡ PREFIX → d.positions ≡ six_of d
six_whole d h = sym (padded_within PREFIX d.positions (omega (arith, h)) ∙ take_all PREFIX d.positions (omega (arith, h)))
