-- Laws of the needed levels of a set, stored one byte after the other: one byte more, and all.
-- Assumes nothing.
use Prim.Native.Nat.{ℕ, ◌+◌, ◌*◌, ◌/◌, ◌%◌, ◌≤◌, ◌<◌}
use native.Mathlib.Omega.{arith}
use mathlib.Core.Path.{◌≡◌, ◌∙◌}
use mathlib.Core.Logic.{◌⊎◌, inl, inr}
use mathlib.Core.List.{List, []}
use lib.ListN.{length, get_or, drop, set}
use lib.Seq.{get_or-take, get_or-drop, get_or-set_same, get_or-set_other}
use Rattle.word.specs.Ceilings.{DIGITS}
use Rattle.word.specs.Word.{under}
use Rattle.word.specs.ListLaws.{same_or_not}
use Rattle.cell.specs.Candidate.{head_length}
use Rattle.placing.specs.Lookup.{VALUES, NEEDS}
use Rattle.candidate.specs.Ready.{Needs, AllNeeds}

-- y is the level that x needs as a head entry of the pattern, where its last t entries are the rest
abbrev pub NeedIs : List ℕ → ℕ → ℕ → ℕ → Type 0
NeedIs β t x y = t ≤ length β → y ≡ under (drop (head_length β t) β) x

module _ (P : List (List ℕ)) where
  -- the byte at place a
  abbrev pub ByteIs : ℕ → ℕ → Type 0
  ByteIs a y = NeedIs (get_or P (a / 72) []) (a / 9 % 8) (a % 9) y

  -- the bytes before place n are those needed
  abbrev pub Filled : ℕ → List ℕ → Type 0
  Filled n needs = (a : ℕ) → a < n → ByteIs a (get_or needs a 0)

  pub filled_more : (n y : ℕ) (needs : List ℕ) → n < length needs → ByteIs n y → Filled n needs → Filled (n + 1) (set needs n y)
  filled_more n y needs room new F a h = go (same_or_not a n)
    where
      go : (a ≡ n) ⊎ (a ≡ n → ⊥) → ByteIs a (get_or (set needs n y) a 0)
      go (inl e) = rw (e, get_or-set_same needs n y 0 room) new
      go (inr e) = rw (get_or-set_other needs n a y 0 e) (F a (omega arith))

  pub all_filled : (n : ℕ) (needs : List ℕ) → length needs ≡ NEEDS → length P * 72 ≤ n → Filled n needs →
      AllNeeds P needs
  all_filled n needs size enough F = record { sized = size; said = λ t low i h long v b. said t low i h long v b }
    where
      said : (t : ℕ) → t < DIGITS → Needs P t needs
      said t low i h long v b =
          let a = (i * DIGITS + t) * VALUES + v in
          let inside : a < n = omega arith in
          let pattern : a / 72 ≡ i = omega arith in
          let whole : a / 9 % 8 ≡ t = omega arith in
          let value : a % 9 ≡ v = omega arith in
          let here : NeedIs (get_or P i []) t v (get_or needs a 0) = rw (pattern, whole, value) at (F a inside) in
          get_or-take VALUES (drop ((i * DIGITS + t) * VALUES) needs) v 0 b ∙ get_or-drop ((i * DIGITS + t) * VALUES) needs v 0 ∙ here long
