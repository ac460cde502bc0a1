-- Looking for an entry by its length, one index after the other, one length after the other.
-- Assumes nothing.
use Prim.Native.Nat.{ℕ, ◌+◌, ◌≤◌, ◌<◌}
use native.Mathlib.Omega.{arith}
use mathlib.Core.Path.{◌≡◌, sym, ap, ◌∙◌}
use mathlib.Core.Logic.{◌⊎◌, inl, inr}
use Rattle.word.specs.ListLaws.{same_or_not}
use Rattle.forms.specs.declared.memory.Scheme.{Scheme}
use Rattle.count_plan.specs.Layout.{length_at}
use Rattle.count_cursor.specs.Cursor.{FirstFrom, FirstBelow}

-- no entry from `from` on before e has the length k
abbrev pub NoneFrom : Scheme → ℕ → ℕ → ℕ → Type 0
NoneFrom s k from e = (d : ℕ) → from ≤ d → d < e → length_at s d ≡ k → ⊥

pub none_start : (s : Scheme) (k from : ℕ) → NoneFrom s k from from
none_start s k from d low high = absurd (omega arith)

pub none_more : (s : Scheme) (k from e : ℕ) → (length_at s e ≡ k → ⊥) → NoneFrom s k from e → NoneFrom s k from (e + 1)
none_more s k from e ne none d low high q = go (same_or_not d e)
  where
    go : (d ≡ e) ⊎ (d ≡ e → ⊥) → ⊥
    go (inl a) = ne (ap (length_at s) (sym a) ∙ q)
    go (inr a) = none d low (omega arith) q

-- no entry has a length from l on that is below k
abbrev pub NoneBetween : Scheme → ℕ → ℕ → Type 0
NoneBetween s l k = (d : ℕ) → d < s.count → l ≤ length_at s d → length_at s d < k → ⊥

pub between_start : (s : Scheme) (k : ℕ) → NoneBetween s k k
between_start s k d h low high = absurd (omega arith)

module _ (s : Scheme) (k l e : ℕ) (f : FirstFrom s l 0 e) where
  pub between_more : s.count ≤ e → NoneBetween s (l + 1) k → NoneBetween s l k
  between_more end none d h low high = go (same_or_not (length_at s d) l)
    where
      go : (length_at s d ≡ l) ⊎ (length_at s d ≡ l → ⊥) → ⊥
      go (inl q) = f.none d (omega arith) (omega arith) q
      go (inr q) = none d h (omega arith) high

  pub below_here : e < s.count → l < k → NoneBetween s (l + 1) k → FirstBelow s k e
  below_here h low none =
      let q : length_at s e ≡ l = f.here h in
      record {
        high = f.high;
        less = λ g. omega arith;
        first = λ g. rw q f;
        between = λ g d a b c. none d a (omega arith) c;
        none = λ g. absurd (omega arith);
      }

pub below_end : (s : Scheme) (k : ℕ) → NoneBetween s 0 k → FirstBelow s k s.count
below_end s k none =
    record {
      high = omega arith;
      less = λ g. absurd (omega arith);
      first = λ g. absurd (omega arith);
      between = λ g. absurd (omega arith);
      none = λ g d a b. none d a (omega arith) b;
    }
