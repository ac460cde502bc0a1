-- Filling the binomials, and how large they are.
use Rattle.std.specs.Prelude.{ℕ, zero, suc, ◌+◌, ◌*◌, ◌-◌, ◌≤◌, ◌<◌, ◌≡◌, ◌⊎◌, List, length, get_or, set}
use Rattle.std.proofs.Common.{arith, sym, ap, ap₂, ◌∙◌, inl, inr, length-set, get_or-set_same, get_or-set_other}
use Rattle.word.specs.Ceilings.{LENGTH, COLUMNS}
use Rattle.word.specs.ListLaws.{below_or_not}
use Rattle.cell.specs.Binomial.{binomial}
use Rattle.spacing.specs.Sizes.{BINOMIALS, CHOICES}
use Rattle.spacing.specs.RankLaws.{pascal, binomial_zero, binomial_mono}
use Rattle.spacing.specs.Pascal.{PascalTo}

-- A binomial of a row up to LENGTH is at most 2 ^ LENGTH.

powers : ℕ → ℕ
powers zero = 1
powers (suc n) = powers n + powers n

binomial_power : (n k : ℕ) → binomial n k ≤ powers n
unfolding binomial powers
binomial_power zero zero = omega arith
binomial_power zero (suc k) = omega arith
binomial_power (suc n) zero = omega (arith, binomial_power n 0, binomial_zero n)
binomial_power (suc n) (suc k) = omega (arith, binomial_power n k, binomial_power n (suc k))

pub binomial_small : (n k : ℕ) → n ≤ LENGTH → binomial n k ≤ CHOICES
unfolding powers
binomial_small n k h = omega (arith, binomial_mono n LENGTH k h, binomial_power LENGTH k)

-- one binomial more
pub pascal_more : (n k x : ℕ) (b : List ℕ) → n ≤ LENGTH → k < COLUMNS → x ≡ binomial n k → PascalTo n k b →
    PascalTo n (k + 1) (set b (COLUMNS * n + k) x)
pascal_more n k x b h l e p =
    record {
      size = length-set b (COLUMNS * n + k) x ∙ p.size;
      rows = λ (m i : ℕ) (a : m < n) (c : i < COLUMNS).
          get_or-set_other b (COLUMNS * n + k) (COLUMNS * m + i) x 0
          (λ (q : COLUMNS * m + i ≡ COLUMNS * n + k). omega arith) ∙ p.rows m i a c;
      part = λ (i : ℕ) (a : i < k + 1). go i a (below_or_not i k);
    }
  where
    go : (i : ℕ) → i < k + 1 → (i < k) ⊎ (k ≤ i) → get_or (set b (COLUMNS * n + k) x) (COLUMNS * n + i) 0 ≡ binomial n i
    go i a (inl c) = get_or-set_other b (COLUMNS * n + k) (COLUMNS * n + i) x 0
        (λ (q : COLUMNS * n + i ≡ COLUMNS * n + k). omega arith) ∙ p.part i c
    go i a (inr c) =
        let q : i ≡ k = omega arith in
        ap (λ j. get_or (set b (COLUMNS * n + k) x) (COLUMNS * n + j) 0) q ∙
        get_or-set_same b (COLUMNS * n + k) x 0 (omega (arith, p.size)) ∙ e ∙ ap (binomial n) (sym q)

-- one row more
pub pascal_next : (n k : ℕ) (b : List ℕ) → COLUMNS ≤ k → PascalTo n k b → PascalTo (n + 1) 0 b
pascal_next n k b h p =
    record {
      size = p.size;
      rows = λ (m i : ℕ) (a : m < n + 1) (c : i < COLUMNS). go m i a c (below_or_not m n);
      part = λ (i : ℕ) (a : i < 0). absurd (omega arith);
    }
  where
    go : (m i : ℕ) → m < n + 1 → i < COLUMNS → (m < n) ⊎ (n ≤ m) → get_or b (COLUMNS * m + i) 0 ≡ binomial m i
    go m i a c (inl d) = p.rows m i d c
    go m i a c (inr d) =
        let q : m ≡ n = omega arith in
        ap (λ j. get_or b (COLUMNS * j + i) 0) q ∙ p.part i (omega arith) ∙ ap (λ j. binomial j i) (sym q)

pub pascal_none : (b : List ℕ) → length b ≡ BINOMIALS → PascalTo 0 0 b
pascal_none b e =
    record {
      size = e;
      rows = λ (m i : ℕ) (a : m < 0) (c : i < COLUMNS). absurd (omega arith);
      part = λ (i : ℕ) (a : i < 0). absurd (omega arith);
    }

-- Pascal's rule at row n and column k
pub pascal_sum : (n k : ℕ) → 1 ≤ n → 1 ≤ k → binomial n k ≡ binomial (n - 1) (k - 1) + binomial (n - 1) k
pascal_sum n k h l =
    let e : n ≡ suc (n - 1) = omega arith in
    let f : k ≡ suc (k - 1) = omega arith in
    ap₂ binomial e f ∙ pascal (n - 1) (k - 1) ∙ ap (λ i. binomial (n - 1) (k - 1) + binomial (n - 1) i) (sym f)
