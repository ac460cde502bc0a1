-- How many figures a length has.
use Rattle.std.specs.Prelude.{ℕ, zero, suc, ◌+◌, ◌-◌, ◌≤◌, ◌≡◌, refl}
use Rattle.std.proofs.Common.{arith}
use Rattle.word.specs.Ceilings.{REFINED, FIGURES}
use Rattle.word.specs.Inversions.{pairs, figure_count}
use Rattle.word.proofs.InversionLaws.{pairs_suc, pairs_mono}

pub count_is_lem : (t : ℕ) → figure_count t ≡ suc (pairs t)
unfolding figure_count
count_is_lem t = refl

pub count_mono : (m n : ℕ) → m ≤ n → figure_count m ≤ figure_count n
count_mono m n h = omega (arith, count_is_lem m, count_is_lem n, pairs_mono m n h)

-- the largest length that is counted by inversions
largest : figure_count REFINED ≡ FIGURES
unfolding figure_count
largest = refl

pub count_most : (n : ℕ) → n ≤ REFINED → figure_count n ≤ FIGURES
count_most n h = omega (arith, count_mono n REFINED h, largest)

-- a value less behind the prefix
pub count_less : (t : ℕ) → 1 ≤ t → figure_count t ≡ (t - 1) + figure_count (t - 1)
count_less zero h = absurd (omega arith)
count_less (suc t) h = let e : suc t - 1 ≡ t = omega arith in rw e (omega (arith, pairs_suc t, count_is_lem (suc t), count_is_lem t))
