-- The cases of a step, and the cells of one entry filled one after the other.
-- Assumes nothing.
use Prim.Native.Nat.{ℕ, suc, ◌+◌, ◌-◌, ◌≤◌, ◌<◌}
use native.Mathlib.Numerals.{add-one}
use native.Mathlib.Omega.{arith}
use mathlib.Core.Path.{◌≡◌, refl, sym, ap, ◌∙◌}
use mathlib.Core.Bool.{true, false}
use mathlib.Core.List.{List}
use lib.ListN.{length, get_or}
use borrow.Author.Tests.{eq-eqb, ne_eqb}
use Rattle.cell.specs.Cell.{total, free, merge_values}
use Rattle.cell.specs.Binomial.{binomial}
use Rattle.spacing.specs.Following.{first_vector}
use Rattle.spacing.specs.SpacingOrder.{first_length, first_total}
use Rattle.spacing.specs.Rank.{rank_of, next_of}
use Rattle.spacing.specs.RankLaws.{next_rank, next_length, next_total, first_rank}
use Rattle.count_step.specs.Feed.{reads_of}
use Rattle.count_step.specs.Step.{capped, held, step_of, spacings_from, stored_at}
use Rattle.count_step.specs.StepLaws.{places_are}
use Rattle.count_step.specs.Sums.{places_of, sum_of}

-- The cases of a step

module _ (T : List ℕ) (B : List (List ℕ)) (n : ℕ) (vs : List ℕ) (one : ℕ) (links g : List ℕ) where
  pub step_covered : free B g ≡ false → step_of T B n vs one links g ≡ 0
  unfolding reads_of
  step_covered e = rw e refl

  pub step_deletes : (rank : ℕ) → free B g ≡ true → (n ≡ 0 → ⊥) → rank ≡ rank_of (merge_values vs g) →
      held T (get_or links 0 0 + rank) ≡ step_of T B n vs one links g
  unfolding reads_of
  step_deletes rank e d r = rw (e, ne_eqb n 0 d, r) refl

  pub step_alone : free B g ≡ true → n ≡ 0 → total g ≡ 0 → one ≡ step_of T B n vs one links g
  unfolding reads_of
  step_alone e d t = rw (e, eq-eqb n 0 d, eq-eqb (total g) 0 t) refl

  pub step_sums : free B g ≡ true → n ≡ 0 → (total g ≡ 0 → ⊥) → capped (sum_of T (places_of links g)) ≡ step_of T B n vs one links g
  unfolding reads_of
  step_sums e d t = rw (e, eq-eqb n 0 d, ne_eqb (total g) 0 t) (ap (λ (l : List ℕ). capped (sum_of T l)) (places_are links g))

-- Filling: g is the spacing of rank p, where p is below n, and the steps that are left give what
-- all steps give.
pub record Filling {A : Type 0} (put : List ℕ → ℕ → A → List ℕ) (step : List ℕ → List ℕ → A) (k t at n p : ℕ) (before now : List ℕ)
    (g : List ℕ) : Type 0 where
  pub rest : stored_at put step at (spacings_from (n - p) g) now ≡ stored_at put step at (spacings_from n (first_vector k t)) before
  pub size : length now ≡ length before
  pub wide : length g ≡ suc k
  pub whole : total g ≡ t
  pub reach : p ≤ n
  pub ranked : p < n → rank_of g ≡ p

module _ {A : Type 0} (put : List ℕ → ℕ → A → List ℕ) (same : (T : List ℕ) (i : ℕ) (x : A) → length (put T i x) ≡ length T)
    (step : List ℕ → List ℕ → A) (k t at n : ℕ) (count : n ≡ binomial (k + t) k) (T₀ : List ℕ) where
  pub filling_start : (g : List ℕ) → g ≡ first_vector k t → Filling put step k t at n 0 T₀ T₀ g
  filling_start g e =
      let z : n - 0 ≡ n = omega arith in
      record {
        rest = rw (z, e) refl;
        size = refl;
        wide = ap length e ∙ first_length k t;
        whole = ap total e ∙ first_total k t;
        reach = omega arith;
        ranked = λ (h : 0 < n). ap rank_of e ∙ first_rank k t;
      }

  pub filling_more : (p : ℕ) (T g : List ℕ) → Filling put step k t at n p T₀ T g → p < n → (T' g' : List ℕ) → T' ≡ put T (at + p)
      (step T g) →
      g' ≡ next_of g → Filling put step k t at n (p + 1) T₀ T' g'
  unfolding spacings_from stored_at
  filling_more p T g f h T' g' e q =
      let o : n - p ≡ suc (n - (p + 1)) = omega arith in
      let now : stored_at put step at (spacings_from (n - p) g) T ≡ stored_at put step at (spacings_from (n - (p + 1)) g') T' =
      rw (o, q, e) (ap (λ m. stored_at put step at (spacings_from (n - (p + 1)) (next_of g)) (put T (at + m) (step T g))) (f.ranked h)) in
      record {
        rest = sym now ∙ f.rest;
        size = ap length e ∙ same T (at + p) (step T g) ∙ f.size;
        wide = ap length q ∙ next_length g ∙ f.wide;
        whole = ap total q ∙ next_total g ∙ f.whole;
        reach = omega arith;
        ranked = λ (l : p + 1 < n). ap rank_of q ∙
            next_rank g k (k + t) f.wide (ap (λ m. k + m) f.whole) (omega (arith, f.ranked h)) ∙
            ap suc (f.ranked h) ∙ sym (add-one p);
      }

  pub filling_end : (p : ℕ) (T g : List ℕ) → Filling put step k t at n p T₀ T g → n ≤ p →
      T ≡ stored_at put step at (spacings_from n (first_vector k t)) T₀
  unfolding spacings_from stored_at
  filling_end p T g f h =
      let z : n - p ≡ 0 = omega arith in
      let none : T ≡ stored_at put step at (spacings_from (n - p) g) T = rw z refl in
      none ∙ f.rest
