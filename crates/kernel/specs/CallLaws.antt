-- The number that C sees is zero exactly for an acceptance.
use Rattle.std.specs.Prelude.{ℕ, ◌≡◌, refl, true, false, List, ◌↔◌, eqb}
use Rattle.std.proofs.Common.{sym, ap, ◌∙◌, eq-eqb}
use Rattle.word.specs.ListLaws.{true_not_false}
use Rattle.word.specs.Refusal.{number_of}
use Rattle.word.specs.declared.refusal.Refusal.{Refusal}
use Rattle.word.specs.declared.refusal.Refusal.TheVariants.{Misspelt, Oversize, NoPermutation, Repeated, Rootless}
use Rattle.word.specs.declared.refusal.Refusal.TheVariants.{Width, NoPosition, Childless, NoTarget, LiveGap}
use Rattle.word.specs.declared.refusal.Refusal.TheVariants.{Irreversible, ShortTable, ShortPage, NoAvoider}
use Rattle.verdict.specs.Verdict.{Verdict, told_verdict, accepted}
use Rattle.std.specs.Prelude.{Ok, Err}
use Rattle.judge_texts.specs.TextJudgement.{JudgesTextsWithoutPage}
use Rattle.kernel.specs.Call.{Called}

-- no refusal has the number 0
not_zero : (r : Refusal) → eqb (number_of r) 0 ≡ false
not_zero Misspelt = refl
not_zero Oversize = refl
not_zero NoPermutation = refl
not_zero Repeated = refl
not_zero Rootless = refl
not_zero Width = refl
not_zero NoPosition = refl
not_zero Childless = refl
not_zero NoTarget = refl
not_zero LiveGap = refl
not_zero Irreversible = refl
not_zero ShortTable = refl
not_zero ShortPage = refl
not_zero NoAvoider = refl

zero_accepted : (v : Verdict) → ((told_verdict v).number ≡ 0) ↔ (accepted v ≡ true)
zero_accepted (Ok n) = (λ e. refl, λ e. refl)
zero_accepted (Err e) = (
  λ q. absurd (true_not_false (sym (eq-eqb (number_of e.refusal) 0 q) ∙ not_zero e.refusal)),
  λ q. absurd (true_not_false (sym q)),
)

-- the number of a verdict keeps its promise
pub called : (s t : List ℕ) (v : Verdict) (r : ℕ) → JudgesTextsWithoutPage s t v → r ≡ (told_verdict v).number → Called s t r
called s t v r j e =
    record {
      number = e ∙ ap (λ (w : Verdict). (told_verdict w).number) j.verdict;
      exactly = (
        λ z. j.exactly.0 ((zero_accepted v).0 (sym e ∙ z)),
        λ w. e ∙ (zero_accepted v).1 (j.exactly.1 w),
      );
    }
