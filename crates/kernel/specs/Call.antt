-- What the call from C promises: "returning the refusal number or zero to the C kernel" (01).
-- Definitions only.
use Rattle.std.specs.Prelude.{ℕ, ◌≡◌, List, ◌↔◌}
use Rattle.verdict.specs.Verdict.{told_verdict}
use Rattle.judge_texts.specs.TextJudgement.{verdict_of_texts, TextsTrue}

-- the number r for the texts s and t
pub record Called (s t : List ℕ) (r : ℕ) : Type 0 where
  -- that of document 01: of the refusal, or 0
  pub number : r ≡ (told_verdict (verdict_of_texts s t)).number
  -- zero exactly if the texts are within their ceilings, spell a well-formed scheme, and its claims
  -- are true at every length
  pub exactly : (r ≡ 0) ↔ TextsTrue s t
