-- What judging texts with a page, and containment, give as one number. Definitions only.
use Rattle.std.specs.Prelude.{ℕ, ◌-◌, ◌≡◌, List, [], length}
use Rattle.std.proofs.Math.Option.{Option, none, some}
use Rattle.word.specs.Word.{first_copy}
use Rattle.word.specs.Refusal.{number_of}
use Rattle.word.specs.Finding.{Finding, clean, fault, first_fault}
use Rattle.containment.specs.Containment.{containment_tests}
use Rattle.notation.specs.PatternAnswers.{patterns_answer}
use Rattle.notation.specs.SchemeAnswers.{scheme_answer}
use Rattle.text_page.specs.Page.{overlay}
use Rattle.judge_texts.specs.TextJudgement.{verdict_read_on, page_read}
use Rattle.twin_exports.specs.TextCounts.{largest, code_of}

-- the number r for the texts s and t, with a page that holds `before`, and then `after`
pub record JudgesOnPage (s t before after : List ℕ) (r : ℕ) : Type 0 where
  pub answer : r ≡ code_of (verdict_read_on (length before) (patterns_answer s) (scheme_answer t))
  pub page : after ≡ page_read (patterns_answer s) (scheme_answer t) before

-- how many positions the first copy has, 0 for none, or the largest number less that of the refusal
abbrev pub copy_code : Finding → Option (List ℕ) → ℕ
copy_code clean none = 0
copy_code clean (some at) = length at
copy_code (fault r i) o = largest - number_of r

-- the positions that are written
abbrev pub copy_given : Finding → Option (List ℕ) → List ℕ
copy_given clean none = []
copy_given clean (some at) = at
copy_given (fault r i) o = []

-- the number r for the pattern β and the permutation w
pub record CopiesOf (β w before after : List ℕ) (r : ℕ) : Type 0 where
  pub answer : r ≡ copy_code (first_fault (containment_tests β w)) (first_copy β w)
  pub page : after ≡ overlay 0 (copy_given (first_fault (containment_tests β w)) (first_copy β w)) before
