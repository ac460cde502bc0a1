-- `avoider_lines::listing::first_word` meets its contract: what stands in the word where it was
-- given is the first avoider.
-- Assumes nothing.
use mathlib.Core.Path.{◌≡◌, refl, sym, ap, ◌∙◌}
use mathlib.Core.Bool.{Bool, true, false, cond}
use mathlib.Core.Option.{none, some}
use lib.ListN.{take}
use Rattle.word.specs.Ceilings.{WORD}
use Rattle.forms.specs.SchemeMemory.{patterns_in}
use Rattle.word.specs.Finding.{first_fault}
use Rattle.word.specs.Listing.{first_avoider}
use Rattle.lexicographic.specs.Answers.{first_tests}
use Rattle.avoider_lines.specs.Followed.{unless_fault}
use Rattle.avoider_lines.specs.FollowedLaws.{shown_first}
use Rattle.avoider_lines.proofs.listing.first_word.Goals as goal
use Rattle.avoider_lines.proofs.listing.first_word.Goals.{After-is_given}

-- what is shown by the answer
shown_by : (c : After-is_given) → cond c.is_given.result (some (take c.args.n c.first_avoider-listed.new.page)) none ≡
    unless_fault (first_fault (first_tests (patterns_in c.args.patterns) c.args.n WORD))
    (first_avoider (patterns_in c.args.patterns) c.args.n)
shown_by c =
    let a = c.args in
    let f = c.first_avoider-listed in
    shown_first (patterns_in a.patterns) a.n _ _ f.result c.is_given.result refl f.ensures c.is_given.ensures

given_as : (c : After-is_given) (b : Bool) → c.is_given.result ≡ b →
    cond b (some (take c.args.n c.first_avoider-listed.new.page)) none ≡ cond c.is_given.result
    (some (take c.args.n c.first_avoider-listed.new.page)) none
given_as c b e = ap (λ (x : Bool). cond x (some (take c.args.n c.first_avoider-listed.new.page)) none) (sym e)

pub returns-then-not-is_given : goal.returns-then-not-is_given
returns-then-not-is_given c =
    let d = (goal.at.returns-then-not-is_given c).After-is_given in
    given_as d false c.if-not-is_given.true ∙ shown_by d

pub returns : goal.returns
returns c =
    let d = (goal.at.returns c).After-is_given in
    given_as d true c.if-not-is_given.false ∙ shown_by d
