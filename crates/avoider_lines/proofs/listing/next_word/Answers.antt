-- `avoider_lines::listing::next_word` meets its contract: what stands in the word where it was
-- given is the next avoider.
-- Assumes nothing.
use mathlib.Core.Path.{◌≡◌, refl, sym, ap, ◌∙◌}
use mathlib.Core.Bool.{Bool, true, false, cond}
use mathlib.Core.Option.{none, some}
use native.Mathlib.Omega.{arith}
use lib.ListN.{length, take}
use lib.Seq.{length-take-le}
use Rattle.word.specs.Ceilings.{WORD}
use Rattle.forms.specs.SchemeMemory.{patterns_in}
use Rattle.word.specs.Finding.{first_fault}
use Rattle.word.specs.Listing.{next_avoider}
use Rattle.lexicographic.specs.Answers.{next_tests}
use Rattle.avoider_lines.specs.Followed.{unless_fault}
use Rattle.avoider_lines.specs.FollowedLaws.{shown_next}
use borrow.Author.Rules.{rules}
use Rattle.avoider_lines.proofs.listing.next_word.Goals as goal
use Rattle.avoider_lines.proofs.listing.next_word.Goals.{After-is_given}

pub slice_bounds-next_avoider-end : goal.slice_bounds-next_avoider-end
slice_bounds-next_avoider-end c =
    let all : length c.args.word ≡ WORD =
    search rules in
    let l = c.min-count in
    sym (length-take-le l.result c.args.word (omega (arith, l.ensures, all)))

-- what is shown by the answer
shown_by : (c : After-is_given) → cond c.is_given.result (some (take c.args.n c.next_avoider-listed.new.page)) none ≡
    unless_fault (first_fault (next_tests (patterns_in c.args.patterns) (take c.args.n c.args.word) WORD))
    (next_avoider (patterns_in c.args.patterns) (take c.args.n c.args.word))
shown_by c =
    let all : length c.args.word ≡ WORD = search rules in
    let a = c.args in
    let f = c.next_avoider-listed in
    let l = c.min-count in
    let after : length f.new.page ≡ WORD = search rules in
    shown_next (patterns_in a.patterns) a.word a.n l.result all l.ensures _ f.new.page refl after f.result c.is_given.result f.ensures
    c.is_given.ensures

given_as : (c : After-is_given) (b : Bool) → c.is_given.result ≡ b →
    cond b (some (take c.args.n c.next_avoider-listed.new.page)) none ≡ cond c.is_given.result
    (some (take c.args.n c.next_avoider-listed.new.page)) none
given_as c b e = ap (λ (x : Bool). cond x (some (take c.args.n c.next_avoider-listed.new.page)) none) (sym e)

pub returns-then-not-is_given : goal.returns-then-not-is_given
returns-then-not-is_given c =
    let d = (goal.at.returns-then-not-is_given c).After-is_given in
    given_as d false c.if-not-is_given.true ∙ shown_by d

pub returns : goal.returns
returns c =
    let d = (goal.at.returns c).After-is_given in
    given_as d true c.if-not-is_given.false ∙ shown_by d
