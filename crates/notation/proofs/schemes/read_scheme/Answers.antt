-- `notation::schemes::read_scheme` meets its contract: by the length of the text, by its spelling,
-- by the tests of what it spells. What is read in all is what is read from the place on.
-- Assumes nothing.
use Rattle.std.proofs.Common.{◌≡◌, ◌≤◌, ◌∙◌, refl, sym, ap, length, drop, arith, rules}
use Rattle.std.specs.Prelude.{Err}
use Rattle.std.proofs.Math.Option.{none, some}
use Rattle.word.specs.Ceilings.{SCHEME_TEXT}
use Rattle.word.specs.declared.refusal.Refused.{Refused}
use Rattle.word.specs.Finding.{first_fault}
use Rattle.scheme.specs.WellFormed.{scheme_tests}
use Rattle.forms.specs.SchemeMemory.{Fault, fault_of, scheme_in}
use Rattle.text_grammar.specs.Tokens.{tokens}
use Rattle.text_grammar.specs.Grammar.{misspelt}
use Rattle.text_schemes.proofs.EntryItemLaws.{start_missed, start_read, item_missed}
use Rattle.text_schemes.proofs.EntryItemLaws.{at_last, text_spelt, text_misspelt, whole_text}
use Rattle.notation.specs.SchemeAnswers.{SchemeRead, read_scheme_or, scheme_answer}
use Rattle.notation.proofs.SchemeAnswerLaws.{none_loaded, answer_misspelt, answer_tested, answered}
use Rattle.notation.proofs.schemes.read_scheme.Goals as goal
use Rattle.notation.proofs.schemes.read_scheme.Goals.{Else-not-ends_at}

abbrev refusal : Refused → SchemeRead
refusal e = Err e

-- a text that spells no scheme
pub returns-in_default : goal.returns-in_default
returns-in_default c =
    let s = c.args.text.now in
    let short : length s ≤ SCHEME_TEXT = omega arith in
    answered s _ (ap refusal c.at-misspelt.ensures ∙ answer_misspelt s short
    (whole_text s misspelt none refl (start_missed s c.in_default.ensures)))

pub loop-more-init : goal.loop-more-init
loop-more-init c =
    start_read c.args.text.now c.in-Some.last c.in-Some.mark c.in-Some.ensures _ _
    (none_loaded c.no_entry-none.result c.no_entry-none.ensures) refl

pub returns-in_default-item_at : goal.returns-in_default-item_at
returns-in_default-item_at c =
    let s = c.args.text.now in
    let l = c.loop-more in
    let short : length s ≤ SCHEME_TEXT = omega arith in
    answered s _ (ap refusal c.at-misspelt.ensures ∙ answer_misspelt s short
    (whole_text s misspelt none refl
    (item_missed s l.scheme l.at l.more c.loop-more-test.true l.invariant c.in_default-item_at.ensures)))

pub returns-then-not-ends_at : goal.returns-then-not-ends_at
returns-then-not-ends_at c =
    let s = c.args.text.now in
    let l = c.loop-more in
    let short : length s ≤ SCHEME_TEXT = omega arith in
    answered s _ (ap refusal c.at-misspelt.ensures ∙ answer_misspelt s short
    (whole_text s _ none (text_misspelt l.scheme (tokens (drop l.at s)) (sym c.ends_at.ensures ∙ c.if-not-ends_at.true))
    (at_last s l.scheme l.at l.more c.loop-more-test.false l.invariant)))

-- where all was spelt, the answer is by the tests of the entries that were read
tested : (c : Else-not-ends_at) → (f : Fault) → f ≡ fault_of (first_fault (scheme_tests (scheme_in c.loop-more.scheme))) →
    read_scheme_or f c.loop-more.scheme ≡ scheme_answer c.args.text.now
tested c f e =
    let s = c.args.text.now in
    let l = c.loop-more in
    let short : length s ≤ SCHEME_TEXT = let h = c.if-text-gt-SCHEME_TEXT.false in omega arith in
    ap (λ (x : Fault). read_scheme_or x l.scheme) e ∙ answer_tested s short l.scheme
    (whole_text s _ (some l.scheme) (text_spelt l.scheme (tokens (drop l.at s)) (sym c.ends_at.ensures ∙ c.if-not-ends_at.false))
    (at_last s l.scheme l.at l.more c.loop-more-test.false l.invariant))

pub returns-in_err-scheme_fault : goal.returns-in_err-scheme_fault
returns-in_err-scheme_fault c =
    let r : c.from_residual.result ≡ Err c.in_err-scheme_fault.field-0.0 = search rules in
    answered c.args.text.now _ (r ∙ tested (goal.at.returns-in_err-scheme_fault c).Else-not-ends_at _
    (sym c.in_err-scheme_fault.was ∙ c.scheme_fault.ensures))

pub returns : goal.returns
returns c =
    answered c.args.text.now _ (tested (goal.at.returns c).Else-not-ends_at _ (sym c.in_ok-scheme_fault.was ∙ c.scheme_fault.ensures))
