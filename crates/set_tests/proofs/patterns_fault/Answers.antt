-- `set_tests::patterns_fault` meets its contract: the number of patterns decides, or the findings
-- of the three tests of the items in their order.
-- Assumes nothing.
use mathlib.Core.Path.{◌≡◌, refl, sym, ap, ap₂, ◌∙◌}
use mathlib.Core.Bool.{not}
use lib.ListN.{length}
use lib.Dec.{ltb}
use borrow.Author.Rules.{rules}
use Rattle.std.specs.Prelude.{Ok, Err}
use Rattle.word.specs.Ceilings.{DIGITS}
use Rattle.word.specs.Patterns.{is_pattern}
use Rattle.word.specs.declared.refusal.Refusal.TheVariants.{Oversize, NoPermutation}
use Rattle.scheme.specs.WellFormed.{first_at}
use Rattle.forms.specs.SchemeMemory.{patterns_in, fault_of, or_else}
use Rattle.scheme.specs.FindingLaws.{stops, goes}
use Rattle.set_tests.proofs.PatternLaws.{many_patterns, few_patterns}
use Rattle.set_tests.proofs.patterns_fault.Goals as goal
use Rattle.set_tests.proofs.patterns_fault.Goals.{After-first_with, After-first_with-2}

pub returns-then-s-gt-PATTERNS : goal.returns-then-s-gt-PATTERNS
returns-then-s-gt-PATTERNS c = ap Err c.at.ensures ∙ sym (many_patterns c.args.s c.if-s-gt-PATTERNS.true)

-- the findings of the tests 2 and 3
long : (c : After-first_with) → c.first_with.result ≡ fault_of (first_at Oversize (λ β. ltb DIGITS (length β)) 0 (patterns_in c.args.s))
long c = c.first_with.ensures (λ β. ltb DIGITS (length β)) (λ p b h. search rules)

none : (c : After-first_with-2) →
    c.first_with-2.result ≡ fault_of (first_at NoPermutation (λ β. not (is_pattern β)) 0 (patterns_in c.args.s))
none c = c.first_with-2.ensures (λ β. not (is_pattern β)) (λ p b h. search rules)

pub returns-in_err-first_with : goal.returns-in_err-first_with
returns-in_err-first_with c =
    let s = c.args.s in
    let stopped : c.from_residual.result ≡ c.first_with.result = search rules in
    let tests = few_patterns s c.if-s-gt-PATTERNS.false in
    stopped ∙ sym (tests ∙ ap₂ or_else (sym (long (goal.at.returns-in_err-first_with c).After-first_with)) refl ∙
    stops c.first_with.result _ _ (c.in_err-first_with.was))

pub returns-in_err-first_with-2 : goal.returns-in_err-first_with-2
returns-in_err-first_with-2 c =
    let s = c.args.s in
    let passed : c.first_with.result ≡ Ok (tt {0}) = search rules in
    let stopped : c.from_residual-in_err-first_with-2.result ≡ c.first_with-2.result = search rules in
    let tests = few_patterns s c.if-s-gt-PATTERNS.false in
    stopped ∙ sym (tests ∙ goes _ _ (sym (long (goal.at.returns-in_err-first_with-2 c).After-first_with) ∙ passed) ∙
    ap₂ or_else (sym (none (goal.at.returns-in_err-first_with-2 c).After-first_with-2)) refl ∙
    stops c.first_with-2.result _ _ (c.in_err-first_with-2.was))

pub returns : goal.returns
returns c =
    let s = c.args.s in
    let passed : c.first_with.result ≡ Ok (tt {0}) = search rules in
    let second : c.first_with-2.result ≡ Ok (tt {0}) = search rules in
    c.first_twin.ensures ∙ sym (few_patterns s c.if-s-gt-PATTERNS.false ∙
    goes _ _ (sym (long (goal.at.returns c).After-first_with) ∙ passed) ∙
    goes _ _ (sym (none (goal.at.returns c).After-first_with-2) ∙ second))
