-- `set_tests::no_pattern` meets its contract: a pattern has a digit, none behind the array, and is
-- a permutation.
-- Assumes nothing.
use native.Mathlib.Omega.{arith}
use mathlib.Core.Path.{◌≡◌, sym, ap, ◌∙◌}
use mathlib.Core.Bool.{not}
use borrow.Author.Rules.{rules}
use lib.ListN.{length}
use Rattle.word.specs.Ceilings.{DIGITS}
use Rattle.word.specs.Word.{is_perm}
use Rattle.set_tests.proofs.PatternLaws.{no_empty, no_behind, pattern_held}
use Rattle.set_tests.proofs.no_pattern.Goals as goal

pub returns-then-p-eq0 : goal.returns-then-p-eq0
returns-then-p-eq0 c = let p = c.args.p in sym (no_empty p.digits p.length c.if-p-eq0.true)

pub returns-then-p-gt-DIGITS : goal.returns-then-p-gt-DIGITS
returns-then-p-gt-DIGITS c =
    let p = c.args.p in
    let eight : length p.digits ≡ DIGITS = search rules in
    sym (no_behind p.digits p.length (omega arith))

pub returns : goal.returns
returns c =
    ap not (c.is_permutation.ensures ∙ ap is_perm c.as_slice.ensures ∙ sym (pattern_held c.args.p (omega arith) (omega arith)))
