-- `wellformed::entry_tests::is_outside` meets its contract: by the cases of the rule and of the
-- number of its positions.
-- Assumes nothing.
use mathlib.Core.Path.{sym, ap, ◌∙◌}
use native.Mathlib.Omega.{arith}
use Rattle.scheme.specs.WellFormed.{astray}
use Rattle.wellformed.proofs.EntryTestLaws.{outside_none, outside_many, outside_rises}
use Rattle.wellformed.proofs.entry_tests.is_outside.Goals as goal

pub returns-then-n-eq0 : goal.returns-then-n-eq0
returns-then-n-eq0 c =
    let a = c.args in
    sym (outside_none a.k a.rule c.in-Delete.d c.in-Delete.is (sym c.from-n.ensures ∙ c.if-n-eq0.true))

pub returns-then-n-gt-PREFIX : goal.returns-then-n-gt-PREFIX
returns-then-n-gt-PREFIX c =
    let a = c.args in
    sym (outside_many a.k a.rule c.in-Delete.d c.in-Delete.is (omega (arith, c.from-n.ensures, c.if-n-gt-PREFIX.true)))

pub returns-else-n-gt-PREFIX : goal.returns-else-n-gt-PREFIX
returns-else-n-gt-PREFIX c =
    let a = c.args in
    let n = c.from-n.ensures in
    c.is_astray.ensures ∙
    ap (astray a.k 0) c.as_slice.ensures ∙
    sym (outside_rises a.k a.rule c.in-Delete.d c.in-Delete.is (λ z. c.if-n-eq0.false (n ∙ z)) (omega (arith, n, c.if-n-gt-PREFIX.false)))
