-- `set_tests::same_digits` meets its contract: patterns of one length are the same if their digits
-- in memory are.
-- Assumes nothing.
use mathlib.Core.Path.{◌≡◌, sym, ap₂, ◌∙◌}
use borrow.Author.Rules.{rules}
use borrow.Author.Tests.{ne_eqb}
use lib.ListN.{length}
use Rattle.word.specs.Ceilings.{DIGITS}
use Rattle.cell.specs.Basis.{same}
use Rattle.forms.specs.SchemeMemory.{pattern_in}
use Rattle.forms.specs.MemoryLaws.{length_padded, same_lengths, same_pointwise}
use Rattle.set_tests.proofs.PatternLaws.{same_length}
use Rattle.set_tests.proofs.same_digits.Goals as goal

pub returns-then-p-q : goal.returns-then-p-q
returns-then-p-q c =
    let p = c.args.p in
    let q = c.args.q in
    let eight : (length p.digits ≡ DIGITS) × (length q.digits ≡ DIGITS) = (search rules, search rules) in
    c.eq.ensures ∙ sym (same_pointwise c.as_slice.result.now c.as_slice-then-p-q.result.now) ∙
    ap₂ same c.as_slice.ensures c.as_slice-then-p-q.ensures ∙ same_length p q eight.0 eight.1 c.if-p-q.true

pub returns-else-p-q : goal.returns-else-p-q
returns-else-p-q c =
    let p = c.args.p in
    let q = c.args.q in
    ne_eqb p.length q.length c.if-p-q.false ∙
    sym (same_lengths (pattern_in p) (pattern_in q)
    (λ e. c.if-p-q.false (sym (length_padded p.length p.digits) ∙ e ∙ length_padded q.length q.digits)))
