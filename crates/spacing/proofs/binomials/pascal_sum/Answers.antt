-- `spacing::binomials::pascal_sum` meets its contract.
-- Assumes nothing.
use native.Mathlib.Omega.{arith}
use Prim.Native.Nat.{◌+◌, ◌*◌, ◌-◌}
use mathlib.Core.Path.{◌≡◌, sym, ap, ap₂, ◌∙◌}
use lib.ListN.{get_or}
use Rattle.word.specs.Ceilings.{COLUMNS}
use Rattle.cell.specs.Binomial.{binomial}
use Rattle.cell.proofs.BinomialLaws.{binomial_above}
use Rattle.spacing.specs.RankLaws.{binomial_zero}
use Rattle.spacing.specs.PascalLaws.{pascal_sum, binomial_small}
use Rattle.spacing.proofs.binomials.pascal_sum.Goals as goal

pub returns-then-k-eq0 : goal.returns-then-k-eq0
returns-then-k-eq0 c =
    let a = c.args in
    let k : a.k ≡ 0 = c.if-k-eq0.true in
    sym (ap (binomial a.n) k ∙ binomial_zero a.n)

pub overflow_add-result : goal.overflow_add-result
overflow_add-result c =
    let a = c.args in
    let p = c.requires.2 in
    let m = a.n - 1 in
    let o : COLUMNS * (a.n - 1) + a.k - 1 ≡ COLUMNS * (a.n - 1) + (a.k - 1) = omega arith in
    let l = ap (λ i. get_or a.b.now i 0) o ∙ p.rows (a.n - 1) (a.k - 1) (omega arith) (omega arith) in
    let r = p.rows (a.n - 1) a.k (omega arith) (omega arith) in
    omega (arith, binomial_small (a.n - 1) (a.k - 1) (omega arith), binomial_small (a.n - 1) a.k (omega arith))

pub returns : goal.returns
returns c =
    let a = c.args in
    let p = c.requires.2 in
    let o : COLUMNS * (a.n - 1) + a.k - 1 ≡ COLUMNS * (a.n - 1) + (a.k - 1) = omega arith in
    let l = ap (λ i. get_or a.b.now i 0) o ∙ p.rows (a.n - 1) (a.k - 1) (omega arith) (omega arith) in
    let r = p.rows (a.n - 1) a.k (omega arith) (omega arith) in
    ap₂ ◌+◌ l r ∙ sym (pascal_sum a.n a.k (omega arith) (omega arith))

pub returns-then-n-eq0 : goal.returns-then-n-eq0
returns-then-n-eq0 c =
    let a = c.args in
    let n : a.n ≡ 0 = c.if-n-eq0.true in
    sym (binomial_above a.n a.k (omega arith))
