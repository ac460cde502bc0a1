-- `spacing::walk::next_cell` meets its contract.
-- Assumes nothing.
use borrow.Author.Rules.{rules}
use native.Mathlib.Omega.{arith}
use Prim.Native.Nat.{◌≤◌, ◌-◌, ◌+◌, ℕ}
use mathlib.Core.Path.{◌≡◌, refl, sym, ap, ◌∙◌}
use lib.ListN.{get_or, take, set}
use lib.Seq.{get_or-set_other}
use mathlib.Core.List.{List}
use Rattle.spacing.proofs.RankWalkLaws.{Zeros, zeros_more, first_small, found_memory, none_memory}
use Rattle.spacing.proofs.walk.next_cell.Goals as goal

-- what stands behind the first component is not changed yet
same-part : (g₀ g : List ℕ) (i : ℕ) → 1 ≤ i → g ≡ set g₀ 0 0 → get_or g i 0 ≡ get_or g₀ i 0
same-part g₀ g i h e = ap (λ (u : List ℕ). get_or u i 0) e ∙ get_or-set_other g₀ 0 i 0 0 (λ (q : i ≡ 0). omega arith)

-- the components behind it that were looked at are 0
same-zeros : (g₀ : List ℕ) (i : ℕ) → Zeros (set g₀ 0 0) i → Zeros g₀ i
same-zeros g₀ i z a low high = sym (same-part g₀ (set g₀ 0 0) a low refl) ∙ z a low high

pub overflow_add-g : goal.overflow_add-g
overflow_add-g c =
    omega (arith, first_small c.args.g.now c.args.k (omega (arith, c.requires.0, c.requires.1)), c.requires.2)

pub returns-then-y-ne0 : goal.returns-then-y-ne0
returns-then-y-ne0 c =
    let a = c.args in
    let l = c.loop-i in
    let y = same-part a.g.now l.g l.i (omega arith) l.invariant.0 in
    ap (λ (u : List ℕ). take (a.k + 1) (set (set u l.i (get_or l.g l.i 0 - 1)) (l.i - 1) (get_or a.g.now 0 0 + 1))) l.invariant.0 ∙
    found_memory a.g.now a.k (omega (arith, c.requires.0, c.requires.1)) l.i (get_or l.g l.i 0) (omega arith) (omega arith)
    (same-zeros a.g.now l.i l.invariant.1) y c.if-y-ne0.true

pub loop-i-preserved : goal.loop-i-preserved
loop-i-preserved c =
    let a = c.args in
    let l = c.loop-i in
    let z : get_or l.g l.i 0 ≡ 0 = search rules in
    (l.invariant.0, zeros_more (set a.g.now 0 0) l.i l.invariant.1 (ap (λ (u : List ℕ). get_or u l.i 0) (sym l.invariant.0) ∙ z))

pub returns : goal.returns
returns c =
    let a = c.args in
    let l = c.loop-i in
    let e : l.i ≡ a.k + 1 = omega arith in
    let z : Zeros a.g.now (a.k + 1) = rw (← e) (same-zeros a.g.now l.i l.invariant.1) in
    ap (λ (u : List ℕ). take (a.k + 1) (set u a.k (get_or a.g.now 0 0))) l.invariant.0 ∙
    none_memory a.g.now a.k (omega (arith, c.requires.0, c.requires.1)) z
