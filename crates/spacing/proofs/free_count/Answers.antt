-- `spacing::free_count` meets its contract: what was counted and what passes from g on are the
-- whole.
-- Assumes nothing.
use Prim.Native.Nat.{suc, ◌+◌}
use Rattle.std.proofs.Common.{true, false, refl}
use mathlib.Core.Path.{◌≡◌, sym, ◌∙◌}
use lib.ListN.{take}
use native.Mathlib.Omega.{arith}
use Rattle.cell.specs.Cell.{free, vectors}
use Rattle.forms.specs.GapRows.{gaps_of}
use Rattle.spacing.specs.Following.{later}
use Rattle.spacing.proofs.SpacingCount.{passing, walk_start, walk_passes, walk_fails, walk_end}
use Rattle.spacing.proofs.SpacingCount.{walk_on, walk_bound, less_later}
use Rattle.spacing.proofs.free_count.Goals as goal
use Rattle.spacing.proofs.free_count.Goals.{then-is_free, else-is_free, Joined-is_free}

pub loop-count-init : goal.loop-count-init
loop-count-init c =
    let a = c.args in
    walk_start (free (gaps_of a.gaps.now (a.k + 1) a.n)) a.k a.t
    (take (a.k + 1) c.first_spacing-g.result) c.first_spacing-g.ensures

pub overflow_add-count : goal.overflow_add-count
overflow_add-count c =
    let a = c.args in
    let l = c.loop-count in
    let f = free (gaps_of a.gaps.now (a.k + 1) a.n) in
    let v = take (a.k + 1) l.g in
    let whole = walk_passes f a.k a.t v l.count l.invariant (sym c.is_free.ensures ∙ c.if-is_free.true) in
    omega (arith, whole, walk_bound f a.k a.t (omega arith) (omega arith))

pub next_spacing-requires : goal.next_spacing-requires
next_spacing-requires c =
    let held = c.loop-count.invariant.held in
    omega arith

-- what was counted with g
counted : (c : Joined-is_free) → let a = c.args in let f = free (gaps_of a.gaps.now (a.k + 1) a.n) in
    c.if-is_free.count + passing f (later (take (a.k + 1) c.loop-count.g)) ≡ passing f (vectors (suc a.k) a.t)
counted c =
    let a = c.args in
    let l = c.loop-count in
    let f = free (gaps_of a.gaps.now (a.k + 1) a.n) in
    let v = take (a.k + 1) l.g in
    elim c.if-is_free.branch [
      | then-is_free w ↦ rw w.count-is (walk_passes f a.k a.t v l.count l.invariant (sym c.is_free.ensures ∙ w.if-is_free.true))
      | else-is_free w ↦ rw w.count-is (walk_fails f a.k a.t v l.count l.invariant (sym c.is_free.ensures ∙ w.if-is_free.false))
    ]

pub returns-in_default : goal.returns-in_default
returns-in_default c =
    let a = c.args in
    let f = free (gaps_of a.gaps.now (a.k + 1) a.n) in
    let g = c.loop-count.g in
    let none = c.in_default.ensures in
    walk_end f a.k a.t (take (a.k + 1) g) (take (a.k + 1) g) c.if-is_free.count false
    (counted (goal.at.returns-in_default c).Joined-is_free) none.follows refl

pub loop-count-smaller : goal.loop-count-smaller
loop-count-smaller c =
    let a = c.args in
    less_later (take (a.k + 1) c.loop-count.g) (take (a.k + 1) c.in-Some.next) true c.in-Some.ensures.follows refl

pub loop-count-preserved : goal.loop-count-preserved
loop-count-preserved c =
    let a = c.args in
    let f = free (gaps_of a.gaps.now (a.k + 1) a.n) in
    walk_on f a.k a.t (take (a.k + 1) c.loop-count.g) (take (a.k + 1) c.in-Some.next)
    c.if-is_free.count true c.loop-count.invariant.held (counted (goal.at.loop-count-preserved c).Joined-is_free)
    c.in-Some.ensures.follows refl
