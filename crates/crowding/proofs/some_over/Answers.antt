-- `crowding::some_over` meets its contract: too many values lie between two ends if they do in a
-- row that is left.
-- Assumes nothing.
use Prim.Native.Nat.{ℕ, ◌-◌}
use mathlib.Core.Path.{◌≡◌, sym, ap, ◌∙◌}
use mathlib.Core.Bool.{Bool}
use mathlib.Core.List.{List}
use native.Mathlib.Omega.{arith}
use lib.ListN.{get_or}
use Rattle.crowding.specs.Followers.{over_row}
use Rattle.crowding.proofs.OverLaws.{any_start, any_here, any_later, any_none}
use Rattle.crowding.proofs.some_over.Goals as goal

-- the row of each l
abbrev rows : ℕ → List ℕ → ℕ → List ℕ → ℕ → ℕ → Bool
rows rises highs unused lows falls l = over_row (rises - 1 - l) (get_or highs l 0) unused lows falls

pub loop-l-init : goal.loop-l-init
loop-l-init c =
    let a = c.args in
    any_start (rows a.rises a.highs a.unused a.lows a.falls) a.rises

pub returns-then-row_over : goal.returns-then-row_over
returns-then-row_over c =
    let a = c.args in
    let l = c.loop-l in
    let row_of : c.row_over.result ≡ rows a.rises a.highs a.unused a.lows a.falls l.l =
    c.row_over.ensures ∙ ap (λ (k : ℕ). over_row k (get_or a.highs l.l 0) a.unused a.lows a.falls) c.left.ensures.0 in
    sym (l.invariant ∙ any_here (rows a.rises a.highs a.unused a.lows a.falls) l.l a.rises (omega arith)
    (sym row_of ∙ c.if-row_over.true))

pub loop-l-preserved : goal.loop-l-preserved
loop-l-preserved c =
    let a = c.args in
    let l = c.loop-l in
    let row_of : c.row_over.result ≡ rows a.rises a.highs a.unused a.lows a.falls l.l =
    c.row_over.ensures ∙ ap (λ (k : ℕ). over_row k (get_or a.highs l.l 0) a.unused a.lows a.falls) c.left.ensures.0 in
    l.invariant ∙ any_later (rows a.rises a.highs a.unused a.lows a.falls) l.l a.rises (omega arith)
    (sym row_of ∙ c.if-row_over.false)

pub returns : goal.returns
returns c =
    let a = c.args in
    let l = c.loop-l in
    sym (l.invariant ∙ any_none (rows a.rises a.highs a.unused a.lows a.falls) l.l a.rises (omega arith))
