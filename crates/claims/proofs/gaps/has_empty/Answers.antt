-- `claims::gaps::has_empty` meets its contract: each vector of the total in its turn.
-- Assumes nothing.
use borrow.Author.Rules.{rules}
use Prim.Native.Nat.{ℕ, suc, ◌+◌}
use mathlib.Core.Path.{sym, ap, ◌∙◌}
use mathlib.Core.List.{List, ◌∷◌}
use native.Mathlib.Omega.{arith}
use Rattle.std.proofs.Common.{true, false, refl}
use lib.ListN.{take}
use Rattle.word.specs.Lists.{first}
use Rattle.word.specs.CopyLaws.{found, first_found}
use Rattle.cell.specs.Cell.{total, vectors}
use Rattle.spacing.specs.Following.{later}
use Rattle.spacing.specs.SpacingOrder.{first_total}
use Rattle.spacing.proofs.SpacingCount.{less_later}
use Rattle.candidate.proofs.CandidateWalk.{walk_start, walk_here, walk_last, walk_next}
use Rattle.claims.proofs.GapClaimLaws.{shows}
use Rattle.forms.specs.SetMemory.{held_in}
use Rattle.claims.proofs.gaps.has_empty.Goals as goal

pub overflow_cast-t : goal.overflow_cast-t
overflow_cast-t c = let q = c.requires.2 in search rules

pub first_spacing-g-requires : goal.first_spacing-g-requires
first_spacing-g-requires c = omega (arith, c.requires.0)

pub spacings-init : goal.spacings-init
spacings-init c =
    let a = c.args in
    let f = shows (held_in a.patterns.now) a.at.prefix a.at.length a.at.parts in (
      ap total c.first_spacing-g.ensures ∙ first_total a.at.length a.t,
      walk_start f a.at.length a.t ∙ ap (λ (v : List ℕ). first f (v ∷ later v)) (sym c.first_spacing-g.ensures),
    )

pub is_empty_below-requires : goal.is_empty_below-requires
is_empty_below-requires c = (
  c.requires.0,
  c.requires.1,
  omega
      (arith, c.spacings.invariant.0, c.requires.2),
)

pub returns-then-is_empty_below : goal.returns-then-is_empty_below
returns-then-is_empty_below c =
    let a = c.args in
    let l = c.spacings in
    let f = shows (held_in a.patterns.now) a.at.prefix a.at.length a.at.parts in
    sym (sym (first_found f (vectors (suc a.at.length) a.t)) ∙
    ap found (l.invariant.1 ∙ walk_here f (take (a.at.length + 1) l.g) (sym c.is_empty_below.ensures ∙ c.if-is_empty_below.true)))

pub next_spacing-requires : goal.next_spacing-requires
next_spacing-requires c = (omega (arith, c.requires.0), omega (arith, c.spacings.invariant.0, c.requires.2))

pub returns-in_default : goal.returns-in_default
returns-in_default c =
    let a = c.args in
    let l = c.spacings in
    let none = c.in_default.ensures in
    let f = shows (held_in a.patterns.now) a.at.prefix a.at.length a.at.parts in
    sym (sym (first_found f (vectors (suc a.at.length) a.t)) ∙
    ap found (l.invariant.1 ∙
    walk_last f (take (a.at.length + 1) l.g) (take (a.at.length + 1) l.g) false none.follows
    (sym c.is_empty_below.ensures ∙ c.if-is_empty_below.false) refl))

pub spacings-smaller : goal.spacings-smaller
spacings-smaller c =
    let a = c.args in
    let n = c.in-Some in
    less_later (take (a.at.length + 1) c.spacings.g) (take (a.at.length + 1) n.next) true n.ensures.follows refl

pub spacings-preserved : goal.spacings-preserved
spacings-preserved c =
    let a = c.args in
    let l = c.spacings in
    let n = c.in-Some in
    let f = shows (held_in a.patterns.now) a.at.prefix a.at.length a.at.parts in (
      n.ensures.follows.same_total ∙ l.invariant.0,
      l.invariant.1 ∙
          walk_next f (take (a.at.length + 1) l.g) (take (a.at.length + 1) n.next) true n.ensures.follows
          (sym c.is_empty_below.ensures ∙ c.if-is_empty_below.false) refl,
    )
