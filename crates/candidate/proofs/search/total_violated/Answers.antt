-- `candidate::search::total_violated` meets its contract: the spacings before the one at hand have
-- no violation.
-- Assumes nothing.
use Prim.Native.Nat.{suc, ◌+◌}
use mathlib.Core.Path.{◌≡◌, refl, sym, ◌∙◌}
use borrow.Author.Rules.{rules}
use Rattle.std.proofs.Common.{true, false}
use native.Mathlib.Omega.{arith}
use native.Mathlib.Numerals.{add-one}
use lib.ListN.{length, take}
use lib.Seq.{length-take-le}
use Rattle.word.specs.Ceilings.{PREFIX}
use Rattle.forms.specs.GapRows.{gaps_of}
use Rattle.forms.specs.SetMemory.{held_in}
use Rattle.spacing.proofs.SpacingCount.{less_later}
use Rattle.candidate.proofs.CandidateWalk.{walked_start, walked_found, walked_none, walked_next}
use Rattle.candidate.proofs.search.total_violated.Goals as goal

pub spacings-init : goal.spacings-init
spacings-init c =
    let a = c.args in
    walked_start (held_in a.patterns.now) a.needs.now
    (take a.of.deleted.length a.of.deleted.prefix) a.of.deleted.gone
    (gaps_of a.gaps.now (a.of.deleted.length + 1) a.of.deleted.gap_count) a.of.deleted.length
    a.of.total (take (a.of.deleted.length + 1) c.first_spacing-g.result) c.first_spacing-g.ensures

pub returns-then-free_and_violated : goal.returns-then-free_and_violated
returns-then-free_and_violated c =
    let a = c.args in
    let f = c.free_and_violated in
    walked_found (held_in a.patterns.now) a.needs.now
    (take a.of.deleted.length a.of.deleted.prefix) a.of.deleted.gone
    (gaps_of a.gaps.now (a.of.deleted.length + 1) a.of.deleted.gap_count) a.of.deleted.length
    a.of.total (take (a.of.deleted.length + 1) c.spacings.g) c.spacings.invariant
    (c.requires.3.said a.of.total c.requires.2) f.result f.ensures c.if-free_and_violated.true c.spacings.g refl

pub returns-in_default : goal.returns-in_default
returns-in_default c =
    let a = c.args in
    let f = c.free_and_violated in
    let none = c.in_default.ensures in
    walked_none (held_in a.patterns.now) a.needs.now
    (take a.of.deleted.length a.of.deleted.prefix) a.of.deleted.gone
    (gaps_of a.gaps.now (a.of.deleted.length + 1) a.of.deleted.gap_count) a.of.deleted.length
    a.of.total (take (a.of.deleted.length + 1) c.spacings.g) c.spacings.invariant
    (c.requires.3.said a.of.total c.requires.2) f.result f.ensures c.if-free_and_violated.false
    (take (a.of.deleted.length + 1) c.spacings.g) false none.follows refl

pub spacings-smaller : goal.spacings-smaller
spacings-smaller c =
    let a = c.args in
    let n = c.in-Some in
    less_later (take (a.of.deleted.length + 1) c.spacings.g)
    (take (a.of.deleted.length + 1) n.next) true n.ensures.follows refl

pub spacings-preserved : goal.spacings-preserved
spacings-preserved c =
    let six : length c.args.of.deleted.prefix ≡ PREFIX = (let o = c.well_formed in search rules) in
    let seven : length c.in-Some.next ≡ 7 = search rules in
    let a = c.args in
    let f = c.free_and_violated in
    let n = c.in-Some in
    let wide : a.of.deleted.length ≡ length (take a.of.deleted.length a.of.deleted.prefix) =
    sym (length-take-le a.of.deleted.length a.of.deleted.prefix (omega (arith, c.requires.1))) in
    let size : length (take (a.of.deleted.length + 1) n.next) ≡ suc a.of.deleted.length =
    length-take-le (a.of.deleted.length + 1) n.next (omega (arith, c.requires.1)) ∙
    add-one a.of.deleted.length in
    walked_next (held_in a.patterns.now) a.needs.now
    (take a.of.deleted.length a.of.deleted.prefix) a.of.deleted.gone
    (gaps_of a.gaps.now (a.of.deleted.length + 1) a.of.deleted.gap_count) a.of.deleted.length
    a.of.total (take (a.of.deleted.length + 1) c.spacings.g) c.spacings.invariant
    (c.requires.3.said a.of.total c.requires.2) f.result f.ensures c.if-free_and_violated.false
    (take (a.of.deleted.length + 1) n.next) true n.ensures.follows refl wide size
