-- `candidate::search::irreversible` meets its contract: the totals before the one at hand have no
-- violation, and the candidates decide the claim.
-- Assumes nothing.
use Rattle.std.proofs.Common.{◌≡◌, ◌+◌, sym, ◌∙◌, rules, arith, length, take, refl}
use lib.Seq.{length-take-le}
use Rattle.std.proofs.lemmas.List.{length-map}
use Rattle.forms.specs.GapRows.{gaps_of}
use Rattle.forms.specs.SetMemory.{held, held_in}
use Rattle.candidate.specs.Ready.{FlaggedFor}
use Rattle.candidate.proofs.CandidateWalk.{lost, totals_start, totals_end, totals_here, totals_later, entry_first, entry_answer}
use Rattle.candidate.proofs.search.irreversible.Goals as goal
use Rattle.candidate.proofs.search.irreversible.Goals.{Start, After-deleted_values-gone}

-- the length of the prefix
wide : (start : Start) → length (take start.args.deletion.length start.args.deletion.prefix) ≡ start.args.deletion.length
wide start =
    let six : length start.args.deletion.prefix ≡ 6 = search rules in
    length-take-le start.args.deletion.length start.args.deletion.prefix (omega (arith, start.requires.1))

-- the deleted values are flagged
flags : (c : After-deleted_values-gone) → let d = c.args.deletion in
    FlaggedFor (held_in c.args.patterns.now) (take d.length d.prefix) (take d.position_count d.positions) c.deleted_values-gone.result
flags c = (c.requires.5, c.deleted_values-gone.ensures)

pub deleted_values-gone-requires : goal.deleted_values-gone-requires
deleted_values-gone-requires c = (c.requires.5.short, c.requires.5.perm, c.requires.5.inside)

pub loop-t-init : goal.loop-t-init
loop-t-init c =
    let d = c.args.deletion in
    λ R F. totals_start (lost (gaps_of c.args.gaps.now (d.length + 1) d.gap_count) (held_in c.args.patterns.now)
    (take d.length d.prefix) R) d.length d.m

pub total_violated-requires : goal.total_violated-requires
total_violated-requires c = (
  omega (arith, length-map c.args.patterns.now held, c.requires.5.few),
  c.requires.1,
  omega (arith, c.requires.3),
  c.requires.0,
  c.requires.4,
)

pub returns-in-Some : goal.returns-in-Some
returns-in-Some c =
    let d = c.args.deletion in
    let p = take d.length d.prefix in
    let R = take d.position_count d.positions in
    let P = held_in c.args.patterns.now in
    let A = gaps_of c.args.gaps.now (d.length + 1) d.gap_count in
    let at = goal.at.returns-in-Some c in
    let w = wide at.Start in
    let F = flags at.After-deleted_values-gone in
    let l = c.loop-t in
    let here = totals_here (lost A P p R) d.length d.m l.t (omega arith) _ (c.in-Some.ensures R F (sym w)) refl in
    entry_answer d.m P p A R d.length _ c.requires.5 (sym w)
    (rw (entry_first P p A R d.length d.m (sym w) ∙ l.invariant R F) here)

pub loop-t-preserved : goal.loop-t-preserved
loop-t-preserved c =
    let d = c.args.deletion in
    let p = take d.length d.prefix in
    let P = held_in c.args.patterns.now in
    let A = gaps_of c.args.gaps.now (d.length + 1) d.gap_count in
    let l = c.loop-t in
    let w = wide (goal.at.loop-t-preserved c).Start in
    λ R F. l.invariant R F ∙ totals_later (lost A P p R) d.length d.m l.t (omega arith) _ (c.in_default.ensures R F (sym w)) refl

pub returns : goal.returns
returns c =
    let d = c.args.deletion in
    let p = take d.length d.prefix in
    let R = take d.position_count d.positions in
    let P = held_in c.args.patterns.now in
    let A = gaps_of c.args.gaps.now (d.length + 1) d.gap_count in
    let at = goal.at.returns c in
    let w = wide at.Start in
    let F = flags at.After-deleted_values-gone in
    let l = c.loop-t in
    entry_answer d.m P p A R d.length _ c.requires.5 (sym w)
    (rw (entry_first P p A R d.length d.m (sym w) ∙ l.invariant R F ∙
    totals_end (lost A P p R) d.length d.m l.t (omega arith)) tt)
