-- `candidate::search::spacing_violated` meets its contract: the patterns before the index do not
-- violate.
-- Assumes nothing.
use Rattle.std.proofs.Common.{suc, ◌≡◌, ◌+◌, arith, List, ℕ, length, take}
use Rattle.std.proofs.lemmas.List.{length-map}
use Rattle.forms.specs.SetMemory.{held, held_in}
use Rattle.candidate.specs.Ready.{Looked, FlaggedFor, Needs}
use Rattle.cell.specs.Cell.{total}
use Rattle.candidate.proofs.CandidateWalk.{passed_start, passed_end, passed_later, violation}
use Rattle.candidate.proofs.search.spacing_violated.Goals as goal
use Rattle.candidate.proofs.search.spacing_violated.Goals.{After-levels_of-levels}

-- what is looked up at the spacing
looked : (c : After-levels_of-levels) (R : List ℕ) → let a = c.args in let p = take a.at.deleted.length a.at.deleted.prefix in
    let g = take (a.at.deleted.length + 1) a.at.spacing in
    FlaggedFor (held_in a.patterns.now) p R a.at.deleted.gone → length g ≡ suc (length p) → total g ≡ a.at.total →
    Needs (held_in a.patterns.now) a.at.total a.needs.now →
    Looked (held_in a.patterns.now) a.needs.now p a.at.deleted.gone c.levels_of-levels.result a.at.total R g
looked c R F size e N =
    record {
      given = F.0;
      flags = F.1;
      size = size;
      whole = e;
      said = λ v b. c.levels_of-levels.ensures v (omega (arith, size));
      needed = N;
    }

pub loop-i-init : goal.loop-i-init
loop-i-init c = let a = c.args in passed_start (held_in a.patterns.now) a.needs.now (take a.at.deleted.length a.at.deleted.prefix)
    a.at.deleted.gone
    c.levels_of-levels.result a.at.total

pub returns-then-violates : goal.returns-then-violates
returns-then-violates c =
    let a = c.args in
    λ R F size e N. violation (held_in a.patterns.now) a.needs.now (take a.at.deleted.length a.at.deleted.prefix) a.at.deleted.gone
    c.levels_of-levels.result a.at.total c.loop-i.i (omega (arith, length-map a.patterns.now held)) c.loop-i.invariant
    (rw c.if-violates.true at c.violates.ensures.0) R _ (looked (goal.at.returns-then-violates c).After-levels_of-levels R F size e N)

pub loop-i-preserved : goal.loop-i-preserved
loop-i-preserved c =
    let a = c.args in
    passed_later (held_in a.patterns.now) a.needs.now (take a.at.deleted.length a.at.deleted.prefix) a.at.deleted.gone
    c.levels_of-levels.result a.at.total c.loop-i.i (omega (arith, length-map a.patterns.now held)) c.loop-i.invariant
    (rw c.if-violates.false at c.violates.ensures.0)

pub returns : goal.returns
returns c =
    let a = c.args in
    λ R F size e N. passed_end (held_in a.patterns.now) a.needs.now (take a.at.deleted.length a.at.deleted.prefix) a.at.deleted.gone
    c.levels_of-levels.result a.at.total c.loop-i.i (omega (arith, length-map a.patterns.now held)) c.loop-i.invariant R _
    (looked (goal.at.returns c).After-levels_of-levels R F size e N)
