-- `candidate::search::hits` meets its contract: the lists say of the entries what the definition
-- says.
-- Assumes nothing.
use Rattle.std.proofs.Common.{sym, ◌∙◌, arith}
use Rattle.candidate.proofs.HitLaws.{hit_short, hit_of}
use Rattle.candidate.proofs.search.hits.Goals as goal

pub returns-then-pattern-t : goal.returns-then-pattern-t
returns-then-pattern-t c = λ R g r e. sym (hit_short c.args.prefix.now R g c.args.pattern.now c.args.t e (omega arith))

pub returns : goal.returns
returns c =
    let a = c.args in
    λ R g r e. c.placed.ensures ∙ sym (hit_of a.prefix.now R g a.pattern.now a.t a.tables.levels a.tables.gone a.tables.need r e
    (omega arith))
