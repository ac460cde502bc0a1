-- `candidate::search::free_and_violated` meets its contract.
-- Assumes nothing.
use mathlib.Core.Path.{sym, ◌∙◌}
use Rattle.candidate.proofs.CandidateWalk.{and_false, and_true}
use Rattle.candidate.proofs.search.free_and_violated.Goals as goal

pub returns-then-not-is_free : goal.returns-then-not-is_free
returns-then-not-is_free c = λ R F size e N. and_false _ _ (sym c.is_free.ensures ∙ c.if-not-is_free.true)

pub returns : goal.returns
returns c =
    λ R F size e N. and_true _ _ _ (sym c.is_free.ensures ∙ c.if-not-is_free.false) (c.spacing_violated.ensures R F size e N)
