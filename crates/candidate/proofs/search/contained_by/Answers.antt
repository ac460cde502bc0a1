-- `candidate::search::contained_by` meets its contract: a copy of one pattern decides, or the whole
-- set does.
-- Assumes nothing.
use Rattle.std.proofs.Common.{◌≡◌, true, not, sym, ap, ◌∙◌, arith, [], get_or}
use Rattle.std.proofs.Math.ListN.{get_or-map}
use Rattle.std.proofs.lemmas.List.{length-map}
use Rattle.word.specs.Word.{contains}
use Rattle.forms.specs.SchemeMemory.{no_pattern}
use Rattle.forms.specs.SetMemory.{held, held_in}
use Rattle.candidate.proofs.CandidateWalk.{not_avoided}
use Rattle.candidate.proofs.search.contained_by.Goals as goal

pub returns-then-stands_in : goal.returns-then-stands_in
returns-then-stands_in c =
    let ps = c.args.patterns.now in
    let w = c.args.w.now in
    let found : contains (get_or (held_in ps) c.args.i []) w ≡ true =
    rw (get_or-map held ps c.args.i no_pattern) (sym c.stands_in.ensures ∙ c.if-stands_in.true) in
    c.if-stands_in.true ∙ sym (ap not (not_avoided (held_in ps) c.args.i w (omega (arith, length-map ps held, c.requires)) found))
