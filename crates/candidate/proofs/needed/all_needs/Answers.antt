-- `candidate::needed::all_needs` meets its contract: the bytes before the place are those needed.
-- Assumes nothing.
use Rattle.std.proofs.Common.{◌/◌, ◌≡◌, sym, ◌∙◌, arith, length-set, length, [], get_or}
use Rattle.std.proofs.Math.ListN.{get_or-map}
use Rattle.std.proofs.lemmas.List.{length-map}
use Rattle.placing.specs.Lookup.{NEEDS}
use Rattle.forms.specs.SchemeMemory.{no_pattern}
use Rattle.forms.specs.SetMemory.{held, held_in}
use Rattle.candidate.proofs.NeedLaws.{filled_more, all_filled}
use Rattle.candidate.proofs.needed.all_needs.Goals as goal

pub loop-at-preserved : goal.loop-at-preserved
loop-at-preserved c =
    let l = c.loop-at in
    let i = l.at / 72 in
    let ps = c.args.patterns.now in
    let here : get_or (held_in ps) i [] ≡ c.as_slice.result.now = get_or-map held ps i no_pattern ∙ sym c.as_slice.ensures in
    let size : length l.needs ≡ NEEDS = l.invariant.0 in (
      length-set l.needs l.at c.level_needed.result ∙ size,
      filled_more (held_in ps) l.at c.level_needed.result l.needs (omega (arith, c.requires))
          (rw here c.level_needed.ensures) l.invariant.1,
    )

pub returns : goal.returns
returns c =
    let l = c.loop-at in
    let ps = c.args.patterns.now in
    all_filled (held_in ps) l.at l.needs l.invariant.0 (omega (arith, length-map ps held)) l.invariant.1
