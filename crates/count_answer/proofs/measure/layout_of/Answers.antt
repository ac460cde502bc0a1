-- `count_answer::measure::layout_of` meets its contract.
-- Assumes nothing.
use mathlib.Core.Path.{ap, ◌∙◌}
use Rattle.count_entry.specs.Frames.{frame_of}
use Rattle.count_answer.proofs.measure.layout_of.Goals as goal

pub returns : goal.returns
returns c =
    let a = c.args in
    record {
      placed = c.places_of-places.ensures;
      framed = c.frame_of-frame.ensures ∙ ap (frame_of c.places_of-places.result a.n a.scheme.count) c.rows_of-rows.ensures.0;
    }
