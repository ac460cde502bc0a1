-- `containment::any_in` meets its contract: a pattern of the set stands in the word, or the word
-- avoids them all.
-- Assumes nothing.
use mathlib.Core.Path.{◌∙◌}
use Rattle.std.proofs.Common.{rules, tests}
use Rattle.std.proofs.lemmas.Iterator.{YieldsList-from_slice}
use Rattle.std.proofs.lemmas.Iterator.Search.{any_from_yields_List}
use Rattle.word.specs.Word.{contains}
use Rattle.forms.specs.SetMemory.{held}
use Rattle.containment.proofs.SetSearch.{any_held}
use Rattle.containment.proofs.any_in.Goals as goal

pub returns : goal.returns
returns c =
    let a = c.args in
    any_from_yields_List (λ p. contains (held p) a.w.now) _ _ c.any.result c.any.ensures.ran
    (YieldsList-from_slice a.patterns.now cc) (λ x b q k. search (rules, tests)) ∙ any_held a.patterns.now a.w.now
