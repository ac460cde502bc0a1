-- `wellformed::entry_pass::with_entry` meets its contract: each test notes the entry.
-- Assumes nothing.
use mathlib.Core.Path.{ap, sym, ◌∙◌}
use mathlib.Core.Bool.{Bool, not}
use Rattle.word.specs.declared.refusal.Refusal.TheVariants.{NoPermutation, Repeated, Width, NoPosition}
use Rattle.forms.specs.SchemeMemory.{or_else, fault_if, does_of}
use Rattle.wellformed.proofs.EntryTestLaws.{outside_length}
use Rattle.wellformed.proofs.entry_pass.with_entry.Goals as goal

pub returns : goal.returns
returns c =
    let a = c.args in
    let e = a.e in
    record {
      none = c.noted-none.ensures ∙ ap (λ (x : Bool). or_else a.found.none (fault_if (not x) NoPermutation a.i))
          c.is_permuted.ensures;
      twin = c.noted-twin.ensures ∙ ap (λ (x : Bool). or_else a.found.twin (fault_if x Repeated a.i)) c.is_twin.ensures;
      width = c.noted-width.ensures ∙
          ap (λ (x : Bool). or_else a.found.width (fault_if x Width a.i))
          c.wrong_width.ensures;
      position = c.noted-position.ensures ∙ ap (λ (x : Bool). or_else a.found.position (fault_if x NoPosition a.i))
          (c.is_outside.ensures ∙ sym (outside_length e.length e.prefix (does_of e.rule)));
    }
