-- The invariant of the loop of `candidate::needed::all_needs`.
use Rattle.std.proofs.Common.{◌≡◌, length}
use Rattle.forms.specs.SetMemory.{held_in}
use Rattle.placing.specs.Lookup.{NEEDS}
use Rattle.candidate.proofs.NeedLaws.{Filled}
use Rattle.candidate.proofs.needed.all_needs.Given as goal

abbrev pub invariant-loop-at : goal.invariant-loop-at
invariant-loop-at l = (length l.needs ≡ NEEDS) × Filled (held_in l.patterns) l.at l.needs
