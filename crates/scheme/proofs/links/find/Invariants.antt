-- The invariant of the loop of `scheme::links::find`.
use mathlib.Core.Path.{◌≡◌}
use Rattle.scheme.specs.Links.{find_code}
use Rattle.scheme.proofs.LookupLaws.{code_from}
use Rattle.scheme.proofs.links.find.Given as goal

abbrev pub invariant-loop-i : goal.invariant-loop-i
invariant-loop-i l = find_code l.codes l.code ≡ code_from l.codes l.code l.i
