-- The invariant and the measure of the loop of `scheme::links::link_faults`.
use Prim.Native.Nat.{ℕ}
use mathlib.Core.Path.{◌≡◌}
use mathlib.Core.Bool.{Bool}
use Rattle.word.specs.declared.refusal.Refusal.TheVariants.{Childless, NoTarget}
use Rattle.forms.specs.SchemeList.{EntryList}
use Rattle.forms.specs.SchemeMemory.{Fault, scheme_in, fault_of, or_else}
use Rattle.forms.specs.declared.memory.Scheme.{Scheme}
use Rattle.scheme.specs.WellFormed.{lacks_child, lacks_target}
use Rattle.scheme.specs.WellFormed.{child_test, target_test}
use Rattle.scheme.specs.TestLaws.{first_from}
use Rattle.scheme.specs.Links.{prefixes_in}
use Rattle.scheme.proofs.LookupLaws.{entry_at}
use Rattle.scheme.proofs.links.link_faults.Given as goal

-- the tests 8 and 9 of one entry
abbrev pub noChild : Scheme → EntryList → Bool
noChild s e = lacks_child (prefixes_in s) e.prefix e.rule

abbrev pub noTarget : Scheme → EntryList → Bool
noTarget s e = lacks_target (prefixes_in s) e.prefix e.rule

abbrev pub childRest : Scheme → ℕ → ℕ → Fault
childRest s n i = fault_of (first_from Childless (noChild s) (entry_at s) n i)

abbrev pub targetRest : Scheme → ℕ → ℕ → Fault
targetRest s n i = fault_of (first_from NoTarget (noTarget s) (entry_at s) n i)

abbrev pub invariant-loop-i : goal.invariant-loop-i
invariant-loop-i l =
    (fault_of (child_test (scheme_in l.s)) ≡ or_else l.child (childRest l.s l.s.count l.i)) ×
    (fault_of (target_test (scheme_in l.s)) ≡ or_else l.target (targetRest l.s l.s.count l.i))
