-- The invariant of the loop of `set_tests::first_with`.
use Rattle.std.proofs.Common.{List, ℕ, Bool, ◌≡◌}
use Rattle.scheme.specs.WellFormed.{first_at}
use Rattle.scheme.specs.TestOrder.{place_in}
use Rattle.scheme.specs.TestLaws.{first_from}
use Rattle.forms.specs.SchemeMemory.{pattern_in, patterns_in}
use Rattle.forms.specs.declared.memory.Pattern.{Pattern}
use Rattle.set_tests.proofs.first_with.Given as goal

-- whatever test the closure makes
abbrev pub invariant-loop-i : goal.invariant-loop-i
invariant-loop-i g l =
    (f : List ℕ → Bool) → ((p : Pattern) (b : Bool) → g.F.Fn.post l.fails (p, tt {0}) b → b ≡ f (pattern_in p)) →
    first_at l.why f 0 (patterns_in l.s) ≡ first_from l.why f (place_in l.s) l.s.count l.i
