-- The invariant and the measure of the loop of `avoider_lines::writing::write_avoiders`.
use Prim.Native.Nat.{◌-◌}
use lib.ListN.{length}
use Rattle.forms.specs.SchemeMemory.{patterns_in}
use Rattle.avoider_lines.specs.Followed.{shown, listed}
use Rattle.avoider_lines.specs.FollowedLaws.{Follow}
use Rattle.avoider_lines.proofs.writing.write_avoiders.Given as goal

abbrev pub invariant-loop-found : goal.invariant-loop-found
invariant-loop-found l = Follow (patterns_in l.patterns) l.n (shown l.n l.found) l.lines

abbrev pub decreases-loop-found : goal.decreases-loop-found
decreases-loop-found l = length (listed (patterns_in l.patterns) l.n) - l.lines
