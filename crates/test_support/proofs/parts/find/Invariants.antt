-- The invariant of the loop of `test_support::parts::find`.
use Rattle.std.proofs.Common.{ℕ, ◌≡◌, get_or, ◌≤◌, ◌<◌}
use Rattle.test_support.proofs.parts.find.Given as goal

abbrev pub invariant-loop-i : goal.invariant-loop-i
invariant-loop-i l = (k : ℕ) → l.from ≤ k → k < l.i → get_or l.a k 0 ≡ l.x → ⊥
