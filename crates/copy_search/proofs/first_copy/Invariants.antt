-- The invariant and the measure of the loop of `copy_search::first_copy`.
use Prim.Native.Nat.{◌-◌, ◌≤◌}
use mathlib.Core.Path.{◌≡◌}
use lib.ListN.{length, get_or, take, drop}
use Rattle.word.specs.Vocabulary.{fits}
use Rattle.copy_search.proofs.Search.{Walk, weight}
use Rattle.copy_search.proofs.first_copy.Given as goal

abbrev pub invariant-pairs : goal.invariant-pairs
invariant-pairs l =
    fits (take l.d l.pattern) (get_or l.pattern l.d 0) (take l.d l.entries) l.x ≡
    fits (drop l.j (take l.d l.pattern)) (get_or l.pattern l.d 0) (drop l.j (take l.d l.entries)) l.x

abbrev pub invariant-positions : goal.invariant-positions
invariant-positions l = Walk (take 8 l.pattern) l.w l.k l.at l.entries l.d l.i ×
    (weight l.k (length l.w) l.at l.d l.i ≤ weight l.k (length l.w) l.initial.at l.initial.d l.initial.i)

abbrev pub decreases-positions : goal.decreases-positions
decreases-positions l = length l.w - l.i

abbrev pub invariant-copy : goal.invariant-copy
invariant-copy l = Walk (take 8 l.pattern) l.w l.k l.at l.entries l.d l.i

abbrev pub decreases-copy : goal.decreases-copy
decreases-copy l = weight l.k (length l.w) l.at l.d l.i
