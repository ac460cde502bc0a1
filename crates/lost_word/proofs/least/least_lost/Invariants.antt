-- The invariant of the loop of `lost_word::least::least_lost`.
use Rattle.std.proofs.Common.{take}
use Rattle.forms.specs.SetMemory.{held_in}
use Rattle.lost_word.specs.Shown.{IsShort}
use Rattle.lost_word.proofs.LeastWalk.{Kept}
use Rattle.lost_word.proofs.least.least_lost.Given as goal

abbrev pub invariant-loop-i : goal.invariant-loop-i
invariant-loop-i l = IsShort l.best × Kept (held_in l.patterns) l.needs (take l.spot.length l.spot.prefix) l.spot.gone l.spot.levels
    l.spot.total l.best l.i
