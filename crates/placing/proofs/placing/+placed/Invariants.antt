-- The measure of `placed` is what is left of the prefix; the loop keeps what placing comes to.
use Rattle.std.proofs.Common.{◌≡◌, ◌-◌, length}
use Rattle.placing.specs.Lookup.{entry_of, flagged}
use Rattle.placing.proofs.PlacingState.{state}
use Rattle.placing.proofs.placing.+placed.Given as goal

abbrev pub decreases-placed : goal.decreases-placed
decreases-placed l = length l.prefix.now - l.state.from

abbrev pub invariant-loop-j : goal.invariant-loop-j
invariant-loop-j l =
    state (entry_of l.tables.need) (entry_of l.tables.levels) (flagged l.gone) l.head l.prefix l.used l.chosen l.s l.initial.j ≡
    state (entry_of l.tables.need) (entry_of l.tables.levels) (flagged l.gone) l.head l.prefix l.used l.chosen l.s l.j
