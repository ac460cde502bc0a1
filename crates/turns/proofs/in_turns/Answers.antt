-- `turns::in_turns` meets its contract: a turn that decides is right, and the last has no budget,
-- so it decides.
-- Assumes nothing.
use lib.ListN.{take}
use Rattle.forms.specs.SetMemory.{held_in}
use Rattle.arrangement.specs.SearchingLaws.{yes_decides}
use Rattle.turns.proofs.in_turns.Goals as goal

pub returns-in-Completed : goal.returns-in-Completed
returns-in-Completed c =
    let a = c.args in
    yes_decides (held_in a.patterns.now) a.start.n (take a.start.len a.start.up) c.in-Completed.word c.one_turn.result
    c.one_turn.ensures c.in-Completed.is

pub returns-in-Completed-insertion_search : goal.returns-in-Completed-insertion_search
returns-in-Completed-insertion_search c =
    let a = c.args in
    yes_decides (held_in a.patterns.now) a.start.n (take a.start.len a.start.up) c.in-Completed-insertion_search.word
    c.insertion_search.result (rw c.requires.same_front at c.insertion_search.ensures.0) c.in-Completed-insertion_search.is
