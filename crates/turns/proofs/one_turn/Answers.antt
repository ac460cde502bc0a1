-- `turns::one_turn` meets its contract: what each search says is right, and both words have the
-- same given entries.
-- Assumes nothing.
use Rattle.turns.proofs.one_turn.Goals as goal

pub returns-then-is_decided-2 : goal.returns-then-is_decided-2
returns-then-is_decided-2 c = rw c.requires.same_front at c.insertion_search-second.ensures.0
