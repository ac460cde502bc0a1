-- `turns::completed` meets its contract: both words are rearranged behind the given entries.
-- Assumes nothing.
use Rattle.turns.proofs.completed.Goals as goal

pub in_turns-requires : goal.in_turns-requires
in_turns-requires c =
    let up = c.rising_behind-up.ensures in
    let down = c.turned_behind-down.ensures in
    let rising = up.perm c.requires.2 in
    record {
      given = c.requires.0;
      small = c.requires.1;
      rising = rising;
      falling = down.perm rising;
      same_front = down.front;
      shortest = record {
        rising = c.shortest_rising-rises.ensures.0;
        falling = c.shortest_falling-falls.ensures.0;
        rises_fit = c.shortest_rising-rises.ensures.1;
        falls_fit = c.shortest_falling-falls.ensures.1;
      };
    }

pub returns : goal.returns
returns c = rw c.rising_behind-up.ensures.front at c.in_turns.ensures
