-- `count_entry::frame::frame_of` meets its contract.
-- Assumes nothing.
use Prim.Native.Nat.{ℕ}
use mathlib.Core.Path.{ap}
use Rattle.count_entry.proofs.frame.frame_of.Goals as goal

pub returns : goal.returns
returns c =
    let a = c.args in
    ap (λ (w : ℕ). record { last = a.n; width = w; rows = a.rows; entries = a.entries }) c.place_at.ensures
