-- Figures that are added to others. Definitions only.
use Rattle.std.specs.Prelude.{ℕ, ◌+◌, ◌≡◌, List, get_or}
use Rattle.count_step.specs.Step.{capped}

-- To each figure f of its index is added: where the figure was a sum z with the cap, it is then the
-- sum of z and this.
abbrev pub Adds : List ℕ → List ℕ → (ℕ → ℕ) → Type 0
Adds before after f = (q z : ℕ) → get_or before q 0 ≡ capped z → get_or after q 0 ≡ capped (z + f q)
