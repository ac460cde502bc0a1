-- How many words a search may still try: a number, or None for no end. Definitions only.
use Rattle.std.specs.Prelude.{ℕ, ◌-◌, Bool, false, eqb, Option, None, Some}

-- the budget when one word of it was tried: a number falls by one and stays at 0, and what has no
-- end has none afterwards
abbrev pub less_one : Option ℕ → Option ℕ
less_one None = None
less_one (Some words) = Some (words - 1)

-- no word may be tried any more
abbrev pub spent : Option ℕ → Bool
spent None = false
spent (Some words) = eqb words 0
