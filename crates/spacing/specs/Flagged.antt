-- Values that are flagged in a list which is indexed by values. Definitions only.
use Rattle.std.specs.Prelude.{ℕ, not, List, get_or, eqb}
use Rattle.word.specs.Lists.{keep, one_to}

-- those of the values 1 to k at which the list is not 0
abbrev pub flagged : List ℕ → ℕ → List ℕ
flagged l k = keep (λ v. not (eqb (get_or l v 0) 0)) (one_to k)
