-- What a search for a completion says, taken apart. Definitions only.
use Rattle.std.specs.Prelude.{ℕ, Bool, true, false, List, []}
use Rattle.arrangement.specs.declared.searched.Searched.{Searched}
use Rattle.arrangement.specs.declared.searched.Searched.TheVariants.{Completed, Impossible, Undecided}

-- yes, there is a completion
abbrev pub said_yes : Searched → Bool
said_yes (Completed w) = true
said_yes (Impossible left) = false
said_yes Undecided = false

-- no, there is none
abbrev pub said_no : Searched → Bool
said_no (Completed w) = false
said_no (Impossible left) = true
said_no Undecided = false

-- the completion
abbrev pub word_in : Searched → List ℕ
word_in (Completed w) = w
word_in (Impossible left) = []
word_in Undecided = []
