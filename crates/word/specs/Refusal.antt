-- The number of each refusal in the table of document 01, and in the orders of document 02.
use Rattle.std.specs.Prelude.{ℕ}
use Rattle.word.specs.declared.refusal.Refusal.{Refusal}
use Rattle.word.specs.declared.refusal.Refused.{Refused}
use Rattle.word.specs.declared.refusal.Refusal.TheVariants.{Misspelt, Oversize, NoPermutation, Repeated}
use Rattle.word.specs.declared.refusal.Refusal.TheVariants.{Rootless, Width, NoPosition, Childless}
use Rattle.word.specs.declared.refusal.Refusal.TheVariants.{NoTarget, LiveGap, Irreversible, ShortTable}
use Rattle.word.specs.declared.refusal.Refusal.TheVariants.{ShortPage, NoAvoider}

abbrev pub number_of : Refusal → ℕ
number_of Misspelt = 1
number_of Oversize = 2
number_of NoPermutation = 3
number_of Repeated = 4
number_of Rootless = 5
number_of Width = 6
number_of NoPosition = 7
number_of Childless = 8
number_of NoTarget = 9
number_of LiveGap = 10
number_of Irreversible = 11
number_of ShortTable = 12
number_of ShortPage = 13
number_of NoAvoider = 14

-- a refusal with the index of the item at fault
abbrev pub refused_at : Refusal → ℕ → Refused
refused_at r i = record { refusal = r; index = i }
