-- Pattern lists and scheme lists of any size, as the notation spells them. Definitions only.
use Rattle.std.specs.Prelude.{ℕ, List}

-- what an entry does: it expands, or it deletes positions together; "The entry's rule holds such a
-- set, written ascending" (02, order 4)
pub data Does : Type 0 where
  expands : Does
  deletes : List ℕ → Does

-- "An entry is a prefix, a set of gap vectors, and a rule" (01)
pub record EntryList : Type 0 where
  pub prefix : List ℕ
  pub gaps : List (List ℕ)
  pub rule : Does
