-- The values of a scheme, as section 'Counting' of document 01 defines them. Definitions only.
use Rattle.std.specs.Prelude.{ℕ, zero, suc, ◌*◌, cond, List, [], ◌∷◌, map, eqb}
use Rattle.std.proofs.Math.Option.{Option, none, some}
use Rattle.word.specs.Lists.{first, one_to}
use Rattle.word.specs.Word.{avoids}
use Rattle.cell.specs.Basis.{same}
use Rattle.cell.specs.Cell.{total, deleted, merged, free}
use Rattle.cell.specs.Child.{slot, child_at, split}
use Rattle.forms.specs.SchemeList.{Does, expands, deletes, EntryList}

-- the entry with the prefix p
unfoldable pub entry_for : List EntryList → List ℕ → Option EntryList
unfolding same
entry_for E p = first (λ e. same p e.prefix) E

-- One step of the recursion; `v` is the value at other prefixes and spacings.
-- "a deleting entry gives the value at its target. An expanding entry with total 0 gives 1 if p
-- avoids all patterns, else 0; with a larger total it gives the sum over every next entry" (01)
unfoldable pub rule_value : (List ℕ → List ℕ → ℕ) → List (List ℕ) → List ℕ → List ℕ → Does → ℕ
unfolding avoids total slot child_at split deleted merged
rule_value v P p g expands =
    cond (eqb (total g) 0) (cond (avoids P p) 1 0) (total (map (λ s. v (child_at p (slot g s)) (split g s)) (one_to (total g))))
rule_value v P p g (deletes R) = v (deleted R p) (merged R p g)

-- "A spacing at or above a listed vector gives 0" (01); a prefix without an entry is never asked
-- for in a well-formed scheme
unfoldable pub entry_value : (List ℕ → List ℕ → ℕ) → List (List ℕ) → Option EntryList → List ℕ → ℕ
unfolding free rule_value
entry_value v P none g = 0
entry_value v P (some e) g = cond (free e.gaps g) (rule_value v P e.prefix g e.rule) 0

-- the value at a prefix and a spacing; the first number bounds the depth of the recursion
unfoldable pub value : ℕ → List (List ℕ) → List EntryList → List ℕ → List ℕ → ℕ
unfolding entry_value entry_for
value zero P E p g = 0
value (suc f) P E p g = entry_value (value f P E) P (entry_for E p) g

-- "eight times the length less the prefix length falls at each cell" (01): a depth of one more is
-- enough. "The count for n is the value at ε with spacing (n)" (01)
unfoldable pub count_of : List (List ℕ) → List EntryList → ℕ → ℕ
unfolding value
count_of P E n = value (suc (8 * n)) P E [] (n ∷ [])
