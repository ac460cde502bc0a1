-- Which cells feed a cell, apart from what is done with them. Definitions only.
use Rattle.std.specs.Prelude.{ℕ, ◌+◌, ◌-◌, cond, List, [], ◌∷◌, map, get_or, eqb}
use Rattle.word.specs.Lists.{one_to}
use Rattle.cell.specs.Cell.{total, free, deleted, merged, merge_values}
use Rattle.cell.specs.Child.{slot, child_at, split}
use Rattle.spacing.specs.Rank.{rank_of}
use Rattle.forms.specs.SchemeList.{Does, expands, deletes, EntryList}

-- What a cell is made from: from nothing, where a gap vector covers its spacing; from its prefix
-- alone, where no entry follows it; from the cell of its target; from the cells of its children,
-- one for each next entry, in the order of the next entries.
pub data Feed (A : Type 0) : Type 0 where
  covered : Feed A
  alone : Feed A
  target : A → Feed A
  children : List A → Feed A

module _ {A B : Type 0} where
  -- f of each of the cells
  abbrev pub map_feed : (A → B) → Feed A → Feed B
  map_feed f covered = covered
  map_feed f alone = alone
  map_feed f (target x) = target (f x)
  map_feed f (children l) = children (map f l)

-- the cells, as a list
abbrev pub fed : {A : Type 0} → Feed A → List A
fed covered = []
fed alone = []
fed (target x) = x ∷ []
fed (children l) = l

-- a cell: a prefix and a spacing
pub record CellOf : Type 0 where
  pub prefix : List ℕ
  pub spacing : List ℕ

-- "a deleting entry gives the value at its target. An expanding entry with total 0 gives 1 if p
-- avoids all patterns, else 0; with a larger total it gives the sum over every next entry" (01)
abbrev pub rule_feed : List ℕ → List ℕ → Does → Feed CellOf
rule_feed p g expands =
    cond (eqb (total g) 0) alone (children (map (λ q. record { prefix = child_at p (slot g q); spacing = split g q }) (one_to (total g))))
rule_feed p g (deletes R) = target (record { prefix = deleted R p; spacing = merged R p g })

-- what feeds the cell at the spacing g of an entry; "A spacing at or above a listed vector gives 0"
-- (01)
unfoldable pub feed_of : EntryList → List ℕ → Feed CellOf
feed_of e g = cond (free e.gaps g) (rule_feed e.prefix g e.rule) covered

-- where the cells of the children stand: the child whose last entry is a + 1 has its cells from
-- `links` a on, in the order of their ranks
abbrev pub child_places : List ℕ → List ℕ → List ℕ
child_places links g = map (λ q. get_or links (slot g q - 1) 0 + rank_of (split g q)) (one_to (total g))

-- The places that a step reads for the spacing g of an entry with the gap vectors B: n is the
-- number of positions that the entry deletes, or 0 where it expands, and vs are the values there;
-- the target has its cells from `links` 0 on.
unfoldable pub reads_of : List (List ℕ) → ℕ → List ℕ → List ℕ → List ℕ → Feed ℕ
reads_of B n vs links g =
    cond (free B g)
    (cond (eqb n 0) (cond (eqb (total g) 0) alone (children (child_places links g)))
    (target (get_or links 0 0 + rank_of (merge_values vs g))))
    covered
