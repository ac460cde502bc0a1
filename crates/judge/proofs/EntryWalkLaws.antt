-- The tests of one entry as the loops over entries cite them, and the compared cells of the entries
-- from a place on.
-- Assumes nothing.
use Prim.Native.Nat.{ℕ, ◌+◌, ◌≤◌, ◌<◌}
use native.Mathlib.Omega.{arith}
use mathlib.Core.Path.{◌≡◌, ap, ◌∙◌}
use mathlib.Core.Bool.{Bool}
use mathlib.Core.List.{List, map}
use Rattle.cell.specs.Cell.{total}
use Rattle.forms.specs.SchemeList.{EntryList}
use Rattle.forms.specs.SchemeMemory.{scheme_in}
use Rattle.scheme.specs.TestLaws.{from, from_start, from_cons, from_end}
use Rattle.forms.specs.declared.memory.Scheme.{Scheme}
use Rattle.forms.specs.SchemeMemory.{entry_at}
use Rattle.verdict.specs.Verdict.{live_gap, differs_under, compared_with_under, compared_cells_under}

-- the tests 10 and 11 of one entry
abbrev pub live_entry : List (List ℕ) → EntryList → Bool
live_entry P e = live_gap P e.prefix e.gaps

abbrev pub differing_entry : ℕ → List (List ℕ) → EntryList → Bool
differing_entry m P e = differs_under m P e.prefix e.gaps e.rule

-- the compared cells of one entry, and of the entries from place i on
abbrev cells_with : ℕ → EntryList → ℕ
cells_with m e = compared_with_under m e.prefix e.gaps e.rule

unfoldable pub cells_from : ℕ → Scheme → ℕ → ℕ → ℕ
unfolding total
cells_from m s n i = total (map (cells_with m) (from (entry_at s) n i))

pub cells_start : (m : ℕ) (s : Scheme) → compared_cells_under m (scheme_in s) ≡ 0 + cells_from m s s.count 0
unfolding compared_cells_under cells_from
cells_start m s = ap (λ (l : List EntryList). total (map (cells_with m) l)) (from_start (entry_at s) s.count) ∙ omega arith

pub cells_next : (m : ℕ) (s : Scheme) (i sum r : ℕ) → i < s.count → compared_cells_under m (scheme_in s) ≡
    sum + cells_from m s s.count i →
    r ≡ cells_with m (entry_at s i) → compared_cells_under m (scheme_in s) ≡ (sum + r) + cells_from m s s.count (i + 1)
unfolding cells_from
cells_next m s i sum r h e q =
    let step : total (map (cells_with m) (from (entry_at s) s.count i)) ≡
    cells_with m (entry_at s i) + total (map (cells_with m) (from (entry_at s) s.count (i + 1))) =
    ap (λ (l : List EntryList). total (map (cells_with m) l)) (from_cons (entry_at s) s.count i h) in
    omega (arith, e, step, q)

pub cells_end : (m : ℕ) (s : Scheme) (i sum : ℕ) → s.count ≤ i → sum + cells_from m s s.count i ≡ sum
unfolding cells_from
cells_end m s i sum h =
    let none : total (map (cells_with m) (from (entry_at s) s.count i)) ≡ 0 =
    ap (λ (l : List EntryList). total (map (cells_with m) l)) (from_end (entry_at s) s.count i h) in
    omega (arith, none)
