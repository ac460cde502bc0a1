-- The verdict on a set of patterns and a scheme, as document 01 defines it: by the sizes of cells.
-- What depends on m takes it as an argument, and then has a name for the m of the set. Definitions
-- only.
use Rattle.std.specs.Prelude.{ℕ, Bool, true, false, not, List, [], ◌∷◌, ◌++◌, map, length, eqb, Ok, Err}
use Rattle.std.specs.declared.result.Result.{Result}
use Rattle.word.specs.Lists.{any}
use Rattle.word.specs.Finding.{Finding, clean, fault, first_fault}
use Rattle.word.specs.Told.{Told, told_by}
use Rattle.word.specs.declared.refusal.Refusal.TheVariants.{LiveGap, Irreversible}
use Rattle.cell.specs.Cell.{total, cell, deleted, merged, m_of, compared_to}
use Rattle.forms.specs.SchemeList.{Does, expands, deletes, EntryList}
use Rattle.scheme.specs.WellFormed.{first_at, pattern_tests, scheme_tests}
use Rattle.word.specs.declared.refusal.Refused.{Refused}
use Rattle.forms.specs.SchemeMemory.{Fault, fault_of}

abbrev pub is_empty : List (List ℕ) → Bool
is_empty [] = true
is_empty (w ∷ l) = false

-- "the cell at a gap vector is not empty" (01, refusal 10): "a gap vector is judged by its own cell
-- alone"
unfoldable pub live_gap : List (List ℕ) → List ℕ → List (List ℕ) → Bool
unfolding cell
live_gap P p B = any (λ b. not (is_empty (cell P p b))) B

-- the size of a cell and that of the cell of the shorter prefix and merged spacing differ
unfoldable pub sizes_differ : List (List ℕ) → List ℕ → List ℕ → List ℕ → Bool
unfolding cell deleted merged
sizes_differ P p R g = not (eqb (length (cell P p g)) (length (cell P (deleted R p) (merged R p g))))

-- "some compared sizes differ" (01, refusal 11): "a deletion is judged by comparing sizes for the
-- spacings that are at least no listed vector and have total at most m − 1"
unfoldable pub differs_under : ℕ → List (List ℕ) → List ℕ → List (List ℕ) → Does → Bool
unfolding sizes_differ compared_to
differs_under m P p B expands = false
differs_under m P p B (deletes R) = any (sizes_differ P p R) (compared_to m (length p) B)

-- 10 over all entries, then 11 over all entries
abbrev pub claim_tests_under : ℕ → List (List ℕ) → List EntryList → List Finding
claim_tests_under m P E =
    first_at LiveGap (λ e. live_gap P e.prefix e.gaps) 0 E ∷
    first_at Irreversible (λ e. differs_under m P e.prefix e.gaps e.rule) 0 E ∷ []

-- "the number of compared cells: pairs of a deleting entry and such a spacing" (01)
unfoldable pub compared_with_under : ℕ → List ℕ → List (List ℕ) → Does → ℕ
unfolding compared_to
compared_with_under m p B expands = 0
compared_with_under m p B (deletes R) = length (compared_to m (length p) B)

unfoldable pub compared_cells_under : ℕ → List EntryList → ℕ
unfolding compared_with_under total
compared_cells_under m E = total (map (λ e. compared_with_under m e.prefix e.gaps e.rule) E)

-- "judging and counting test all up to 11"; "patterns are judged before the scheme" (01)
abbrev pub judge_tests_under : ℕ → List (List ℕ) → List EntryList → List Finding
judge_tests_under m P E = pattern_tests P ++ (scheme_tests E ++ claim_tests_under m P E)

-- an acceptance with the number of compared cells, or a refusal with its index
abbrev pub Verdict : Type 0
Verdict = Result ℕ Refused

abbrev pub answered : Fault → ℕ → Verdict
answered (Ok u) n = Ok n
answered (Err e) n = Err e

abbrev pub verdict_under : ℕ → List (List ℕ) → List EntryList → Verdict
verdict_under m P E = answered (fault_of (first_fault (judge_tests_under m P E))) (compared_cells_under m E)

-- All of these with the m of the set: what the engine answers. The verdict under `longest P` is the
-- one before order 3 (SameVerdictLaws).
abbrev pub differs : List (List ℕ) → List ℕ → List (List ℕ) → Does → Bool
differs P p B rule = differs_under (m_of P) P p B rule

abbrev pub claim_tests : List (List ℕ) → List EntryList → List Finding
claim_tests P E = claim_tests_under (m_of P) P E

abbrev pub compared_with : List (List ℕ) → List ℕ → List (List ℕ) → Does → ℕ
compared_with P p B rule = compared_with_under (m_of P) p B rule

abbrev pub compared_cells : List (List ℕ) → List EntryList → ℕ
compared_cells P E = compared_cells_under (m_of P) E

abbrev pub judge_tests : List (List ℕ) → List EntryList → List Finding
judge_tests P E = judge_tests_under (m_of P) P E

abbrev pub verdict_of : List (List ℕ) → List EntryList → Verdict
verdict_of P E = verdict_under (m_of P) P E

-- what a verdict says but for the number of compared cells: acceptance, or the refusal and its
-- index
abbrev pub finding_of : Verdict → Fault
finding_of (Ok n) = Ok tt
finding_of (Err e) = Err e

-- the answer in the numbers of document 01
abbrev pub told_verdict : Verdict → Told
told_verdict (Ok n) = told_by clean (n ∷ [])
told_verdict (Err e) = told_by (fault e.refusal e.index) []

-- "It is accepted for that set if judging the two refuses nothing" (01)
abbrev pub accepted : Verdict → Bool
accepted (Ok n) = true
accepted (Err e) = false
