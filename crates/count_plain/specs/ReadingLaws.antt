-- The count as the value at the cell of ε.
use Rattle.std.specs.Prelude.{ℕ, ◌+◌, ◌≤◌, ◌≡◌, List, [], ◌∷◌, length, take}
use Rattle.std.proofs.Common.{arith, sym, ap, ap₂, ◌∙◌}
use Rattle.word.specs.Ceilings.{COMPONENTS, PLAIN_LENGTH}
use Rattle.cell.specs.Cell.{total}
use Rattle.forms.specs.SchemeMemory.{scheme_in}
use Rattle.forms.specs.declared.memory.Scheme.{Scheme}
use Rattle.verdict.specs.Truth.{WellFormed, AllTrue}
use Rattle.verdict.specs.Value.{count_of}
use Rattle.verdict.specs.Size.{size}
use Rattle.verdict.specs.ValueLaws.{count_size}
use Rattle.count_plan.specs.Layout.{length_at}
use Rattle.count_plan.specs.LayoutLaws.{prefix_length}
use Rattle.scheme.specs.Proper.{Proper}
use Rattle.count_plan.specs.SheetForm.{SheetTo}
use Rattle.count_plan.specs.SheetRows.{Names, Sheet}
use Rattle.count_plan.proofs.SheetRowLaws.{sheet_of}
use Rattle.count_walk.proofs.SolutionLaws.{sizes_solved}
use Rattle.count_plain.specs.Reading.{CellAt, Evaluates}

-- the cell of ε with spacing (n)
unfoldable pub root_cell_lem : (sheet : List ℕ) (o : Sheet sheet) (e n : ℕ) (g : List ℕ) → Names o.s [] e →
    n ≤ PLAIN_LENGTH → length g ≡ COMPONENTS →
    take 1 g ≡ n ∷ [] → CellAt sheet e g n
unfolding total
root_cell_lem sheet o e n g names h seven q =
    let z : length_at o.s e ≡ 0 = sym (prefix_length o.s e) ∙ ap length names.named in
    let w : total (take (length_at o.s e + 1) g) ≡ total (n ∷ []) = ap (λ m. total (take (m + 1) g)) z ∙ ap total q in
    record { of = o; inside = names.inside; seven = seven; whole = w ∙ (omega arith); fits = omega (arith, z) }

pub root_value_lem : (sheet : List ℕ) (o : Sheet sheet) (e n : ℕ) (g : List ℕ) → Names o.s [] e → n ≤ PLAIN_LENGTH → length g ≡ COMPONENTS →
    take 1 g ≡ n ∷ [] →
    WellFormed o.P (scheme_in o.s) → AllTrue o.P (scheme_in o.s) → (x : ℕ) → Evaluates sheet e g n x → x ≡
    count_of o.P (scheme_in o.s) n
unfolding root_cell_lem
root_value_lem sheet o e n g names h seven q formed truth x ev =
    let z : length_at o.s e ≡ 0 = sym (prefix_length o.s e) ∙ ap length names.named in
    ev (root_cell_lem sheet o e n g names h seven q) (size o.P) (sizes_solved o.P o.s formed truth) ∙
    ap₂ (size o.P) names.named (ap (λ m. take (m + 1) g) z ∙ q) ∙ sym (count_size o.P (scheme_in o.s) formed truth n)

-- the same for the sheet of a scheme
module _ (P : List (List ℕ)) (s : Scheme) (sheet : List ℕ) (proper : Proper (scheme_in s))
    (t : SheetTo P s s.count sheet) (e n : ℕ) (g : List ℕ)
    (names : Names s [] e) (h : n ≤ PLAIN_LENGTH) (seven : length g ≡ COMPONENTS) (q : take 1 g ≡ n ∷ []) where
  pub counted_cell : CellAt sheet e g n
  counted_cell = root_cell_lem sheet (sheet_of P s sheet proper t) e n g names h seven q

  pub counted_value : WellFormed P (scheme_in s) → AllTrue P (scheme_in s) → (x : ℕ) → Evaluates sheet e g n x →
      x ≡ count_of P (scheme_in s) n
  counted_value formed truth x ev = root_value_lem sheet (sheet_of P s sheet proper t) e n g names h seven q formed truth x ev
