-- `successor::least::in_a_row` meets its contract: the first i entries are 1 to i.
-- Assumes nothing.
use Prim.Native.Nat.{ℕ, suc, ◌+◌, ◌<◌}
use mathlib.Core.Path.{◌≡◌, refl, sym, ap, ap₂, ◌∙◌}
use mathlib.Core.List.{List, [], ◌∷◌, ◌++◌}
use native.Mathlib.Omega.{arith}
use native.Mathlib.Numerals.{add-one}
use lib.ListN.{length, length-set}
use lib.Seq.{take_all, take-suc-set}
use Rattle.word.specs.Ceilings.{WORD}
use Rattle.word.specs.Lists.{one_to}
use Rattle.successor.specs.WordLaws.{row_more}
use Rattle.successor.proofs.least.in_a_row.Goals as goal

pub loop-i-init : goal.loop-i-init
loop-i-init c = (refl, refl)

pub loop-i-preserved : goal.loop-i-preserved
loop-i-preserved c =
    let l = c.loop-i in
    let room : l.i < length l.word = omega (arith, l.invariant.1) in (
      rw (add-one l.i) (take-suc-set l.word l.i (suc l.i) room ∙
          ap₂ (λ (t : List ℕ) (x : ℕ). t ++ (x ∷ [])) l.invariant.0 (omega arith) ∙ sym (row_more 1 l.i)),
      length-set l.word l.i (l.i + 1) ∙ l.invariant.1,
    )

pub returns : goal.returns
returns c =
    let l = c.loop-i in
    let all : l.i ≡ WORD = omega arith in
    sym (take_all l.i l.word (omega (arith, l.invariant.1))) ∙ l.invariant.0 ∙ ap one_to all
