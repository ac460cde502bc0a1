-- A cell is not empty exactly if its first entries can be completed to an avoider.
use Rattle.std.specs.Prelude.{ℕ, suc, ◌+◌, ◌≡◌, refl, true, not, length, take}
use Rattle.std.proofs.Common.{sym, ap, ap₂, ◌∙◌, take_at}
use mathlib.Core.List.Memᴰ
use mathlib.Core.List.{List, [], ◌∷◌, ◌++◌, map, Memᴰ}
use Rattle.std.proofs.lemmas.List.{length-map}
use Rattle.word.specs.Word.{avoids, reduce, is_perm}
use Rattle.word.specs.ListLaws.{true_not_false, same_test}
use Rattle.cell.specs.Cell.{total, spacing, cell}
use Rattle.cell.specs.Built.{val, lift, built}
use Rattle.cell.proofs.BuiltWords.{built_reduces, built_spacing}
use Rattle.cell.proofs.BuiltCells.{cell_are, cell_all, cell_out}
use Rattle.completion.specs.Completion.{completable}
use Rattle.completion.specs.CompletionLaws.{completable_out, completable_in}
use Rattle.verdict.specs.Verdict.{is_empty}

-- a list that is not empty has a member, and one with a member is not empty
some_member : (l : List (List ℕ)) → not (is_empty l) ≡ true → (w : List ℕ) × Memᴰ w l
some_member [] e = absurd (true_not_false (sym e))
some_member (w ∷ l) e = (w, Memᴰ.head refl)

member_some : {w : List ℕ} (l : List (List ℕ)) → Memᴰ w l → not (is_empty l) ≡ true
member_some [] m = absurd (Memᴰ.not-nil m)
member_some (w ∷ l) m = refl

pub completable_live : (P : List (List ℕ)) (p b : List ℕ) → is_perm p ≡ true → length b ≡ suc (length p) →
    completable P (length p + total b) (map (val b) p) ≡ not (is_empty (cell P p b))
unfolding built
completable_live P p b perm size = same_test (completable P (length p + total b) (map (val b) p)) (not (is_empty (cell P p b))) there back
  where
    there : completable P (length p + total b) (map (val b) p) ≡ true → not (is_empty (cell P p b)) ≡ true
    there e =
        let (r, rp, rl, ra) = completable_out P (length p + total b) (map (val b) p) e in
        let front : take (length p) (map (val b) p ++ r) ≡ map (val b) p = take_at (map (val b) p) r (length p) (length-map p (val b)) in
        member_some (cell P p b)
        (cell_all P p b (map (val b) p ++ r)
        (record {
          perm = rp;
          size = rl;
          avoiding = ra;
          prefix = ap reduce front ∙ built_reduces p b perm;
          spaced = ap₂ spacing rl front ∙ built_spacing p b perm size;
        }))

    back : not (is_empty (cell P p b)) ≡ true → completable P (length p + total b) (map (val b) p) ≡ true
    back e =
        let (w, m) = some_member (cell P p b) e in
        let (σ, s, a, q) = cell_out P p b m in
        let i = cell_are P p b m in
        completable_in P (length p + total b) (map (val b) p) (map (lift b) σ) (ap is_perm (sym q) ∙ i.perm) (ap length (sym q) ∙ i.size)
        (ap (avoids P) (sym q) ∙ i.avoiding)
