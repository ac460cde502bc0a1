-- "Schemes with single positions keep their texts, counts and need" (02, order 4): a set of one
-- position is refused, merges and counts as document 01 says of that position. Of what it deletes
-- that is scheme/DeletedLaws.deleted_one, of the text text_grammar/SpellingLaws.single_text, of the
-- need count_plan/SingleLaws.single_need.
use Rattle.std.specs.Prelude.{ℕ, zero, suc, ◌+◌, ◌-◌, ◌≤◌, ◌<◌, ◌≡◌, refl, Bool, true, false, ◌||◌, List, [], ◌∷◌, ◌++◌, length, get_or}
use Rattle.std.specs.Prelude.{take, drop, ltb, eqb}
use Rattle.std.proofs.Common.{arith, ap, ◌∙◌, eq-eqb, ne_eqb}
use Rattle.std.proofs.lemmas.Bool.{lt-leb}
use Rattle.word.specs.Word.{has, entry}
use Rattle.cell.specs.Cell.{deleted, merged, merge_from, merge_values}
use Rattle.forms.specs.SchemeList.{deletes}
use Rattle.scheme.specs.WellFormed.{outside}
use Rattle.verdict.specs.Value.{rule_value}

-- "deletion outside 1 to k" (01)
pub single_outside : (k r : ℕ) → outside k (deletes (r ∷ [])) ≡ eqb r 0 || ltb k r
single_outside k zero = refl
single_outside k (suc r) =
    rw (lt-leb (suc r) 0 (omega arith), ne_eqb (suc r) 0 (λ (e : suc r ≡ 0). omega arith)) (none (ltb k (suc r)))
  where
    none : (b : Bool) → b || false ≡ b
    none true = refl
    none false = refl

-- "In g, counting from 0, the components v − 1 and v are added into one" (01)

-- no later value is v
merge_later : (v u x : ℕ) (g : List ℕ) → v < u → merge_from (v ∷ []) u x g ≡ x ∷ g
unfolding merge_from has
merge_later v u x [] h = refl
merge_later v u x (y ∷ g) h = rw (ne_eqb u v (λ (e : u ≡ v). omega arith))
    (ap (λ (l : List ℕ). x ∷ l) (merge_later v (suc u) y g (omega arith)))

merge_from_lem : (v u m x : ℕ) (g : List ℕ) → v ≡ u + m → m < length g →
    merge_from (v ∷ []) u x g ≡ take m (x ∷ g) ++ ((get_or (x ∷ g) m 0 + get_or (x ∷ g) (suc m) 0) ∷ drop (suc (suc m)) (x ∷ g))
unfolding merge_from has
merge_from_lem v u m x [] e h = absurd (omega arith)
merge_from_lem v u zero x (y ∷ g) e h = rw (eq-eqb u v (omega arith)) (merge_later v (suc u) (x + y) g (omega arith))
merge_from_lem v u (suc m) x (y ∷ g) e h =
    rw (ne_eqb u v (λ (q : u ≡ v). omega arith)) (ap (λ (l : List ℕ). x ∷ l) (merge_from_lem v (suc u) m y g (omega arith) (omega arith)))

pub single_merged : (r : ℕ) (p g : List ℕ) → 1 ≤ entry p r → entry p r < length g →
    merged (r ∷ []) p g ≡
    take (entry p r - 1) g ++ ((get_or g (entry p r - 1) 0 + get_or g (entry p r) 0) ∷ drop (suc (entry p r)) g)
unfolding merged merge_values
single_merged r p [] l h = absurd (omega arith)
single_merged r p (x ∷ g) l h =
    let v = entry p r in
    let q : suc (entry p r - 1) ≡ entry p r = omega arith in
    merge_from_lem (entry p r) 1 (entry p r - 1) x g (omega arith) (omega arith) ∙
    ap (λ n. take (entry p r - 1) (x ∷ g) ++ ((get_or (x ∷ g) (entry p r - 1) 0 + get_or (x ∷ g) n 0) ∷ drop (suc n) (x ∷ g))) q

-- "a deleting entry gives the value at its target" (01)
pub single_value : (v : List ℕ → List ℕ → ℕ) (P : List (List ℕ)) (p g : List ℕ) (r : ℕ) →
    rule_value v P p g (deletes (r ∷ [])) ≡ v (deleted (r ∷ []) p) (merged (r ∷ []) p g)
unfolding rule_value
single_value v P p g r = refl
