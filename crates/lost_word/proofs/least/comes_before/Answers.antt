-- `lost_word::least::comes_before` meets its contract: std's order of slices is the lexicographic
-- order.
-- Assumes nothing.
use Rattle.std.proofs.Common.{ℕ, ◌≡◌, ◌≤◌, ◌<◌, ◌⊎◌, inl, inr, refl, arith, List, [], ◌∷◌, Some, lt-ltb, le-ltb, eq-eqb, ne_eqb, ◌∙◌}
use Rattle.std.specs.Ordering.{nat_cmp, is_lt, is_some_and}
use Rattle.std.specs.declared.cmp.Ordering.TheVariants.{Less, Equal, Greater}
use Rattle.std.specs.Cmp.{nat_cmp_is}
use Rattle.std.specs.Cmp.Lexicographic.{slice_partial_cmp}
use Rattle.word.specs.ListLaws.{below_or_not, same_or_not}
use Rattle.word.specs.Word.{before}
use Rattle.lost_word.proofs.least.comes_before.Goals as goal

below : (a b : List ℕ) → is_some_and is_lt (slice_partial_cmp (λ x y. Some (nat_cmp x y)) a b) ≡ before a b
unfolding before
below [] [] = refl
below [] (y ∷ b) = refl
below (x ∷ a) [] = refl
below (x ∷ a) (y ∷ b) = go (below a b) (same_or_not x y) (below_or_not x y)
  where
    go : is_some_and is_lt (slice_partial_cmp (λ x y. Some (nat_cmp x y)) a b) ≡ before a b → (x ≡ y) ⊎ (x ≡ y → ⊥) → (x < y) ⊎ (y ≤ x) →
        is_some_and is_lt (slice_partial_cmp (λ x y. Some (nat_cmp x y)) (x ∷ a) (y ∷ b)) ≡ before (x ∷ a) (y ∷ b)
    go ih (inl q) o = let low : y ≤ x = omega arith in rw (← nat_cmp_is x y Equal q, le-ltb x y low, eq-eqb x y q) ih
    go ih (inr n) (inl l) = rw (← nat_cmp_is x y Less l, lt-ltb x y l) refl
    go ih (inr n) (inr l) = let g : y < x = omega arith in rw (← nat_cmp_is x y Greater g, le-ltb x y l, ne_eqb x y n) refl

pub returns : goal.returns
returns c = c.lt.ensures ∙ below c.args.a.now c.args.b.now
