-- The tests over lists in the words of std: what its methods answer.
-- Assumes nothing.
use Rattle.std.specs.Prelude.{ℕ, ◌≡◌, refl, Bool, ◌||◌, ◌&&◌, List, [], ◌∷◌, eqb}
use Rattle.std.proofs.Common.{ap, ap₂, ◌∙◌, sym, eq-eqb, eqb-true}
use Rattle.std.specs.List.{list_any, list_all}
use Rattle.word.specs.Lists.{all, any}
use Rattle.word.specs.ListLaws.{same_test}
use Rattle.word.specs.Word.{has}

pub any_list : {A : Type 0} (f : A → Bool) (l : List A) → any f l ≡ list_any f l
any_list f [] = refl
any_list f (x ∷ l) = ap (λ (r : Bool). f x || r) (any_list f l)

pub all_list : {A : Type 0} (f : A → Bool) (l : List A) → all f l ≡ list_all f l
all_list f [] = refl
all_list f (x ∷ l) = ap (λ (r : Bool). f x && r) (all_list f l)

swapped : (x y : ℕ) → eqb x y ≡ eqb y x
swapped x y = same_test (eqb x y) (eqb y x) (λ e. eq-eqb y x (sym (eqb-true x y e))) (λ e. eq-eqb x y (sym (eqb-true y x e)))

-- `contains` of a slice
pub has_list : (x : ℕ) (l : List ℕ) → has x l ≡ list_any (λ y. eqb y x) l
unfolding has
has_list x [] = refl
has_list x (y ∷ l) = ap₂ (λ (a b : Bool). a || b) (swapped x y) (any_list (eqb x) l ∙ under l)
  where
    under : (l : List ℕ) → list_any (eqb x) l ≡ list_any (λ y. eqb y x) l
    under [] = refl
    under (z ∷ l) = ap₂ (λ (a b : Bool). a || b) (swapped x z) (under l)
