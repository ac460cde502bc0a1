-- A pattern list in memory has the first fault of the list itself, and where there is none it
-- stands for that list. The laws before those of one pattern hold for any list that memory keeps in
-- part; SchemeLoading uses them too.
use Rattle.std.specs.Prelude.{ℕ, zero, suc, ◌≤◌, ◌<◌, ◌≡◌, refl, ◌⊎◌, Bool, false, not, cond, length, get_or, take, replicate, ltb}
use Rattle.std.proofs.Common.{arith, sym, ap, ap₂, ◌∙◌, inl, inr, ltb-false, lt-ltb, le-ltb}
use mathlib.Core.List.{List, [], ◌∷◌, ◌++◌, map, map-map, Memᴰ}
use Rattle.std.proofs.lemmas.List.{length-map}
use Rattle.word.specs.Ceilings.{DIGITS, PATTERNS}
use Rattle.word.specs.Lists.{row}
use Rattle.word.specs.ListLaws.{below_or_not, length_row}
use Rattle.word.specs.Patterns.{is_pattern}
use Rattle.word.specs.Finding.{Finding, clean, fault, test, first_fault}
use Rattle.word.specs.declared.refusal.Refusal.{Refusal}
use Rattle.word.specs.declared.refusal.Refusal.TheVariants.{Oversize, NoPermutation}
use Rattle.scheme.specs.FindingLaws.{first_out}
use Rattle.scheme.specs.WellFormed.{first_at, first_twin, listed, pattern_tests}
use Rattle.forms.specs.SchemeMemory.{no_pattern, pattern_in, patterns_in}
use Rattle.text_patterns.specs.PatternMemory.{filled, pattern_of, loaded_patterns}
use Rattle.forms.specs.MemoryLaws.{length_padded}

-- places of an array

row_shift : {A : Type 0} (f : ℕ → A) (a n : ℕ) → map f (row (suc a) n) ≡ map (λ i. f (suc i)) (row a n)
row_shift f a zero = refl
row_shift f a (suc n) = ap (λ (l : List _). f (suc a) ∷ l) (row_shift f (suc a) n)

-- what stands at the places of a list, one after the other
pub places_same : {A B : Type 0} (g : ℕ → B) (f : A → B) (d : A) (l : List A) → ((i : ℕ) → i < length l → g i ≡ f (get_or l i d))
    → map g (row 0 (length l)) ≡ map f l
places_same g f d [] h = refl
places_same g f d (x ∷ l) h =
    ap₂ ◌∷◌ (h 0 (omega arith)) (row_shift g 0 (length l) ∙ places_same (λ i. g (suc i)) f d l (λ i k. h (suc i) (omega arith)))

-- an array with room for an element of a list keeps it
pub filled_at : {A : Type 0} (z d : A) (n : ℕ) (l : List A) (i : ℕ) → i < length l → i < n → get_or (filled n z l) i d ≡ get_or l i d
filled_at z d zero l i h k = absurd (omega arith)
filled_at z d (suc n) [] i h k = absurd (omega arith)
filled_at z d (suc n) (x ∷ l) zero h k = refl
filled_at z d (suc n) (x ∷ l) (suc i) h k = filled_at z d n l i (omega arith) (omega arith)

places_filled : {A B : Type 0} (g : A → B) (z d : A) (n : ℕ) (l : List A) → length l ≤ n
    → map (λ i. g (get_or (filled n z l) i d)) (row 0 (length l)) ≡ map g l
places_filled g z d n l h = places_same (λ i. g (get_or (filled n z l) i d)) g d l (λ i k. ap g (filled_at z d n l i k (omega arith)))

-- an array with n places, into which the elements of a list are put and from which as many are
-- taken
module _ {A B C : Type 0} (put : A → B) (taken : B → C) (z d : B) (n : ℕ) (l : List A) where
  pub places_length : length (map (λ i. taken (get_or (filled n z (map put l)) i d)) (row 0 (length l))) ≡ length l
  places_length = length-map (row 0 (length l)) (λ i. taken (get_or (filled n z (map put l)) i d)) ∙ length_row 0 (length l)

  -- with room for the list it keeps each element
  pub places_kept : length l ≤ n → map (λ i. taken (get_or (filled n z (map put l)) i d)) (row 0 (length l)) ≡ map (λ x. taken (put x)) l
  places_kept h =
      ap (λ (m : ℕ). map (λ i. taken (get_or (filled n z (map put l)) i d)) (row 0 m)) (sym (length-map l put))
      ∙ places_filled taken z d n (map put l) (omega (arith, length-map l put)) ∙ map-map taken put l

no_fault : (r : Refusal) (i : ℕ) → fault r i ≡ clean → ⊥
no_fault r i e = let z : ◌≡◌ {A = ℕ} 0 1 = cc in omega arith

-- a list whose elements are kept in part

module _ {A : Type 0} (keeps : A → A) where
  -- a test that each kept element passes where the element does finds the same index
  pub first_kept : (r : Refusal) (f : A → Bool) (i : ℕ) (l : List A) → ((x : A) → Memᴰ x l → f (keeps x) ≡ f x)
      → first_at r f i (map keeps l) ≡ first_at r f i l
  first_kept r f i [] h = refl
  first_kept r f i (x ∷ l) h =
      ap₂ (λ (b : Bool) (g : Finding). cond b (fault r i) g) (h x (Memᴰ.head refl))
      (first_kept r f (suc i) l (λ (y : A) (m : Memᴰ y l). h y (Memᴰ.tail m)))

  pub all_kept : (l : List A) → ((x : A) → Memᴰ x l → keeps x ≡ x) → map keeps l ≡ l
  all_kept [] h = refl
  all_kept (x ∷ l) h =
      ap₂ ◌∷◌ (h x (Memᴰ.head refl)) (all_kept l (λ (y : A) (m : Memᴰ y l). h y (Memᴰ.tail m)))

-- no element of the list is large
abbrev pub NoneLarge : {A : Type 0} → (A → Bool) → List A → Type 0
NoneLarge large l = (x : _) → Memᴰ x l → large x ≡ false

-- a kept element is large where the element is: the test of the number of elements, the test of
-- each, and further tests, which find in a list without large elements what they find in what is
-- kept of it
module _ {A : Type 0} (large : A → Bool) (keeps : A → A) (as-large : (x : A) → large (keeps x) ≡ large x)
    (most : ℕ) (rest : List A → List Finding)
  where
    abbrev sized : List A → List Finding
    sized l = test Oversize (ltb most (length l)) ∷ first_at Oversize large 0 l ∷ rest l

    many_fault : (l : List A) → most < length l → first_fault (sized l) ≡ fault Oversize 0
    many_fault l h = rw (lt-ltb most (length l) h) refl

    sized_fault : (l : List A) (f : Finding) → length l ≤ most → first_at Oversize large 0 l ≡ f
        → first_fault (sized l) ≡ first_fault (f ∷ rest l)
    sized_fault l f h e = rw (le-ltb most (length l) h, e) refl

    -- m is what the memory has of l: as many elements, and those of l where there is room
    module _ (l m : List A) (as_many : length m ≡ length l) (room : length l ≤ most → m ≡ map keeps l) where
      first_large : length l ≤ most → first_at Oversize large 0 m ≡ first_at Oversize large 0 l
      first_large h =
          ap (first_at Oversize large 0) (room h) ∙ first_kept keeps Oversize large 0 l (λ (x : A) (_ : Memᴰ x l). as-large x)

      pub sized_faults : (NoneLarge large l → first_fault (rest (map keeps l)) ≡ first_fault (rest l))
          → first_fault (sized m) ≡ first_fault (sized l)
      sized_faults same = step (below_or_not most (length l))
        where
          within : length l ≤ most → (f : Finding) → first_at Oversize large 0 l ≡ f → first_fault (sized m) ≡ first_fault (sized l)
          within h clean e =
              sized_fault m clean (omega arith) (first_large h ∙ e) ∙ ap (λ (n : List A). first_fault (rest n)) (room h)
              ∙ same (λ (x : A) (i : Memᴰ x l). first_out Oversize large 0 e i) ∙ sym (sized_fault l clean h e)
          within h (fault r i) e =
              sized_fault m (fault r i) (omega arith) (first_large h ∙ e) ∙ sym (sized_fault l (fault r i) h e)

          step : (most < length l) ⊎ (length l ≤ most) → first_fault (sized m) ≡ first_fault (sized l)
          step (inl h) = many_fault m (omega arith) ∙ sym (many_fault l h)
          step (inr h) = within h (first_at Oversize large 0 l) refl

      pub sized_same : (NoneLarge large l → first_fault (rest l) ≡ clean → map keeps l ≡ l) → first_fault (sized l) ≡ clean → m ≡ l
      sized_same same c = step (below_or_not most (length l))
        where
          within : length l ≤ most → (f : Finding) → first_at Oversize large 0 l ≡ f → m ≡ l
          within h clean e =
              room h ∙ same (λ (x : A) (i : Memᴰ x l). first_out Oversize large 0 e i) (sym (sized_fault l clean h e) ∙ c)
          within h (fault r i) e = absurd (no_fault r i (sym (sized_fault l (fault r i) h e) ∙ c))

          step : (most < length l) ⊎ (length l ≤ most) → m ≡ l
          step (inl h) = absurd (no_fault Oversize 0 (sym (many_fault l h) ∙ c))
          step (inr h) = within h (first_at Oversize large 0 l) refl

-- one pattern in memory: its length is true, and up to 8 digits all are there

abbrev kept : List ℕ → List ℕ
kept u = pattern_in (pattern_of u)

length_kept : (u : List ℕ) → length (kept u) ≡ length u
length_kept u = length_padded (length u) (filled DIGITS 0 u)

pub take_filled : (n : ℕ) (u v : List ℕ) → length u ≤ n → take (length u) (filled n 0 u ++ v) ≡ u
take_filled n [] v h = refl
take_filled zero (x ∷ u) v h = absurd (omega arith)
take_filled (suc n) (x ∷ u) v h = ap (λ (l : List ℕ). x ∷ l) (take_filled n u v (omega arith))

kept_same : (u : List ℕ) → length u ≤ DIGITS → kept u ≡ u
kept_same u h = take_filled DIGITS u (replicate (length u) 0) h

-- the patterns in memory: their number is true, and up to PATTERNS all are there

loaded_length : (P : List (List ℕ)) → length (patterns_in (loaded_patterns P)) ≡ length P
unfolding loaded_patterns
loaded_length P = places_length pattern_of pattern_in (pattern_of []) no_pattern PATTERNS P

loaded_kept : (P : List (List ℕ)) → length P ≤ PATTERNS → patterns_in (loaded_patterns P) ≡ map kept P
unfolding loaded_patterns
loaded_kept P h = places_kept pattern_of pattern_in (pattern_of []) no_pattern PATTERNS P h

-- the test of the lengths

abbrev long : List ℕ → Bool
long β = ltb DIGITS (length β)

long_kept : (u : List ℕ) → long (kept u) ≡ long u
long_kept u = ap (ltb DIGITS) (length_kept u)

short_kept : (u : List ℕ) → long u ≡ false → kept u ≡ u
short_kept u e = kept_same u (ltb-false DIGITS (length u) e)

-- the tests after those of the size
abbrev pattern_rest : List (List ℕ) → List Finding
pattern_rest P = first_at NoPermutation (λ β. not (is_pattern β)) 0 P ∷ first_twin listed 0 [] P ∷ []

-- patterns that are not long are kept as they are
none_long : (P : List (List ℕ)) → NoneLarge long P → map kept P ≡ P
none_long P h = all_kept kept P (λ (β : List ℕ) (m : Memᴰ β P). short_kept β (h β m))

-- the first fault of the patterns in memory is that of the list
pub loaded_faults : (P : List (List ℕ)) → first_fault (pattern_tests (patterns_in (loaded_patterns P))) ≡ first_fault (pattern_tests P)
loaded_faults P =
    sized_faults long kept long_kept PATTERNS pattern_rest P (patterns_in (loaded_patterns P)) (loaded_length P) (loaded_kept P)
    (λ h. ap (λ (Q : List (List ℕ)). first_fault (pattern_rest Q)) (none_long P h))

-- a list with no fault is in memory as it is
pub loaded_same : (P : List (List ℕ)) → first_fault (pattern_tests P) ≡ clean → patterns_in (loaded_patterns P) ≡ P
loaded_same P =
    sized_same long kept long_kept PATTERNS pattern_rest P (patterns_in (loaded_patterns P)) (loaded_length P) (loaded_kept P)
    (λ h _. none_long P h)
