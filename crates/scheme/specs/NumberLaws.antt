-- The tests 2 to 9 find numbers up to 9, so that a finding with a greater number says that they
-- find nothing.
use Rattle.std.specs.Prelude.{ℕ, suc, ◌≤◌, ◌<◌, ◌≡◌, refl, Bool, true, false, not, cond, List, [], ◌∷◌, ◌++◌, length, ltb}
use Rattle.std.proofs.Common.{arith}
use Rattle.word.specs.Ceilings.{PATTERNS, ENTRIES}
use Rattle.word.specs.Refusal.{number_of}
use Rattle.word.specs.Finding.{Finding, clean, fault, test, first_fault}
use Rattle.word.specs.declared.refusal.Refusal.{Refusal}
use Rattle.word.specs.declared.refusal.Refusal.TheVariants.{Oversize, NoPermutation, Repeated, Rootless, Width}
use Rattle.word.specs.declared.refusal.Refusal.TheVariants.{NoPosition, Childless, NoTarget}
use Rattle.forms.specs.SchemeList.{EntryList}
use Rattle.scheme.specs.WellFormed.{first_at, first_twin, listed, twin_entry, prefixes, pattern_tests, scheme_tests}
use Rattle.scheme.specs.FindingLaws.{clean_append, fault_append}

-- the number of a finding, 0 for none
abbrev pub number_found : Finding → ℕ
number_found clean = 0
number_found (fault r i) = number_of r

-- numbers of at most n
abbrev Below : ℕ → List Finding → Type 0
Below n [] = Unit {0}
Below n (x ∷ l) = (number_found x ≤ n) × Below n l

-- the first of several findings has a number as small as theirs
first_number : (n : ℕ) (l : List Finding) → Below n l → number_found (first_fault l) ≤ n
first_number n [] h = omega arith
first_number n (clean ∷ l) h = first_number n l h.1
first_number n (fault r i ∷ l) h = h.0

test_number : (r : Refusal) (b : Bool) → number_found (test r b) ≤ number_of r
test_number r true = omega arith
test_number r false = omega arith

pub at_number : {A : Type 0} (r : Refusal) (f : A → Bool) (i : ℕ) (l : List A) → number_found (first_at r f i l) ≤ number_of r
at_number r f i [] = omega arith
at_number r f i (x ∷ l) = go (f x) (at_number r f (suc i) l)
  where
    go : (b : Bool) → number_found (first_at r f (suc i) l) ≤ number_of r →
        number_found (cond b (fault r i) (first_at r f (suc i) l)) ≤ number_of r
    go true below = omega arith
    go false below = below

twin_number : {A : Type 0} (twin : List A → A → Bool) (i : ℕ) (seen l : List A) → number_found (first_twin twin i seen l) ≤ 4
twin_number twin i seen [] = omega arith
twin_number twin i seen (x ∷ l) = go (twin seen x) (twin_number twin (suc i) (x ∷ seen) l)
  where
    go : (b : Bool) → number_found (first_twin twin (suc i) (x ∷ seen) l) ≤ 4 →
        number_found (cond b (fault Repeated i)
        (first_twin twin (suc i) (x ∷ seen) l)) ≤ 4
    go true below = omega arith
    go false below = below

at_nine : {A : Type 0} (r : Refusal) (f : A → Bool) (l : List A) → number_of r ≤ 9 → number_found (first_at r f 0 l) ≤ 9
at_nine r f l h = let low = at_number r f 0 l in omega arith

test_nine : (r : Refusal) (b : Bool) → number_of r ≤ 9 → number_found (test r b) ≤ 9
test_nine r b h = let low = test_number r b in omega arith

-- the tests of a list of patterns and of a scheme list find numbers up to 9
pub patterns_nine : (P : List (List ℕ)) → number_found (first_fault (pattern_tests P)) ≤ 9
patterns_nine P =
    let twins = twin_number listed 0 [] P in
    first_number 9 (pattern_tests P) (
      test_nine Oversize (ltb PATTERNS (length P)) (omega arith),
      (
        at_nine Oversize _ P (omega arith),
        (at_nine NoPermutation _ P (omega arith), (omega arith, tt)),
      ),
    )

pub scheme_nine : (E : List EntryList) → number_found (first_fault (scheme_tests E)) ≤ 9
scheme_nine E =
    let twins = twin_number twin_entry 0 [] E in
    first_number 9 (scheme_tests E) (
      test_nine Oversize (ltb ENTRIES (length E)) (omega arith),
      (
        at_nine Oversize _ E (omega arith),
        (
          at_nine NoPermutation _ E (omega arith),
          (
            omega arith,
            (
              test_nine Rootless (not (listed (prefixes E) [])) (omega arith),
              (
                at_nine Width _ E (omega arith),
                (at_nine NoPosition _ E (omega arith), (at_nine Childless _ E (omega arith), (at_nine NoTarget _ E (omega arith), tt))),
              ),
            ),
          ),
        ),
      ),
    )

-- behind tests that find numbers up to 9 a finding with a greater number is that of the rest
pub rest_found : (l m : List Finding) → number_found (first_fault l) ≤ 9 → 9 < number_found (first_fault (l ++ m)) →
    (first_fault l ≡ clean) × (first_fault (l ++ m) ≡ first_fault m)
rest_found l m low high = go (first_fault l) refl
  where
    go : (x : Finding) → first_fault l ≡ x → (first_fault l ≡ clean) × (first_fault (l ++ m) ≡ first_fault m)
    go clean q = (q, clean_append l m q)
    go (fault r j) q =
        let small : number_of r ≤ 9 = rw q at low in
        let large : 9 < number_of r = rw (fault_append l m q) at high in
        absurd (omega arith)
