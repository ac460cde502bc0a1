-- Laws on findings in their order: the tests of a scheme list by their three parts, and what clean
-- parts say.
-- Assumes nothing.
use mathlib.Core.Path.{◌≡◌, refl, sym, ap, ◌∙◌}
use mathlib.Core.Bool.{true, false, true≢false}
use mathlib.Core.List.{List, [], ◌∷◌, ◌++◌}
use lib.ListN.{length}
use lib.Dec.{ltb}
use Rattle.word.specs.Ceilings.{ENTRIES}
use Rattle.word.specs.Finding.{Finding, clean, fault, test, first_fault}
use Rattle.word.specs.declared.refusal.Refusal.TheVariants.{Oversize}
use Rattle.forms.specs.SchemeList.{EntryList}
use Rattle.scheme.specs.WellFormed.{first_at, large_entry, scheme_tests}
use Rattle.forms.specs.SchemeMemory.{Fault, scheme_in, fault_of, or_else, faulty}
use Rattle.scheme.specs.TestOrder.{size_tests, entry_tests, link_tests}
use Rattle.scheme.specs.WellFormed.{permutation_test, twin_test, root_test, width_test, position_test}
use Rattle.scheme.specs.Sized.{Sized}
use Rattle.scheme.specs.TestLaws.{single, clean_cons, clean_of}
use Rattle.scheme.specs.Links.{Linked}
use Rattle.std.specs.Prelude.{Ok, Err}
use Rattle.forms.specs.declared.memory.Scheme.{Scheme}
use Rattle.scheme.proofs.LookupLaws.{linked_clean}

pub or_else_fault : (a b : Fault) → faulty a ≡ true → or_else a b ≡ a
or_else_fault (Ok u) b e = absurd (true≢false (sym e))
or_else_fault (Err d) b e = refl

pub or_else_clean : (a b : Fault) → faulty a ≡ false → or_else a b ≡ b
or_else_clean (Ok u) b e = refl
or_else_clean (Err d) b e = absurd (true≢false e)

pub not_faulty : (a : Fault) → faulty a ≡ false → a ≡ Ok tt
not_faulty (Ok u) e = refl
not_faulty (Err d) e = absurd (true≢false e)

-- the first fault of a list of findings, in memory
pub faults_cons : (x : Finding) (l : List Finding) → fault_of (first_fault (x ∷ l)) ≡ or_else (fault_of x) (fault_of (first_fault l))
faults_cons clean l = refl
faults_cons (fault r i) l = refl

pub faults_append : (l m : List Finding) → fault_of (first_fault (l ++ m)) ≡ or_else (fault_of (first_fault l)) (fault_of (first_fault m))
faults_append [] m = refl
faults_append (clean ∷ l) m = faults_append l m
faults_append (fault r i ∷ l) m = refl

-- the tests 3 to 7, and the tests 8 and 9, one by one
pub five_faults : (a b c d x : Finding) → fault_of (first_fault (a ∷ b ∷ c ∷ d ∷ x ∷ [])) ≡
    or_else (fault_of a) (or_else (fault_of b) (or_else (fault_of c) (or_else (fault_of d) (fault_of x))))
five_faults a b c d x =
    let last = faults_cons d (x ∷ []) ∙ ap (or_else (fault_of d)) (ap fault_of (single x)) in
    let third = faults_cons c (d ∷ x ∷ []) ∙ ap (or_else (fault_of c)) last in
    let second = faults_cons b (c ∷ d ∷ x ∷ []) ∙ ap (or_else (fault_of b)) third in
    faults_cons a (b ∷ c ∷ d ∷ x ∷ []) ∙ ap (or_else (fault_of a)) second

pub two_faults : (a b : Finding) → fault_of (first_fault (a ∷ b ∷ [])) ≡ or_else (fault_of a) (fault_of b)
two_faults a b = faults_cons a (b ∷ []) ∙ ap (or_else (fault_of a)) (ap fault_of (single b))

pub scheme_parts : (E : List EntryList) → fault_of (first_fault (scheme_tests E)) ≡
    or_else (fault_of (first_fault (size_tests E)))
    (or_else (fault_of (first_fault (entry_tests E))) (fault_of (first_fault (link_tests E))))
scheme_parts E =
    faults_append (size_tests E) (entry_tests E ++ link_tests E) ∙
    ap (or_else (fault_of (first_fault (size_tests E)))) (faults_append (entry_tests E) (link_tests E))

module _ (E : List EntryList) (large : Fault) (a : large ≡ fault_of (first_fault (size_tests E))) where
  -- the ceilings decide
  pub scheme_by_size : faulty large ≡ true → fault_of (first_fault (scheme_tests E)) ≡ fault_of (first_fault (size_tests E))
  scheme_by_size h = scheme_parts E ∙ or_else_fault (fault_of (first_fault (size_tests E))) _ (ap faulty (sym a) ∙ h)

  module _ (none : faulty large ≡ false) (entry : Fault) (b : entry ≡ fault_of (first_fault (entry_tests E))) where
    rest : fault_of (first_fault (scheme_tests E)) ≡ or_else (fault_of (first_fault (entry_tests E)))
        (fault_of (first_fault (link_tests E)))
    rest = scheme_parts E ∙ or_else_clean (fault_of (first_fault (size_tests E))) _ (ap faulty (sym a) ∙ none)

    -- the tests of each entry decide
    pub scheme_by_entry : faulty entry ≡ true → fault_of (first_fault (scheme_tests E)) ≡ fault_of (first_fault (entry_tests E))
    scheme_by_entry h = rest ∙ or_else_fault (fault_of (first_fault (entry_tests E))) _ (ap faulty (sym b) ∙ h)

    -- the tests that look entries up decide
    pub scheme_by_links : faulty entry ≡ false → fault_of (first_fault (scheme_tests E)) ≡ fault_of (first_fault (link_tests E))
    scheme_by_links h = rest ∙ or_else_clean (fault_of (first_fault (entry_tests E))) _ (ap faulty (sym b) ∙ h)

-- findings without a fault
clean_second : (x y : Finding) → first_fault (x ∷ y ∷ []) ≡ clean → y ≡ clean
clean_second x y e = (clean_cons y [] (clean_cons x (y ∷ []) e).1).0

clean_ends : (a b c d x : Finding) → first_fault (a ∷ b ∷ c ∷ d ∷ x ∷ []) ≡ clean → (a ≡ clean) × (x ≡ clean)
clean_ends a b c d x e =
    let (p, f) = clean_cons a (b ∷ c ∷ d ∷ x ∷ []) e in
    let g = (clean_cons b (c ∷ d ∷ x ∷ []) f).1 in
    let h = (clean_cons c (d ∷ x ∷ []) g).1 in
    (p, clean_second d x h)

-- what the tests 2 to 7 leave to the tests 8 and 9
pub linked_of_clean : (s : Scheme) → Sized s → fault_of (first_fault (size_tests (scheme_in s))) ≡ Ok tt →
    fault_of (first_fault (entry_tests (scheme_in s))) ≡ Ok tt → Linked s
linked_of_clean s h a b =
    let E = scheme_in s in
    let large = clean_second (test Oversize (ltb ENTRIES (length E))) (first_at Oversize large_entry 0 E)
    (clean_of (first_fault (size_tests E)) a) in
    let ends =
    clean_ends (permutation_test E) (twin_test E) (root_test E) (width_test E) (position_test E)
    (clean_of (first_fault (entry_tests E)) b) in
    linked_clean s h.few large ends.0 ends.1
