-- The tests 2 to 4 of a pattern list and 2 to 9 of a scheme list, in the order of document 01.
-- Definitions only.
use Rattle.std.specs.Prelude.{ℕ, suc, Bool, false, not, cond, ◌||◌, List, [], ◌∷◌, map, length, leb, ltb, eqb}
use Rattle.word.specs.Ceilings.{DIGITS, PATTERNS, ENTRIES, PREFIX, COMPONENTS, GAPS, TOTAL}
use Rattle.word.specs.Lists.{any}
use Rattle.word.specs.Word.{is_perm}
use Rattle.word.specs.Patterns.{is_pattern}
use Rattle.word.specs.Finding.{Finding, clean, fault, test}
use Rattle.word.specs.declared.refusal.Refusal.{Refusal}
use Rattle.word.specs.declared.refusal.Refusal.TheVariants.{Oversize, NoPermutation, Repeated, Rootless, Width}
use Rattle.word.specs.declared.refusal.Refusal.TheVariants.{NoPosition, Childless, NoTarget}
use Rattle.cell.specs.Basis.{same}
use Rattle.cell.specs.Cell.{total, deleted, children}
use Rattle.forms.specs.SchemeList.{Does, expands, deletes, EntryList}

-- the first item at fault refuses, with its index counted from i
abbrev pub first_at : {A : Type 0} → Refusal → (A → Bool) → ℕ → List A → Finding
first_at r f i [] = clean
first_at r f i (x ∷ l) = cond (f x) (fault r i) (first_at r f (suc i) l)

-- the first item that an earlier one equals: "for 4 the later twin" (01); `seen` are the items
-- before
abbrev pub first_twin : {A : Type 0} → (List A → A → Bool) → ℕ → List A → List A → Finding
first_twin twin i seen [] = clean
first_twin twin i seen (x ∷ l) = cond (twin seen x) (fault Repeated i) (first_twin twin (suc i) (x ∷ seen) l)

-- x is one of the lists
abbrev pub listed : List (List ℕ) → List ℕ → Bool
listed l x = any (same x) l

-- no vector stands twice
abbrev pub repeats : List (List ℕ) → Bool
repeats [] = false
repeats (x ∷ l) = listed l x || repeats l

-- "The set is up to 24 patterns of up to 8 digits each" (01); "Within 2: number of items, then
-- items in order"
abbrev pub pattern_tests : List (List ℕ) → List Finding
pattern_tests P =
    test Oversize (ltb PATTERNS (length P)) ∷ first_at Oversize (λ β. ltb DIGITS (length β)) 0 P ∷ first_at
    NoPermutation (λ β. not (is_pattern β)) 0 P ∷
    first_twin listed 0 [] P ∷ []

-- "Entries 128, prefix length 6, gap vectors per entry 8, components of a gap vector 7, total of a
-- gap vector 8" (01)
abbrev pub large_gap : List ℕ → Bool
large_gap b = ltb COMPONENTS (length b) || ltb TOTAL (total b)

abbrev pub large_entry : EntryList → Bool
large_entry e = ltb PREFIX (length e.prefix) || (ltb GAPS (length e.gaps) || any large_gap e.gaps)

-- "a prefix, or a vector within its entry stands twice" (01)
abbrev pub twin_entry : List EntryList → EntryList → Bool
twin_entry seen e = listed (map (λ d. d.prefix) seen) e.prefix || repeats e.gaps

-- "a vector has not k + 1 components" (01)
abbrev pub wrong_width : EntryList → Bool
wrong_width e = any (λ b. not (eqb (length b) (suc (length e.prefix)))) e.gaps

-- a position is not above the one before it, or is above k; the first is compared with 0, so that
-- it is at least 1
abbrev pub astray : ℕ → ℕ → List ℕ → Bool
astray k a [] = false
astray k a (r ∷ R) = (leb r a || ltb k r) || astray k r R

-- "deletion outside 1 to k" (01), and of a set: "an empty set, or a repeated, falling or outside
-- position, is refused 7" (02, order 4)
abbrev pub outside : ℕ → Does → Bool
outside k expands = false
outside k (deletes R) = eqb (length R) 0 || astray k 0 R

-- "an expanding entry lacks a child" (01), among these prefixes
abbrev pub lacks_child : List (List ℕ) → List ℕ → Does → Bool
lacks_child ps p expands = any (λ q. not (listed ps q)) (children p)
lacks_child ps p (deletes R) = false

-- "the shorter prefix has no entry" (01)
abbrev pub lacks_target : List (List ℕ) → List ℕ → Does → Bool
lacks_target ps p expands = false
lacks_target ps p (deletes R) = not (listed ps (deleted R p))

-- the tests 2 to 9 of a scheme list, each over the whole list
abbrev pub count_test : List EntryList → Finding
count_test E = test Oversize (ltb ENTRIES (length E))

abbrev pub size_test : List EntryList → Finding
size_test E = first_at Oversize large_entry 0 E

abbrev pub permutation_test : List EntryList → Finding
permutation_test E = first_at NoPermutation (λ e. not (is_perm e.prefix)) 0 E

abbrev pub twin_test : List EntryList → Finding
twin_test E = first_twin twin_entry 0 [] E

-- the prefixes of all entries
abbrev pub prefixes : List EntryList → List (List ℕ)
prefixes E = map (λ e. e.prefix) E

abbrev pub root_test : List EntryList → Finding
root_test E = test Rootless (not (listed (prefixes E) []))

abbrev pub width_test : List EntryList → Finding
width_test E = first_at Width wrong_width 0 E

abbrev pub position_test : List EntryList → Finding
position_test E = first_at NoPosition (λ e. outside (length e.prefix) e.rule) 0 E

abbrev pub child_test : List EntryList → Finding
child_test E = first_at Childless (λ e. lacks_child (prefixes E) e.prefix e.rule) 0 E

abbrev pub target_test : List EntryList → Finding
target_test E = first_at NoTarget (λ e. lacks_target (prefixes E) e.prefix e.rule) 0 E

-- "the numbers in order, each over the whole input" (01)
abbrev pub scheme_tests : List EntryList → List Finding
scheme_tests E =
    count_test E ∷ size_test E ∷ permutation_test E ∷ twin_test E ∷ root_test E ∷ width_test E ∷ position_test E ∷ child_test
    E ∷ target_test E ∷ []
