-- What the pass over all entries has in hand: the tests of one entry, and the findings so far.
-- Definitions only.
use Rattle.std.specs.Prelude.{Ok, ℕ, ◌≡◌, Bool, not, ◌||◌, List, [], length, get_or, eqb}
use Rattle.word.specs.Lists.{any}
use Rattle.word.specs.Word.{is_perm}
use Rattle.word.specs.Finding.{test}
use Rattle.word.specs.declared.refusal.Refusal.TheVariants.{NoPermutation, Repeated, Rootless, Width, NoPosition}
use Rattle.forms.specs.SchemeList.{EntryList}
use Rattle.forms.specs.SchemeMemory.{Fault, fault_of, or_else, fault_if}
use Rattle.forms.specs.Codes.{Codes}
use Rattle.scheme.specs.WellFormed.{listed, repeats, wrong_width, outside}
use Rattle.scheme.specs.TestOrder.{seen}
use Rattle.scheme.specs.WellFormed.{permutation_test, twin_test, width_test, position_test}
use Rattle.wellformed.specs.declared.entry_pass.EntryFaults.{EntryFaults}

-- the code at place i stands before it
abbrev pub earlier_code : List ℕ → ℕ → Bool
earlier_code codes i = any (eqb (get_or codes i 0)) (seen (λ j. get_or codes j 0) i)

-- the tests 3, 4 and 7 of one entry, an earlier entry's prefix being told by its code
abbrev pub no_perm : EntryList → Bool
no_perm e = not (is_perm e.prefix)

abbrev pub twin_by : List ℕ → ℕ → EntryList → Bool
twin_by codes i e = earlier_code codes i || repeats e.gaps

abbrev pub misplaced : EntryList → Bool
misplaced e = outside (length e.prefix) e.rule

-- no findings
abbrev pub no_faults : EntryFaults
no_faults = record { none = Ok tt; twin = Ok tt; width = Ok tt; position = Ok tt }

-- the findings with those of one entry more
pub record WithEntry (f : EntryFaults) (codes : List ℕ) (e : EntryList) (i : ℕ) (r : EntryFaults) : Type 0 where
  pub none : r.none ≡ or_else f.none (fault_if (no_perm e) NoPermutation i)
  pub twin : r.twin ≡ or_else f.twin (fault_if (twin_by codes i e) Repeated i)
  pub width : r.width ≡ or_else f.width (fault_if (wrong_width e) Width i)
  pub position : r.position ≡ or_else f.position (fault_if (misplaced e) NoPosition i)

-- the findings of all entries
pub record EntryFindings (E : List EntryList) (r : EntryFaults) : Type 0 where
  pub none : r.none ≡ fault_of (permutation_test E)
  pub twin : r.twin ≡ fault_of (twin_test E)
  pub width : r.width ≡ fault_of (width_test E)
  pub position : r.position ≡ fault_of (position_test E)

-- test 5, told by the codes
abbrev pub RootFault : List ℕ → Fault → Type 0
RootFault codes r = (ps : List (List ℕ)) → Codes ps codes → r ≡ fault_of (test Rootless (not (listed ps [])))

-- the earliest of what the tests 3 to 7 find
abbrev pub EntriesFault : EntryFaults → List ℕ → Fault → Type 0
EntriesFault f codes r =
    (ps : List (List ℕ)) → Codes ps codes →
    r ≡ or_else f.none (or_else f.twin (or_else (fault_of (test Rootless (not (listed ps [])))) (or_else f.width f.position)))
