-- `wellformed::scheme_tests::scheme_fault` meets its contract: the parts of the tests in their
-- order. The pass over the entries ends at one that is too large; else it leaves the findings of
-- the tests 3, 4, 6 and 7, and the codes.
-- Assumes nothing.
use Prim.Native.Nat.{◌≤◌}
use mathlib.Core.Path.{◌≡◌, refl, sym, ap, ap₂, ◌∙◌}
use native.Mathlib.Omega.{arith}
use borrow.Author.Rules.{rules}
use mathlib.Core.Bool.{true, false}
use lib.ListN.{length, get_or, take, length-set}
use Rattle.word.specs.Finding.{first_fault}
use Rattle.word.specs.declared.refusal.Refusal.TheVariants.{Oversize}
use Rattle.forms.specs.SchemeMemory.{no_entry, scheme_in, fault_of, or_else, faulty}
use Rattle.std.specs.Prelude.{Ok, Err}
use Rattle.word.specs.Refusal.{refused_at}
use Rattle.forms.specs.Codes.{Codes}
use Rattle.scheme.specs.Links.{prefixes_in}
use Rattle.scheme.specs.TestOrder.{entry_tests}
use Rattle.scheme.specs.WellFormed.{permutation_test, twin_test, root_test, width_test, position_test, child_test, target_test}
use Rattle.wellformed.proofs.EntryTestLaws.{large_finding, scheme_many, sized_entry, sized_of_clean}
use Rattle.wellformed.proofs.OrderLaws.{scheme_by_size, scheme_by_entry, scheme_by_links}
use Rattle.wellformed.proofs.OrderLaws.{linked_of_clean, five_faults, two_faults}
use Rattle.wellformed.proofs.PassLaws.{pass_start, pass_large, pass_more, pass_sized, pass_codes, pass_findings}
use Rattle.wellformed.proofs.scheme_tests.scheme_fault.Goals as goal
use Rattle.wellformed.proofs.scheme_tests.scheme_fault.Goals.{After-loop-i, After-entry_fault}

pub returns-then-n-gt-ENTRIES : goal.returns-then-n-gt-ENTRIES
returns-then-n-gt-ENTRIES c =
    let s = c.args.s in
    let many = ap fault_of (scheme_many s c.if-n-gt-ENTRIES.true) in
    ap Err c.at.ensures ∙ sym (scheme_by_size (scheme_in s) (Err (refused_at Oversize 0)) (sym many) refl ∙ many)

pub loop-i-init : goal.loop-i-init
loop-i-init c =
    pass_start c.args.s c.no_faults-found.result _ c.if-n-gt-ENTRIES.false refl c.no_faults-found.ensures

pub bounds-s-i : goal.bounds-s-i
bounds-s-i c = let few = c.loop-i.invariant.few in omega arith

pub returns-then-large_entry : goal.returns-then-large_entry
returns-then-large_entry c =
    let l = c.loop-i in
    let s = c.args.s in
    let large = ap fault_of (pass_large s l.found l.codes l.i l.invariant c.loop-i-test.true
    (sym c.large_entry.ensures ∙ c.if-large_entry.true)) in
    ap Err c.at-then-large_entry.ensures ∙ large ∙ sym (scheme_by_size (scheme_in s) (Err (refused_at Oversize l.i)) large refl)

pub entry_code-requires : goal.entry_code-requires
entry_code-requires c =
    (sized_entry (get_or c.args.s.entries c.loop-i.i no_entry)
    (sym c.large_entry.ensures ∙ c.if-large_entry.false)).short

pub bounds-codes-i : goal.bounds-codes-i
bounds-codes-i c =
    let w = c.loop-i.invariant in
    let few = w.few in
    let room = w.room in
    omega arith

pub with_entry-found-requires : goal.with_entry-found-requires
with_entry-found-requires c =
    let l = c.loop-i in
    let few = l.invariant.few in
    let room = length-set l.codes l.i c.entry_code.result ∙ l.invariant.room in (
      sized_entry (get_or c.args.s.entries l.i no_entry)
          (sym c.large_entry.ensures ∙ c.if-large_entry.false),
      omega (arith, room),
    )

pub loop-i-preserved : goal.loop-i-preserved
loop-i-preserved c =
    let l = c.loop-i in
    let s = c.args.s in
    pass_more s l.found l.codes l.i l.invariant c.loop-i-test.true c.entry_code.result
    c.entry_code.ensures c.with_entry-found.result
    (sym c.large_entry.ensures ∙ c.if-large_entry.false) c.with_entry-found.ensures

-- the codes of all entries stand in the array
room : (c : After-loop-i) → c.args.s.count ≤ length c.loop-i.codes
room c =
    let w = c.loop-i.invariant in
    let few = w.few in
    let all = w.room in
    omega arith

-- no ceiling is passed
size_clean : (c : After-loop-i) → Ok (tt {0}) ≡ fault_of (large_finding (scheme_in c.args.s))
size_clean c =
    let l = c.loop-i in
    ap fault_of (pass_sized c.args.s l.found l.codes l.i l.invariant c.loop-i-test.false)

codes : (c : After-loop-i) → Codes (prefixes_in c.args.s) (take c.args.s.count c.loop-i.codes)
codes c =
    let l = c.loop-i in
    pass_codes c.args.s l.found l.codes l.i l.invariant c.loop-i-test.false

-- what the tests 3 to 7 find
entries : (c : After-entry_fault) → c.entry_fault.result ≡ fault_of (first_fault (entry_tests (scheme_in c.args.s)))
entries c =
    let l = c.loop-i in
    let s = c.args.s in
    let E = scheme_in s in
    let found = pass_findings s l.found l.codes l.i l.invariant c.loop-i-test.false in
    c.entry_fault.ensures (prefixes_in s) (pass_codes s l.found l.codes l.i l.invariant c.loop-i-test.false) ∙
    ap₂ or_else found.none (ap₂ or_else found.twin (ap (or_else (fault_of (root_test E))) (ap₂ or_else found.width found.position))) ∙
    sym (five_faults (permutation_test E) (twin_test E) (root_test E) (width_test E) (position_test E))

pub slice_bounds-codes-end : goal.slice_bounds-codes-end
slice_bounds-codes-end c = room c

pub returns-in_err-entry_fault : goal.returns-in_err-entry_fault
returns-in_err-entry_fault c =
    let E = scheme_in c.args.s in
    let place = goal.at.returns-in_err-entry_fault c in
    let found = entries place.After-entry_fault in
    let stopped : c.from_residual.result ≡ c.entry_fault.result = search rules in
    let fault : faulty c.entry_fault.result ≡ true = ap faulty c.in_err-entry_fault.was in
    stopped ∙ found ∙ sym (scheme_by_entry E (Ok tt) (size_clean place.After-loop-i) refl c.entry_fault.result found fault)

pub link_faults-requires : goal.link_faults-requires
link_faults-requires c =
    let s = c.args.s in
    let place = goal.at.link_faults-requires c in
    let size = size_clean place.After-loop-i in
    let clean : c.entry_fault.result ≡ Ok (tt {0}) = search rules in
    (linked_of_clean s (sized_of_clean s size) (sym size) (sym (entries place.After-entry_fault) ∙ clean), codes place.After-loop-i)

pub returns : goal.returns
returns c =
    let E = scheme_in c.args.s in
    let place = goal.at.returns c in
    let passed : c.entry_fault.result ≡ Ok (tt {0}) = search rules in
    let clean : faulty c.entry_fault.result ≡ false = ap faulty passed in
    c.link_fault.ensures ∙ ap₂ or_else c.link_faults.ensures.0 c.link_faults.ensures.1 ∙
    sym (two_faults (child_test E) (target_test E)) ∙
    sym (scheme_by_links E (Ok tt) (size_clean place.After-loop-i) refl c.entry_fault.result (entries place.After-entry_fault) clean)
