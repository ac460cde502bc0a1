-- `count_plan::cards::entry_card` meets its contract.
-- Assumes nothing.
use Prim.Native.Nat.{ℕ, ◌≤◌}
use native.Mathlib.Omega.{arith}
use mathlib.Core.Path.{◌≡◌, sym, ap, ◌∙◌}
use mathlib.Core.Bool.{false}
use mathlib.Core.List.{List}
use lib.ListN.{length, take}
use lib.Seq.{length-take-le}
use Rattle.word.specs.Ceilings.{PREFIX}
use Rattle.forms.specs.SchemeList.{deletes}
use Rattle.forms.specs.SchemeMemory.{positions_in, six_of, does_of}
use Rattle.forms.specs.MemoryLaws.{length_padded}
use Rattle.forms.specs.SetMemory.{held_in}
use Rattle.forms.specs.declared.memory.Positions.{Positions}
use Rattle.forms.specs.declared.memory.Rule.{Rule}
use Rattle.forms.specs.declared.memory.Rule.TheVariants.{Delete}
use Rattle.scheme.specs.WellFormed.{outside}
use Rattle.scheme.proofs.LookupLaws.{set_inside, set_named}
use Rattle.count_plan.proofs.CardLaws.{rule_expands, rule_deletes, perm_memory}
use borrow.Author.Rules.{rules}
use Rattle.count_plan.proofs.cards.entry_card.Goals as goal

-- what the tests say of the set of positions d, as the code hands it over
positions_given : (k : ℕ) (d : Positions) (rule : Rule) (L : List ℕ) → k ≤ PREFIX →
    outside k (does_of rule) ≡ false → rule ≡ Delete d → L ≡ take d.count (six_of d) →
    (length L ≤ k) × (positions_in d ≡ L) × (outside k (deletes L) ≡ false)
positions_given k d rule L short inside is handed =
    let out = set_inside k d rule inside is in
    let (few, named) = set_named k d short out in
    let front : positions_in d ≡ L = named ∙ sym handed in
    (omega (arith, ap length front, length_padded d.count (six_of d)), front, ap (λ (R : List ℕ). outside k (deletes R)) (sym front) ∙ out)

pub expanding-requires : goal.expanding-requires
expanding-requires c =
    let e = c.args.e in
    let six : length e.prefix ≡ PREFIX = (let o = c.well_formed in search rules) in
    let size : length (take e.length e.prefix) ≡ e.length = length-take-le e.length e.prefix (omega (arith, c.requires.0.short)) in (
      omega (arith, size, c.requires.1 (ap does_of c.in-Expand.is)),
      perm_memory e.length e.prefix (omega (arith, c.requires.0.short)) c.requires.0.perm,
    )

pub deleting-requires : goal.deleting-requires
deleting-requires c =
    let e = c.args.e in
    let six : length e.prefix ≡ PREFIX = (let o = c.well_formed in search rules) in
    let size : length (take e.length e.prefix) ≡ e.length = length-take-le e.length e.prefix (omega (arith, c.requires.0.short)) in
    let (few, front, inside) = positions_given e.length c.in-Delete.d e.rule c.as_slice.result.now c.requires.0.short
    c.requires.0.inside c.in-Delete.is c.as_slice.ensures in (
      omega (arith, size, c.requires.0.short),
      omega (arith, size, few),
      perm_memory e.length e.prefix (omega (arith, c.requires.0.short)) c.requires.0.perm,
      rw size inside,
    )

pub returns-in-Expand : goal.returns-in-Expand
returns-in-Expand c ps w =
    let a = c.args in
    let six : length a.e.prefix ≡ PREFIX = (let o = c.well_formed in search rules) in
    rule_expands (held_in a.patterns.now) ps c.expanding.result a.e.length a.e.prefix a.e.rule
    (omega (arith, c.requires.0.short)) c.in-Expand.is (c.expanding.ensures ps w)

pub returns-in-Delete : goal.returns-in-Delete
returns-in-Delete c ps w =
    let a = c.args in
    let six : length a.e.prefix ≡ PREFIX = (let o = c.well_formed in search rules) in
    let (few, front, inside) = positions_given a.e.length c.in-Delete.d a.e.rule c.as_slice.result.now
    c.requires.0.short c.requires.0.inside c.in-Delete.is c.as_slice.ensures in
    rule_deletes (held_in a.patterns.now) ps c.deleting.result a.e.length a.e.prefix a.e.rule
    (omega (arith, c.requires.0.short)) c.in-Delete.d _ c.in-Delete.is front (c.deleting.ensures ps w)
