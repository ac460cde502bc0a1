-- `scheme::links::lacks_target` meets its contract.
-- Assumes nothing.
use Prim.Native.Nat.{ℕ, ◌-◌, ◌≤◌}
use mathlib.Core.Path.{◌≡◌, sym, ap, ◌∙◌}
use mathlib.Core.Bool.{false, not}
use mathlib.Core.List.{List}
use native.Mathlib.Omega.{arith}
use borrow.Author.Rules.{rules}
use lib.ListN.{length, take}
use lib.Seq.{length-take-le}
use Rattle.word.specs.Ceilings.{PREFIX}
use Rattle.word.specs.Word.{is_perm}
use Rattle.cell.specs.Cell.{deleted}
use Rattle.forms.specs.SchemeList.{deletes}
use Rattle.forms.specs.SchemeMemory.{padded, six_of, positions_in}
use Rattle.forms.specs.MemoryLaws.{padded_within, length_padded}
use Rattle.scheme.specs.WellFormed.{outside, listed}
use Rattle.scheme.proofs.LookupLaws.{set_inside, set_named, delete_target}
use Rattle.scheme.proofs.links.lacks_target.Goals as goal
use Rattle.scheme.proofs.links.lacks_target.Goals.{After-as_slice-positions}

-- the digits of the prefix, and how many they are
digits : (c : After-as_slice-positions) → (take c.args.e.length c.args.e.prefix ≡ padded c.args.e.length c.args.e.prefix) ×
    (length (take c.args.e.length c.args.e.prefix) ≡ c.args.e.length)
digits c =
    let e = c.args.e in
    let six : length e.prefix ≡ PREFIX = search rules in
    let short : e.length ≤ PREFIX = c.requires.short in
    (sym (padded_within e.length e.prefix (omega arith)), length-take-le e.length e.prefix (omega arith))

-- the positions are those of the entry, and inside the prefix
named : (c : After-as_slice-positions) → (c.as_slice-positions.result.now ≡ positions_in c.in-Delete.d) ×
    (length c.as_slice-positions.result.now ≤ c.args.e.length) ×
    (outside c.args.e.length (deletes c.as_slice-positions.result.now) ≡ false)
named c =
    let e = c.args.e in
    let d = c.in-Delete.d in
    let inside = set_inside e.length d e.rule c.requires.inside c.in-Delete.is in
    let (few, front) = set_named e.length d c.requires.short inside in
    let same : c.as_slice-positions.result.now ≡ positions_in d = c.as_slice-positions.ensures ∙ sym front in (
      same,
      omega (arith, few, ap length same, length_padded d.count (six_of d)),
      ap (λ (R : List ℕ). outside e.length (deletes R)) same ∙ inside,
    )

pub shorter-q-requires : goal.shorter-q-requires
shorter-q-requires c =
    let here = (goal.at.shorter-q-requires c).After-as_slice-positions in
    let (same, size) = digits here in
    let (positions, few, inside) = named here in
    let short : c.args.e.length ≤ PREFIX = c.requires.short in (
      omega (arith, size),
      omega (arith, size, few),
      ap is_perm same ∙ c.requires.perm,
      ap (λ (n : ℕ). outside n (deletes c.as_slice-positions.result.now)) size ∙ inside,
    )

pub slice_bounds-q-count : goal.slice_bounds-q-count
slice_bounds-q-count c = (named (goal.at.slice_bounds-q-count c).After-as_slice-positions).1

pub returns-in-Expand : goal.returns-in-Expand
returns-in-Expand c = λ ps w. search rules

pub returns-in-Delete : goal.returns-in-Delete
returns-in-Delete c =
    let here = (goal.at.returns-in-Delete c).After-as_slice-positions in
    let (same, size) = digits here in
    let (positions, few, inside) = named here in
    let e = c.args.e in
    let six : length e.prefix ≡ PREFIX = search rules in
    let short : e.length ≤ PREFIX = c.requires.short in
    let left = length c.as_slice-positions.result.now in
    λ ps w. ap not (c.has_entry.ensures ps w ∙ ap (listed ps)
    (ap (λ (n : ℕ). take (n - left) c.shorter-q.result) (sym size) ∙ c.shorter-q.ensures ∙
    ap (λ (R : List ℕ). deleted R (take e.length e.prefix)) positions)) ∙
    sym (delete_target ps e.prefix e.length e.rule c.in-Delete.d (omega arith) c.in-Delete.is)
