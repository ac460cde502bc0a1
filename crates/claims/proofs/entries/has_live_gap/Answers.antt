-- `claims::entries::has_live_gap` meets its contract: some vector is live if one from the index on
-- is.
-- Assumes nothing.
use borrow.Author.Rules.{rules}
use Prim.Native.Nat.{ℕ}
use mathlib.Core.Path.{◌≡◌, sym, ap, ◌∙◌}
use mathlib.Core.List.{List}
use native.Mathlib.Omega.{arith}
use lib.ListN.{length}
use Rattle.word.specs.Ceilings.{PREFIX}
use Rattle.forms.specs.SchemeMemory.{gap_at, entry_in}
use Rattle.scheme.specs.TestLaws.{any_here, any_later, any_end}
use Rattle.scheme.specs.EntryMemoryLaws.{entry_short, entry_few, gap_width, gap_total, prefix_is, prefix_perm}
use Rattle.claims.proofs.GapClaimLaws.{live_at, live_start}
use Rattle.forms.specs.SetMemory.{held_in}
use Rattle.claims.proofs.entries.has_live_gap.Goals as goal

pub loop-j-init : goal.loop-j-init
loop-j-init c =
    let a = c.args in
    live_start (held_in a.patterns.now) a.e

pub entry_gap-b-requires : goal.entry_gap-b-requires
entry_gap-b-requires c = omega (arith, entry_few c.args.e c.requires)

pub is_live-requires : goal.is_live-requires
is_live-requires c =
    let six-digits : length c.args.e.prefix ≡ PREFIX =
    (let o = c.well_formed in search rules) in
    let a = c.args in
    let q = c.requires in
    let l = c.loop-j in
    let six = six-digits in
    let is = c.entry_gap-b.ensures in (
      entry_short a.e q,
      prefix_perm a.e q six,
      rw is (gap_width a.e q l.j (omega arith)),
      rw is (gap_total a.e q l.j (omega arith)),
    )

pub returns-then-is_live : goal.returns-then-is_live
returns-then-is_live c =
    let six-digits : length c.args.e.prefix ≡ PREFIX =
    (let o = c.well_formed in search rules) in
    let a = c.args in
    let q = c.requires in
    let l = c.loop-j in
    let P = held_in a.patterns.now in
    let p = (entry_in a.e).prefix in
    let six = six-digits in
    let live = ap (λ (u : List ℕ). live_at P u (gap_at a.e l.j)) (prefix_is a.e q six) ∙
    sym (rw c.entry_gap-b.ensures at c.is_live.ensures) ∙ c.if-is_live.true in
    sym (l.invariant ∙ any_here (live_at P p) (gap_at a.e) a.e.gap_count l.j (omega arith) live)

pub loop-j-preserved : goal.loop-j-preserved
loop-j-preserved c =
    let six-digits : length c.args.e.prefix ≡ PREFIX =
    (let o = c.well_formed in search rules) in
    let a = c.args in
    let q = c.requires in
    let l = c.loop-j in
    let P = held_in a.patterns.now in
    let p = (entry_in a.e).prefix in
    let six = six-digits in
    let dead = ap (λ (u : List ℕ). live_at P u (gap_at a.e l.j)) (prefix_is a.e q six) ∙
    sym (rw c.entry_gap-b.ensures at c.is_live.ensures) ∙ c.if-is_live.false in
    l.invariant ∙ any_later (live_at P p) (gap_at a.e) a.e.gap_count l.j (omega arith) dead

pub returns : goal.returns
returns c =
    let a = c.args in
    let l = c.loop-j in
    let P = held_in a.patterns.now in
    let p = (entry_in a.e).prefix in
    sym (l.invariant ∙ any_end (live_at P p) (gap_at a.e) a.e.gap_count l.j (omega arith))
