-- `claims::entries::loses` meets its contract: the candidate search decides the claim, and the
-- least word at the spacing that it found is shown.
-- Assumes nothing.
use Prim.Native.Nat.{ℕ}
use mathlib.Core.Path.{◌≡◌, sym, ap₂, ◌∙◌}
use mathlib.Core.List.{List}
use native.Mathlib.Omega.{arith}
use lib.ListN.{length, take}
use Rattle.word.specs.Ceilings.{PREFIX, PARTS}
use Rattle.forms.specs.SchemeMemory.{positions_in}
use Rattle.candidate.specs.Ready.{Given}
use Rattle.scheme.specs.EntryMemoryLaws.{entry_short, gaps_in}
use Rattle.claims.proofs.RuleLaws.{positions_named, given, found_total, answers_none, answers_some}
use borrow.Author.Rules.{rules}
use Rattle.forms.specs.SetMemory.{held_in}
use Rattle.forms.specs.HeldLaws.{six_whole}
use Rattle.claims.proofs.entries.loses.Goals as goal
use Rattle.claims.proofs.entries.loses.Goals.{After-from-number}

six_digits : (c : After-from-number) → length c.args.e.prefix ≡ PREFIX
six_digits c =
    (let g = c.well_formed in search rules)

all_parts : (c : After-from-number) → length c.args.e.gaps ≡ PARTS
all_parts c =
    (let g = c.well_formed in search rules)

-- the positions that are handed on are those of the deletion
positions_are : (c : After-from-number) → take c.from-number.result c.args.d.positions ≡ positions_in c.args.d
positions_are c =
    let a = c.args in
    let six : length a.d.positions ≡ PREFIX = (let g = c.well_formed in search rules) in
    ap₂ (λ (n : ℕ) (l : List ℕ). take n l) c.from-number.ensures (six_whole a.d six) ∙
    sym (positions_named a.e c.requires.4 (six_digits c) a.d c.requires.5).1

-- the set as the search takes it
set_given : (c : After-from-number) → let a = c.args in
    Given (held_in a.patterns.now) (take a.e.length a.e.prefix) (take c.from-number.result c.args.d.positions)
set_given c =
    let a = c.args in
    let q = c.requires in
    rw (positions_are c) (given a.e q.4 (six_digits c) a.d q.5 (held_in a.patterns.now) q.1)

pub irreversible-requires : goal.irreversible-requires
irreversible-requires c =
    let a = c.args in
    let q = c.requires in
    let at = (goal.at.irreversible-requires c).After-from-number in
    let few = (positions_named a.e q.4 (six_digits at) a.d q.5).0 in
    (q.0, entry_short a.e q.4, omega (arith, few, c.from-number.ensures), q.3, gaps_in a.e q.4 (all_parts at), set_given at)

pub returns-in_default : goal.returns-in_default
returns-in_default c =
    let a = c.args in
    let q = c.requires in
    let at = (goal.at.returns-in_default c).After-from-number in
    answers_none a.e q.4 (six_digits at) a.d q.5 a.m (held_in a.patterns.now) (all_parts at)
    (rw (positions_are at) at c.in_default.ensures) q.2 q.1.perms

pub least_lost-requires : goal.least_lost-requires
least_lost-requires c =
    let a = c.args in
    let q = c.requires in
    let at = (goal.at.least_lost-requires c).After-from-number in
    let few = (positions_named a.e q.4 (six_digits at) a.d q.5).0 in
    let t = found_total a.e q.4 (six_digits at) a.d q.5 a.m (held_in a.patterns.now) c.in-Some.lost (all_parts at)
    (rw (positions_are at) at c.in-Some.ensures) q.3 in
    (q.0, entry_short a.e q.4, omega (arith, few, c.from-number.ensures), set_given at, t.0, t.1)

pub returns : goal.returns
returns c =
    let a = c.args in
    let q = c.requires in
    let at = (goal.at.returns c).After-from-number in
    answers_some a.e q.4 (six_digits at) a.d q.5 a.m (held_in a.patterns.now) c.in-Some.lost (all_parts at)
    (rw (positions_are at) at c.in-Some.ensures) q.2 q.1.perms c.least_lost.result (rw (positions_are at) at c.least_lost.ensures)
