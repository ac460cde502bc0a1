-- `containment::earliest_in` meets its contract: the earliest pattern of the set that has a copy is
-- the earliest from the index on.
-- Assumes nothing.
use Prim.Native.Nat.{◌+◌}
use mathlib.Core.List.{List}
use Prim.Native.Nat.{ℕ}
use mathlib.Core.Path.{◌≡◌, refl, sym, ap, ◌∙◌}
use native.Mathlib.Omega.{arith}
use lib.ListN.{length, get_or, drop}
use Rattle.word.specs.Word.{first_copy}
use Rattle.word.specs.Earliest.{earliest, earliest_from}
use Rattle.forms.specs.SchemeMemory.{no_pattern}
use Rattle.forms.specs.SetMemory.{held, held_in}
use Rattle.copy_search.specs.Copy.{shown}
use Rattle.containment.specs.SetCopies.{shown_in}
use Rattle.containment.proofs.SetSearch.{short_copy, early_turn, early_here, early_later, early_none}
use Rattle.containment.proofs.earliest_in.Goals as goal
use Rattle.containment.proofs.earliest_in.Goals.{After-first_copy}

-- the pattern at the index
abbrev here : After-first_copy → List ℕ
here c = held (get_or c.args.patterns.now c.loop-i.i no_pattern)

copied : (c : After-first_copy) → c.first_copy.result ≡ shown (first_copy (here c) c.args.w.now)
copied c =
    short_copy (get_or c.args.patterns.now c.loop-i.i no_pattern) c.as_slice-digits.result.now c.args.w.now
    c.first_copy.result c.first_copy.ensures c.as_slice-digits.ensures

pub loop-i-init : goal.loop-i-init
unfolding earliest
loop-i-init c = refl

pub returns-in-Some : goal.returns-in-Some
returns-in-Some c =
    let s = c.args.patterns.now in
    let w = c.args.w.now in
    let i = c.loop-i.i in
    let f = (goal.at.returns-in-Some c).After-first_copy in
    early_here (here f) w i (length c.as_slice-digits.result.now) c.in-Some.at
    (earliest_from (i + 1) (held_in (drop (i + 1) s)) w) (ap length c.as_slice-digits.ensures)
    (sym c.in-Some.is ∙ copied f) ∙
    ap shown_in (sym (c.loop-i.invariant ∙ early_turn s w i no_pattern c.loop-i-test.true))

pub loop-i-preserved : goal.loop-i-preserved
loop-i-preserved c =
    let s = c.args.patterns.now in
    let w = c.args.w.now in
    let i = c.loop-i.i in
    let f = (goal.at.loop-i-preserved c).After-first_copy in
    c.loop-i.invariant ∙ early_turn s w i no_pattern c.loop-i-test.true ∙
    early_later (here f) w i (earliest_from (i + 1) (held_in (drop (i + 1) s)) w) (sym c.in_default.is ∙ copied f)

pub returns : goal.returns
returns c =
    ap shown_in (sym (c.loop-i.invariant ∙ early_none c.args.patterns.now c.args.w.now c.loop-i.i (omega arith)))
