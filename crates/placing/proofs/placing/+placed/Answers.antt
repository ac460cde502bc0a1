-- The proof of the cycle of calls {placed}: each turn of the loop is a step of the state.
-- Assumes nothing.
use Rattle.std.proofs.Common.{rules, arith, ℕ, Bool, ◌≡◌, ◌||◌, ◌+◌, ◌∙◌, refl, sym, ap, length}
use lib.ListN.{get_or, set}
use Rattle.placing.specs.Lookup.{entry_of, flagged}
use Rattle.placing.proofs.PlacingState.{state, placed_done, placed_none, placed_level, placed_pairs, placed_here, placed_later}
use Rattle.placing.proofs.placing.+placed.Goals as goal
use Rattle.placing.proofs.placing.+placed.Goals.{then-used, else-used, Start, After-pairs_fit, Joined-used, After-placed}

-- the place that the entry takes stands in the array
room : {t : ℕ} (c : Start t) → length c.args.chosen ≡ 8
room c = search rules

-- the value has the level that the entry needs
level_is : {t : ℕ} (c : After-pairs_fit t) → entry_of c.args.tables.levels (get_or c.args.prefix.now c.loop-j.j 0)
    ≡ entry_of c.args.tables.need (get_or c.args.head.now c.args.state.placed 0)
level_is c = sym c.told.ensures ∙ c.if-told-level.false ∙ c.told-level.ensures

-- whether a value among those that are placed is deleted
more_is : {t : ℕ} (c : Joined-used t) → c.if-used.more ≡ c.args.state.used || flagged c.args.tables.gone
    (get_or c.args.prefix.now c.loop-j.j 0)
more_is c =
    elim c.if-used.branch [
      | then-used w ↦ rw (w.more-is, w.if-used.true) refl
      | else-used w ↦ rw (w.more-is, w.if-used.false, w.told-else-used.ensures) refl
    ]

pub returns-then-head-s : goal.returns-then-head-s
returns-then-head-s t c =
    let a = c.args in
    sym (placed_done (entry_of a.tables.need) (entry_of a.tables.levels) (flagged a.tables.gone) a.head.now a.prefix.now a.state.used
    a.chosen a.state.placed a.state.from c.if-head-s.true)

pub loop-j-preserved-then-told-level : goal.loop-j-preserved-then-told-level
loop-j-preserved-then-told-level t c =
    let a = c.args in
    let s = (goal.at.loop-j-preserved-then-told-level t c).Start in
    c.loop-j.invariant ∙ placed_level (entry_of a.tables.need) (entry_of a.tables.levels) (flagged a.tables.gone) a.head.now
    a.prefix.now a.state.used a.chosen a.state.placed c.loop-j.j
    c.if-head-s.false c.loop-j-test.true (omega (arith, room s))
    (λ q. c.if-told-level.true (c.told.ensures ∙ q ∙ sym c.told-level.ensures))

pub loop-j-preserved-then-not-pairs_fit : goal.loop-j-preserved-then-not-pairs_fit
loop-j-preserved-then-not-pairs_fit t c =
    let a = c.args in
    let at = goal.at.loop-j-preserved-then-not-pairs_fit t c in
    c.loop-j.invariant ∙ placed_pairs (entry_of a.tables.need) (entry_of a.tables.levels) (flagged a.tables.gone) a.head.now
    a.prefix.now a.state.used a.chosen a.state.placed c.loop-j.j
    c.if-head-s.false c.loop-j-test.true (omega (arith, room at.Start)) (level_is at.After-pairs_fit)
    (sym c.pairs_fit.ensures ∙ c.if-not-pairs_fit.true)

-- what the call said of the entries behind this one
tried : {t : ℕ} (c : After-placed t) → let a = c.args in state (entry_of a.tables.need) (entry_of a.tables.levels)
    (flagged a.tables.gone) a.head.now a.prefix.now
    (a.state.used || flagged a.tables.gone (get_or a.prefix.now c.loop-j.j 0))
    (set a.chosen a.state.placed (get_or a.prefix.now c.loop-j.j 0)) (a.state.placed + 1) (c.loop-j.j + 1) ≡ c.placed.result
tried {t} c =
    let a = c.args in
    ap (λ (u : Bool). state (entry_of a.tables.need) (entry_of a.tables.levels) (flagged a.tables.gone) a.head.now a.prefix.now u
    (set a.chosen a.state.placed (get_or a.prefix.now c.loop-j.j 0)) (a.state.placed + 1) (c.loop-j.j + 1))
    (sym (more_is (goal.at.After-placed t c).Joined-used)) ∙ sym c.placed.ensures

pub returns-then-placed : goal.returns-then-placed
returns-then-placed t c =
    let a = c.args in
    let at = goal.at.returns-then-placed t c in
    sym (c.loop-j.invariant ∙ placed_here (entry_of a.tables.need) (entry_of a.tables.levels) (flagged a.tables.gone) a.head.now
    a.prefix.now a.state.used a.chosen a.state.placed c.loop-j.j
    c.if-head-s.false c.loop-j-test.true (omega (arith, room at.Start)) (level_is at.After-pairs_fit)
    (sym c.pairs_fit.ensures ∙ c.if-not-pairs_fit.false) (tried at.After-placed ∙ c.if-placed.true))

pub loop-j-preserved : goal.loop-j-preserved
loop-j-preserved t c =
    let a = c.args in
    let at = goal.at.loop-j-preserved t c in
    c.loop-j.invariant ∙ placed_later (entry_of a.tables.need) (entry_of a.tables.levels) (flagged a.tables.gone) a.head.now
    a.prefix.now a.state.used a.chosen a.state.placed c.loop-j.j
    c.if-head-s.false c.loop-j-test.true (omega (arith, room at.Start)) (level_is at.After-pairs_fit)
    (sym c.pairs_fit.ensures ∙ c.if-not-pairs_fit.false) (tried at.After-placed ∙ c.if-placed.false)

pub returns : goal.returns
returns t c =
    let a = c.args in
    sym (c.loop-j.invariant ∙ placed_none (entry_of a.tables.need) (entry_of a.tables.levels) (flagged a.tables.gone) a.head.now
    a.prefix.now a.state.used a.chosen a.state.placed c.loop-j.j c.if-head-s.false c.loop-j-test.false)
