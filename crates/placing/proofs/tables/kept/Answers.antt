-- `placing::tables::kept` meets its contract: the entries, and the values still to come, are the
-- whole.
-- Assumes nothing.
use Rattle.std.proofs.Common.{ℕ, ◌≡◌, ◌+◌, min, List, ◌++◌, sym, ap, ◌∙◌, rules, arith, take, drop}
use lib.ListN.{get_or}
use Rattle.placing.specs.Tabled.{kept_values}
use Rattle.placing.proofs.CandidateMade.{push, pushed, kept_here, kept_gone, kept_end}
use Rattle.placing.proofs.tables.kept.Goals as goal
use Rattle.placing.proofs.tables.kept.Goals.{then-told-eq0, else-told-eq0}

pub loop-a-preserved : goal.loop-a-preserved
loop-a-preserved c =
    let p = c.args.prefix.now in
    let levels = c.args.levels in
    let gone = c.args.gone in
    let l = c.loop-a in
    let i = l.a-index in
    elim c.if-told-eq0.branch [
      | then-told-eq0 w ↦
          let stays = sym c.told.ensures ∙ w.if-told-eq0.true in
          let value : w.saturating_add.result ≡ min (get_or p i 0 + get_or levels (get_or p i 0) 0) 255 =
          w.saturating_add.ensures ∙ ap (λ (x : ℕ). min (get_or p i 0 + x) 255) w.told-then-told-eq0.ensures in
          rw (w.n-is, w.entries-is) (
            omega arith,
            search rules,
            push l.entries l.n w.saturating_add.result (kept_values levels gone (drop (i + 1) p)) (kept_values levels gone (drop i p))
                (kept_values levels gone p) (omega arith) (rw value (kept_here levels gone p i (omega arith) stays)) l.invariant.2,
          )
      | else-told-eq0 w ↦ rw (w.n-is, w.entries-is) (
        omega arith,
        search rules,
        ap (λ (v : List ℕ). take l.n l.entries ++ v)
            (sym (kept_gone levels gone p i (omega arith) (λ q. w.if-told-eq0.false (c.told.ensures ∙ q)))) ∙ l.invariant.2,
      )
    ]

pub returns : goal.returns
returns c =
    let a = c.args in
    let l = c.loop-a in (
      omega arith,
      pushed l.entries l.n (kept_values a.levels a.gone (drop l.a-index a.prefix.now)) (kept_values a.levels a.gone a.prefix.now)
          (kept_end a.levels a.gone a.prefix.now l.a-index (omega arith)) l.invariant.2,
    )
