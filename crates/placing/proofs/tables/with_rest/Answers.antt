-- `placing::tables::with_rest` meets its contract: the entries, and the values of the rest still
-- to come, are the whole.
-- Assumes nothing.
use Rattle.std.proofs.Common.{ℕ, ◌≡◌, ◌+◌, List, map, ap, ◌∙◌, rules, arith, drop}
use lib.ListN.{get_or}
use Rattle.cell.specs.Built.{lift}
use Rattle.placing.specs.Lookup.{entry_of}
use Rattle.placing.specs.Tabled.{Reached}
use Rattle.placing.proofs.CandidateMade.{push, pushed, rest_here, rest_end}
use Rattle.placing.proofs.tables.with_rest.Goals as goal

pub loop-y-preserved : goal.loop-y-preserved
loop-y-preserved c =
    let a = c.args in
    let l = c.loop-y in
    let need = a.tables.need in
    let x = get_or a.rest.now l.y-index 0 in (
      omega arith,
      search rules,
      λ (g : List ℕ) (r : Reached a.rest.now need a.tables.levels a.k g).
          let reached = r.reach l.y-index (omega arith) in
          let s : c.min-s.result ≡ get_or need x 0 = omega (arith, c.min-s.ensures, c.told.ensures, reached, r.small) in
          let y : c.lifted.result ≡ lift g (get_or need x 0) =
          c.lifted.ensures g r.size r.says (omega (arith, s, reached)) ∙ ap (lift g) s in
          push l.entries l.n c.lifted.result (map (λ y. lift g (entry_of need y)) (drop (l.y-index + 1) a.rest.now))
          (map (λ y. lift g (entry_of need y)) (drop l.y-index a.rest.now)) _ (omega arith)
          (rest_here (λ y. lift g (entry_of need y)) a.rest.now l.y-index c.lifted.result (omega arith) y) (l.invariant.2 g r),
    )

pub returns : goal.returns
returns c =
    let a = c.args in
    let l = c.loop-y in (
      omega arith,
      λ (g : List ℕ) (r : Reached a.rest.now a.tables.need a.tables.levels a.k g).
          pushed l.entries l.n (map (λ y. lift g (entry_of a.tables.need y)) (drop l.y-index a.rest.now)) _
          (rest_end (λ y. lift g (entry_of a.tables.need y)) a.rest.now l.y-index (omega arith)) (l.invariant.2 g r),
    )
