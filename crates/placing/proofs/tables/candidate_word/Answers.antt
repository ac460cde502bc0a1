-- `placing::tables::candidate_word` meets its contract: the kept values with the rest behind them
-- are the built word.
-- Assumes nothing.
use Rattle.std.proofs.Common.{ℕ, ◌≡◌, ◌-◌, List, ◌++◌, map, ap, ◌∙◌, length, take, drop, arith, length-drop}
use lib.Seq.{take_all}
use Rattle.cell.specs.Built.{lift}
use Rattle.placing.specs.Lookup.{entry_of}
use Rattle.placing.specs.Tabled.{Tabled}
use Rattle.placing.proofs.CandidateMade.{ready_reached, ready_made}
use Rattle.placing.proofs.tables.candidate_word.Goals as goal

pub returns : goal.returns
returns c =
    let a = c.args in
    let q = c.requires in
    let p = a.prefix.now in
    let β = a.pattern.now in
    let t = a.tables in (
      c.with_rest.ensures.0,
      λ (R g : List ℕ) (r : Tabled t.levels t.gone a.t t.need p R g β).
          let n = length β - a.t in
          let rest : take (length β - n) (drop n β) ≡ drop n β = take_all (length β - n) (drop n β) (omega (arith, length-drop n β)) in
          (rw rest at c.with_rest.ensures.1) g (ready_reached t.levels t.gone a.t t.need p R g β q.0 q.1 q.2 r) ∙
          ap (λ (v : List ℕ). v ++ map (λ y. lift g (entry_of t.need y)) (drop n β)) c.kept-w.ensures.1 ∙
          ready_made t.levels t.gone a.t t.need p R g β q.0 q.1 q.2 r,
    )
