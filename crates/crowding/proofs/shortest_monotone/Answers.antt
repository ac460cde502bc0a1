-- `crowding::shortest_monotone` meets its contract: the shortest of the patterns before the index,
-- and of those from there on.
-- Assumes nothing.
use Prim.Native.Nat.{ℕ, ◌+◌}
use mathlib.Core.Path.{sym, ap, ◌∙◌}
use native.Mathlib.Omega.{arith}
use lib.ListN.{drop}
use Rattle.forms.specs.SchemeMemory.{no_pattern}
use Rattle.forms.specs.SetMemory.{held_in}
use Rattle.crowding.specs.Crowding.{shorter, shortest}
use Rattle.crowding.proofs.PatternLaws.{shortest_start, shortest_end, shortest_more}
use Rattle.crowding.proofs.shortest_monotone.Goals as goal

pub loop-p-init : goal.loop-p-init
loop-p-init c = (shortest_start c.args.up (held_in c.args.patterns.now), omega arith)

pub loop-p-preserved : goal.loop-p-preserved
loop-p-preserved c =
    let a = c.args in
    let s = a.patterns.now in
    let l = c.loop-p in
    let next = c.monotone_length in (
      l.invariant.0 ∙ shortest_more a.up s l.p-index l.best next.result no_pattern (omega arith) next.ensures.0 ∙
          ap (λ (b : ℕ). shorter b (shortest a.up (held_in (drop (l.p-index + 1) s)))) (sym c.shorter_of-best.ensures.0),
      c.shorter_of-best.ensures.1,
    )

pub returns : goal.returns
returns c =
    let a = c.args in
    let l = c.loop-p in
    (sym (l.invariant.0 ∙ shortest_end a.up l.best a.patterns.now l.p-index (omega arith)), l.invariant.1)
