-- `basis::longest_length` meets its contract: the longest is the longest of those seen and of those
-- from the index on.
-- Assumes nothing.
use Prim.Native.Nat.{max}
use mathlib.Core.Path.{◌≡◌, ap, ◌∙◌}
use native.Mathlib.Omega.{arith}
use lib.ListN.{length, get_or}
use Rattle.forms.specs.SchemeMemory.{no_pattern}
use Rattle.forms.specs.SetMemory.{held}
use Rattle.forms.specs.HeldLaws.{held_few}
use Rattle.basis.proofs.BasisWalk.{longest_turn, longest_end}
use Rattle.basis.proofs.longest_length.Goals as goal

pub loop-pattern-preserved : goal.loop-pattern-preserved
loop-pattern-preserved c =
    let s = c.args.patterns.now in
    let l = c.loop-pattern in
    let larger : c.max-m.result ≡ max l.m (length (held (get_or s l.pattern-index no_pattern))) =
    c.max-m.ensures ∙ ap (λ k. max l.m (length k)) c.as_slice.ensures in (
      rw larger (longest_turn s l.m l.pattern-index l.invariant.0 no_pattern (omega arith)),
      omega (arith, c.max-m.ensures, larger, l.invariant.1, held_few (get_or s l.pattern-index no_pattern)),
    )

pub returns : goal.returns
returns c =
    let l = c.loop-pattern in
    (longest_end c.args.patterns.now l.m l.pattern-index l.invariant.0 (omega arith), l.invariant.1)
