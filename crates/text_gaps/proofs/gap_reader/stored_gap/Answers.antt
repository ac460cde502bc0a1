-- `text_gaps::gap_reader::stored_gap` meets its contract: within the arrays the vector is stored,
-- behind them only counted.
-- Assumes nothing.
use Prim.Native.Nat.{◌*◌, ◌≤◌}
use mathlib.Core.Path.{◌≡◌}
use native.Mathlib.Omega.{arith}
use lib.ListN.{length}
use Rattle.word.specs.Ceilings.{COMPONENTS, GAPS, PARTS}
use Rattle.text_gaps.proofs.GapTextLaws.{gap_kept, gap_counted}
use borrow.Author.Rules.{rules}
use Rattle.text_gaps.proofs.gap_reader.stored_gap.Goals as goal

pub returns-then-n-lt-GAPS : goal.returns-then-n-lt-GAPS
returns-then-n-lt-GAPS c =
    let a = c.args in
    gap_kept a.gaps a.g c.with_gap-stored.result c.part-w.result c.with_gap-stored.ensures c.part-w.ensures

pub returns : goal.returns
returns c =
    let a = c.args in
    let parts : length a.gaps.parts ≡ PARTS = search rules in
    let widths : length a.gaps.widths ≡ GAPS = search rules in
    let beyond : length a.gaps.parts ≤ COMPONENTS * a.gaps.count = omega arith in
    gap_counted a.gaps a.g beyond (omega arith)
