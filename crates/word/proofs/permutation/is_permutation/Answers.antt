-- `word::permutation::is_permutation` meets its contract: the list is a permutation if what is left
-- of it is listed.
-- Assumes nothing.
use Prim.Native.Nat.{◌<◌, ◌≤◌}
use mathlib.Core.Path.{sym, ◌∙◌}
use native.Mathlib.Omega.{arith}
use lib.ListN.{length, get_or}
use Rattle.word.proofs.Listed.{listed_whole, listed_none, listed_above, listed_twice, listed_next, listed_end}
use Rattle.word.proofs.permutation.is_permutation.Goals as goal

pub loop-i-init : goal.loop-i-init
loop-i-init c = listed_whole c.args.s.now

pub returns-then-x-eq0 : goal.returns-then-x-eq0
returns-then-x-eq0 c =
    let s = c.args.s.now in
    let l = c.loop-i in
    sym (l.invariant ∙ listed_none (length s) s l.i (omega arith) c.if-x-eq0.true)

pub returns-then-s-from : goal.returns-then-s-from
returns-then-s-from c =
    let s = c.args.s.now in
    let l = c.loop-i in
    let above : length s < get_or s l.i 0 = omega arith in
    sym (l.invariant ∙ listed_above (length s) s l.i (omega arith) above)

pub returns-then-stands_from : goal.returns-then-stands_from
returns-then-stands_from c =
    let s = c.args.s.now in
    let l = c.loop-i in
    sym (l.invariant ∙ listed_twice (length s) s l.i (omega arith) (sym c.stands_from.ensures ∙ c.if-stands_from.true))

pub loop-i-preserved : goal.loop-i-preserved
loop-i-preserved c =
    let s = c.args.s.now in
    let l = c.loop-i in
    let inside : get_or s l.i 0 ≤ length s = omega arith in
    l.invariant ∙ listed_next (length s) s l.i (omega arith) c.if-x-eq0.false inside (sym c.stands_from.ensures ∙ c.if-stands_from.false)

pub returns : goal.returns
returns c =
    let s = c.args.s.now in
    let l = c.loop-i in
    sym (l.invariant ∙ listed_end (length s) s l.i (omega arith))
