-- `text_patterns::digits::put_digits` meets its contract: the digits so far are the front of the
-- run.
-- Assumes nothing.
use Prim.Native.Nat.{◌+◌, ◌-◌, ◌<◌}
use mathlib.Core.Path.{refl, ◌∙◌}
use native.Mathlib.Omega.{arith}
use lib.ListN.{length, get_or, drop, length-set}
use Rattle.text_grammar.specs.Tokens.{run}
use Rattle.text_patterns.proofs.FilledLaws.{digits_in, digits_next, digits_all, digits_full}
use Rattle.text_patterns.proofs.digits.put_digits.Goals as goal

pub loop-i-init : goal.loop-i-init
loop-i-init c = (refl, refl)

pub shape_of-digits-then-len-i : goal.shape_of-digits-then-len-i
shape_of-digits-then-len-i c = c.loop-i.invariant.0

pub returns-then-len-i : goal.returns-then-len-i
returns-then-len-i c =
    let l = c.loop-i in
    digits_all c.args.digits.now (run (drop c.args.from c.args.s.now)) l.digits l.i
    l.invariant.1 (omega (arith, c.requires))

pub overflow_add-k : goal.overflow_add-k
overflow_add-k c =
    let l = c.loop-i in
    let a = c.args in
    let h : l.i < length (run (drop a.from a.s.now)) = omega (arith, c.requires) in
    omega (arith, (digits_in a.s.now a.from l.i h).2)

pub bounds-s-k : goal.bounds-s-k
bounds-s-k c =
    let l = c.loop-i in
    let a = c.args in
    let h : l.i < length (run (drop a.from a.s.now)) = omega (arith, c.requires) in
    (digits_in a.s.now a.from l.i h).2

pub overflow_sub-digits : goal.overflow_sub-digits
overflow_sub-digits c =
    let l = c.loop-i in
    let a = c.args in
    let h : l.i < length (run (drop a.from a.s.now)) = omega (arith, c.requires) in
    (digits_in a.s.now a.from l.i h).1

pub loop-i-preserved : goal.loop-i-preserved
loop-i-preserved c =
    let l = c.loop-i in
    let a = c.args in
    let h : l.i < length (run (drop a.from a.s.now)) = omega (arith, c.requires) in
    let value = get_or a.s.now (a.from + l.i) 0 - 48 in (
      length-set l.digits l.i value ∙ l.invariant.0,
      digits_next a.digits.now (run (drop a.from a.s.now)) l.digits l.i l.invariant.1 value h
          (digits_in a.s.now a.from l.i h).0,
    )

pub shape_of-digits : goal.shape_of-digits
shape_of-digits c = c.loop-i.invariant.0

pub returns : goal.returns
returns c =
    let l = c.loop-i in
    let a = c.args in
    digits_full a.digits.now (run (drop a.from a.s.now)) l.digits l.i l.invariant.1 (omega (arith, l.invariant.0))
