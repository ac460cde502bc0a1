-- `forms::codes::code_of` meets its contract: the digits from the index on are coded.
-- Assumes nothing.
use Prim.Native.Nat.{◌<◌}
use mathlib.Core.Path.{◌≡◌}
use borrow.Author.Rules.{rules}
use native.Mathlib.Omega.{arith}
use Rattle.forms.proofs.CodeWalk.{coding_start, coding_fits, coding_more}
use Rattle.forms.proofs.codes.code_of.Goals as goal
use Rattle.forms.proofs.codes.code_of.Goals.{At-loop-j}

-- there is room for one digit more
room : (c : At-loop-j) → 0 < c.loop-j.j → c.loop-j.code < 2199023255552
room c h = coding_fits c.args.digits.now c.loop-j.j c.loop-j.code c.loop-j.invariant c.requires h

pub loop-j-init : goal.loop-j-init
loop-j-init c = coding_start c.args.digits.now

pub overflow_mul-code : goal.overflow_mul-code
overflow_mul-code c = omega (arith, room (goal.at.overflow_mul-code c).At-loop-j (omega arith))

pub overflow_add-code : goal.overflow_add-code
overflow_add-code c = omega (arith, room (goal.at.overflow_add-code c).At-loop-j (omega arith))

pub loop-j-preserved : goal.loop-j-preserved
loop-j-preserved c =
    coding_more c.args.digits.now c.loop-j.j c.loop-j.code c.loop-j.invariant c.from.result (omega arith)
    c.from.ensures (search rules)

pub returns : goal.returns
returns c =
    let l = c.loop-j in
    let none : l.j ≡ 0 = omega arith in
    record {
      short = c.requires;
      bytes = rw none at l.invariant.bytes;
      is = rw none at l.invariant.is;
    }
