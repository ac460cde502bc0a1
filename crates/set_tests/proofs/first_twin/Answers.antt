-- `set_tests::first_twin` meets its contract: the first item that an earlier one equals is the
-- first from the index on.
-- Assumes nothing.
use Prim.Native.Nat.{ℕ}
use mathlib.Core.Path.{◌≡◌, refl, sym, ap, ◌∙◌}
use mathlib.Core.Bool.{Bool, true, false, cond}
use native.Mathlib.Omega.{arith}
use lib.Dec.{ltb}
use Rattle.std.specs.Prelude.{Some, None, Err, is_some}
use Rattle.cell.specs.Basis.{same}
use Rattle.scheme.specs.WellFormed.{listed}
use Rattle.forms.specs.SchemeMemory.{fault_of}
use Rattle.scheme.specs.TestOrder.{place_in, seen}
use Rattle.forms.specs.declared.memory.Patterns.{Patterns}
use Rattle.scheme.specs.TestLaws.{twin_start, twin_here, twin_later, twin_end}
use Rattle.set_tests.specs.Twin.{nearest_twin, place_before}
use Rattle.set_tests.specs.TwinLaws.{nearest_seen}
use Rattle.set_tests.proofs.first_twin.Goals as goal
use Rattle.set_tests.proofs.first_twin.Goals.{After-is_some}

-- the nearest earlier item that is the same, and whether there is one
abbrev nearest : Patterns → ℕ → ℕ
nearest s i = nearest_twin (λ j. same (place_in s i) (place_in s j)) i

is_there : (s : Patterns) (i : ℕ) → ltb (nearest_twin (λ j. same (place_in s i) (place_in s j)) i) i ≡ listed (seen (place_in s) i)
    (place_in s i)
is_there s i = nearest_seen (same (place_in s i)) (place_in s) i

before : (n i : ℕ) → is_some (place_before i n) ≡ ltb n i
before n i = go (ltb n i)
  where
    go : (b : Bool) → is_some (cond b (Some n) None) ≡ b
    go true = refl
    go false = refl

-- what the test says of the item at the index
told : (c : After-is_some) → c.is_some.result ≡ listed (seen (place_in c.args.s) c.loop-i.i) (place_in c.args.s c.loop-i.i)
told c =
    let s = c.args.s in
    let i = c.loop-i.i in
    c.is_some.ensures ∙ ap is_some c.earlier_twin.ensures ∙ before (nearest s i) i ∙ is_there s i

pub loop-i-init : goal.loop-i-init
loop-i-init c = let s = c.args.s in twin_start listed (place_in s) s.count

pub returns-then-is_some : goal.returns-then-is_some
returns-then-is_some c =
    let s = c.args.s in
    let l = c.loop-i in
    ap Err c.at.ensures ∙
    ap fault_of (sym (l.invariant ∙ twin_here listed (place_in s) s.count l.i (omega arith)
    (sym (told (goal.at.returns-then-is_some c).After-is_some) ∙ c.if-is_some.true)))

pub loop-i-preserved : goal.loop-i-preserved
loop-i-preserved c =
    let s = c.args.s in
    let l = c.loop-i in
    l.invariant ∙ twin_later listed (place_in s) s.count l.i (omega arith)
    (sym (told (goal.at.loop-i-preserved c).After-is_some) ∙ c.if-is_some.false)

pub returns : goal.returns
returns c =
    let s = c.args.s in
    let l = c.loop-i in
    ap fault_of (sym (l.invariant ∙ twin_end listed (place_in s) s.count l.i (omega arith)))
