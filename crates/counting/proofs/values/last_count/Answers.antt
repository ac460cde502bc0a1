-- `counting::values::last_count` meets its contract.
-- Assumes nothing.
use native.Mathlib.Omega.{arith}
use mathlib.Core.Path.{ap, ◌∙◌}
use Rattle.count_rows.specs.Run.{cleared}
use Rattle.counting.proofs.TableLaws.{root_given, room_is, last_value}
use Rattle.counting.proofs.values.last_count.Goals as goal

pub last_value-requires : goal.last_value-requires
last_value-requires c =
    let a = c.args in
    let g = c.requires.0 in
    let w = c.write_plan-root in (
      root_given a.patterns a.scheme a.m a.table.now g w.new.sheet w.ensures.sheet w.result w.ensures.root,
      omega (
        arith,
        room_is a.patterns a.scheme a.m a.table.now g w.new.sheet w.ensures.sheet w.result w.ensures.root,
        g.room,
      ),
      c.requires.1,
    )

pub returns : goal.returns
returns c =
    let a = c.args in
    let g = c.requires.0 in
    let w = c.write_plan-root in
    let x = c.last_value in
    let o = root_given a.patterns a.scheme a.m a.table.now g w.new.sheet w.ensures.sheet w.result w.ensures.root in
    record {
      count = last_value a.patterns a.scheme a.m a.table.now g w.new.sheet w.ensures.sheet w.result w.ensures.root x.result
          (x.ensures.value o);
      table = x.ensures.table ∙
          ap (λ n. cleared n a.table.now)
          (room_is a.patterns a.scheme a.m a.table.now g w.new.sheet w.ensures.sheet w.result w.ensures.root);
    }
