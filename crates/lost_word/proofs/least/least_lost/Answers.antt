-- `lost_word::least::least_lost` meets its contract: the least word is that of the best so far and
-- of the patterns from the index on.
-- Assumes nothing.
use Rattle.std.proofs.Common.{◌≡◌, ◌+◌, suc, rules, arith, length, take}
use Rattle.std.proofs.lemmas.List.{length-map}
use lib.Seq.{length-take-le}
use Rattle.word.specs.Ceilings.{PREFIX, COMPONENTS}
use Rattle.forms.specs.SetMemory.{held, held_in}
use Rattle.lost_word.proofs.LeastWalk.{kept_start, kept_next, kept_end}
use Rattle.lost_word.proofs.least.least_lost.Goals as goal
use Rattle.lost_word.proofs.least.least_lost.Goals.{Start}

-- the spacing has one component more than the prefix has entries
size : (start : Start) → length (take (start.args.deletion.length + 1) start.args.lost.spacing)
    ≡ suc (length (take start.args.deletion.length start.args.deletion.prefix))
size start =
    let d = start.args.deletion in
    let six : length d.prefix ≡ PREFIX = (let o = start.well_formed in search rules) in
    let seven : length start.args.lost.spacing ≡ COMPONENTS = (let o = start.well_formed in search rules) in
    omega (
      arith,
      length-take-le (d.length + 1) start.args.lost.spacing (omega (arith, start.requires.1)),
      length-take-le d.length d.prefix (omega (arith, start.requires.1)),
    )

pub deleted_values-gone-requires : goal.deleted_values-gone-requires
deleted_values-gone-requires c = (c.requires.3.short, c.requires.3.perm, c.requires.3.inside)

pub levels_of-levels-requires : goal.levels_of-levels-requires
levels_of-levels-requires c =
    (omega (arith, size (goal.at.levels_of-levels-requires c).Start, c.requires.3.short), omega (arith, c.requires.4, c.requires.5))

pub loop-i-init : goal.loop-i-init
loop-i-init c =
    let a = c.args in
    let d = a.deletion in (
      tt,
      kept_start (held_in a.patterns.now) a.needs.now (take d.length d.prefix)
          c.deleted_values-gone.result c.levels_of-levels.result a.lost.total,
    )

pub violating_word-word-requires : goal.violating_word-word-requires
violating_word-word-requires c =
    (omega (arith, length-map c.args.patterns.now held, c.requires.3.few), omega arith, c.requires.1, c.requires.4, c.requires.0.sized)

pub loop-i-preserved : goal.loop-i-preserved
loop-i-preserved c =
    let a = c.args in
    let d = a.deletion in
    let l = c.loop-i in
    let v = c.lesser_word-best in (
      v.ensures.1,
      kept_next (held_in a.patterns.now) a.needs.now (take d.length d.prefix)
          c.deleted_values-gone.result c.levels_of-levels.result a.lost.total l.best c.violating_word-word.result v.result l.i l.invariant.1
          (omega (arith, length-map a.patterns.now held)) c.violating_word-word.ensures.1 v.ensures.0,
    )

pub returns : goal.returns
returns c =
    let a = c.args in
    let d = a.deletion in
    let l = c.loop-i in
    let s = size (goal.at.returns c).Start in
    kept_end (held_in a.patterns.now) a.needs.now (take d.length d.prefix)
    c.deleted_values-gone.result c.levels_of-levels.result a.lost.total l.best l.i l.invariant.1
    (omega (arith, length-map a.patterns.now held)) l.invariant.0
    (take d.position_count d.positions) (take (d.length + 1) a.lost.spacing)
    (record {
      given = c.requires.3;
      flags = c.deleted_values-gone.ensures;
      size = s;
      whole = c.requires.5;
      said = λ v b. c.levels_of-levels.ensures v (omega (arith, s));
      needed = c.requires.0.said a.lost.total c.requires.4;
    })
