-- `lost_word::least::violating_word` meets its contract: the word is made with nothing gone.
-- Assumes nothing.
use Rattle.std.proofs.Common.{◌≡◌, ◌≤◌, ◌<◌, sym, ◌∙◌, arith, [], length, take, length-take, get_or}
use Rattle.std.proofs.Math.ListN.{get_or-map}
use Rattle.std.proofs.lemmas.List.{length-map}
use Rattle.forms.specs.SchemeMemory.{no_pattern}
use Rattle.forms.specs.SetMemory.{held, held_in}
use Rattle.forms.specs.HeldLaws.{held_few}
use Rattle.lost_word.proofs.LeastWalk.{word_none, word_some, whole_made}
use Rattle.lost_word.proofs.least.violating_word.Goals as goal
use Rattle.lost_word.proofs.least.violating_word.Goals.{After-as_slice-pattern}

-- the pattern at the index, as the set has it
here : (c : After-as_slice-pattern) → get_or (held_in c.args.patterns.now) c.args.i [] ≡ c.as_slice-pattern.result.now
here c = get_or-map held c.args.patterns.now c.args.i no_pattern ∙ sym c.as_slice-pattern.ensures

eight : (c : After-as_slice-pattern) → length c.as_slice-pattern.result.now ≤ 8
eight c = rw c.as_slice-pattern.ensures (held_few (get_or c.args.patterns.now c.args.i no_pattern))

-- it is longer than the total
longer : (c : After-as_slice-pattern) → c.args.spot.now.total < length c.as_slice-pattern.result.now
longer c = rw (here c) at (c.violates.ensures.1 c.if-not-violates.false)

pub returns-then-not-violates : goal.returns-then-not-violates
returns-then-not-violates c =
    let a = c.args in
    let s = a.spot.now in (
      tt,
      word_none (held_in a.patterns.now) a.needs.now (take s.length s.prefix) s.gone s.levels s.total a.i
          (rw c.if-not-violates.true at c.violates.ensures.0),
    )

pub whole_word-requires : goal.whole_word-requires
whole_word-requires c =
    let s = c.args.spot.now in
    let p = (goal.at.whole_word-requires c).After-as_slice-pattern in
    (omega (arith, length-take s.length s.prefix, c.requires.2), omega (arith, longer p), eight p)

pub returns : goal.returns
returns c =
    let a = c.args in
    let s = a.spot.now in
    let p = (goal.at.returns c).After-as_slice-pattern in
    let w = c.whole_word.result in
    let inside : a.i < length (held_in a.patterns.now) = omega (arith, length-map a.patterns.now held, c.requires.1) in (
      c.whole_word.ensures.0,
      word_some (held_in a.patterns.now) a.needs.now (take s.length s.prefix) s.gone s.levels s.total a.i w
          (rw c.if-not-violates.false at c.violates.ensures.0)
          (whole_made (held_in a.patterns.now) a.needs.now (take s.length s.prefix) s.gone s.levels s.total a.i inside
          (rw (here p) (eight p)) (rw (here p) (omega (arith, longer p)))
          (take w.length w.entries) (rw (sym (here p), c.need_at-need.ensures) at c.whole_word.ensures.1)),
    )
