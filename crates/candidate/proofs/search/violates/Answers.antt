-- `candidate::search::violates` meets its contract: the pattern's length, its hit and its candidate
-- decide.
-- Assumes nothing.
use Rattle.std.proofs.Common.{◌≡◌, ◌≤◌, ◌<◌, Bool, true, false, true≢false, not, refl, sym, ◌∙◌, arith, [], length, take}
use Rattle.std.proofs.Common.{length-take, get_or}
use Rattle.std.proofs.Math.ListN.{get_or-map}
use Rattle.std.proofs.lemmas.List.{length-map}
use Rattle.forms.specs.SchemeMemory.{no_pattern}
use Rattle.forms.specs.SetMemory.{held, held_in}
use Rattle.forms.specs.HeldLaws.{held_few}
use Rattle.candidate.proofs.CandidateWalk.{violates_short, violates_not, violates_by, word_made}
use Rattle.candidate.proofs.search.violates.Goals as goal
use Rattle.candidate.proofs.search.violates.Goals.{After-as_slice-pattern}

turned : (a r : Bool) → r ≡ not a → a ≡ not r
turned true r e = rw e refl
turned false r e = rw e refl

-- the pattern at the index, as the set has it
here : (c : After-as_slice-pattern) → get_or (held_in c.args.patterns.now) c.args.i [] ≡ c.as_slice-pattern.result.now
here c = get_or-map held c.args.patterns.now c.args.i no_pattern ∙ sym c.as_slice-pattern.ensures

eight : (c : After-as_slice-pattern) → length c.as_slice-pattern.result.now ≤ 8
eight c = rw c.as_slice-pattern.ensures (held_few (get_or c.args.patterns.now c.args.i no_pattern))

inside : (c : After-as_slice-pattern) → c.args.i < length (held_in c.args.patterns.now)
inside c = omega (arith, length-map c.args.patterns.now held, c.requires.1)

pub returns-then-pattern-t : goal.returns-then-pattern-t
returns-then-pattern-t c =
    let a = c.args in
    let s = a.spot.now in
    let p = (goal.at.returns-then-pattern-t c).After-as_slice-pattern in (
      violates_short (held_in a.patterns.now) a.needs.now (take s.length s.prefix) s.gone s.levels s.total a.i (inside p)
          (rw (here p) (eight p)) (rw (here p) (omega arith)),
      λ e. absurd (true≢false (sym e)),
    )

pub hits-requires : goal.hits-requires
hits-requires c = eight (goal.at.hits-requires c).After-as_slice-pattern

pub returns-then-not-hits : goal.returns-then-not-hits
returns-then-not-hits c =
    let a = c.args in
    let s = a.spot.now in
    let p = (goal.at.returns-then-not-hits c).After-as_slice-pattern in (
      violates_not (held_in a.patterns.now) a.needs.now (take s.length s.prefix) s.gone s.levels s.total a.i (inside p)
          (rw (here p) (eight p)) c.hits.result
          (rw (sym (here p), c.need_at-need.ensures) at c.hits.ensures) c.if-not-hits.true,
      λ e. absurd (true≢false (sym e)),
    )

pub candidate_word-w-requires : goal.candidate_word-w-requires
candidate_word-w-requires c =
    let s = c.args.spot.now in (
      omega (arith, length-take s.length s.prefix, c.requires.2),
      omega arith,
      eight (goal.at.candidate_word-w-requires c).After-as_slice-pattern,
    )

pub returns : goal.returns
returns c =
    let a = c.args in
    let s = a.spot.now in
    let p = (goal.at.returns c).After-as_slice-pattern in
    let w = c.candidate_word-w in
    let word = take w.result.length w.result.entries in
    let made = word_made (held_in a.patterns.now) a.needs.now (take s.length s.prefix) s.gone s.levels s.total a.i (inside p)
    (rw (here p) (eight p)) (rw (here p) (omega arith))
    word (rw (sym (here p), c.need_at-need.ensures) at w.ensures.1) in (
      violates_by (held_in a.patterns.now) a.needs.now (take s.length s.prefix) s.gone s.levels s.total a.i (inside p)
          (rw (here p) (eight p)) c.hits.result
          (rw (sym (here p), c.need_at-need.ensures) at c.hits.ensures) c.if-not-hits.false word made (not c.contained_by.result)
          (turned _ _ c.contained_by.ensures),
      λ e. rw (here p) (omega arith),
    )
