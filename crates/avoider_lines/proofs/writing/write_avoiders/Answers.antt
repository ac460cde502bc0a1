-- `avoider_lines::writing::write_avoiders` meets its contract and ends: the lines that were written
-- and those to come are the list, and fewer are to come each turn.
-- Assumes nothing.
use native.Mathlib.Omega.{arith}
use mathlib.Core.Path.{sym, subst}
use mathlib.Core.List.{List}
use mathlib.Core.Option.{some}
use Prim.Native.Nat.{ℕ}
use Rattle.std.specs.Prelude.{Option}
use lib.ListN.{take}
use Rattle.word.specs.ListLaws.{true_not_false}
use Rattle.forms.specs.SchemeMemory.{patterns_in}
use Rattle.avoider_lines.specs.Followed.{shown}
use Rattle.avoider_lines.specs.FollowedLaws.{Follow, follow_start, follow_end, follow_most, listed_few}
use Rattle.avoider_lines.specs.FollowedLaws.{at_hand_is, lines_below, lines_more}
use Rattle.avoider_lines.proofs.writing.write_avoiders.Goals as goal
use Rattle.avoider_lines.proofs.writing.write_avoiders.Goals.{In-Some}

-- the avoider at hand
at_hand : (c : In-Some) → let a = c.args in
    Follow (patterns_in a.patterns) a.n (some (take a.n c.in-Some.word)) c.loop-found.lines
at_hand c =
    let a = c.args in
    let l = c.loop-found in
    subst (λ (o : Option (List ℕ)). Follow (patterns_in a.patterns) a.n (shown a.n o) l.lines) c.in-Some.is l.invariant

pub loop-found-init : goal.loop-found-init
loop-found-init c =
    let a = c.args in
    rw c.first_word-found.ensures (follow_start (patterns_in a.patterns) a.n)

pub write_line-requires : goal.write_line-requires
write_line-requires c =
    let a = c.args in
    at_hand_is (patterns_in a.patterns) a.n _ _ (at_hand (goal.at.write_line-requires c).In-Some)

pub returns-in-Err-clause-lines : goal.returns-in-Err-clause-lines
returns-in-Err-clause-lines c =
    let a = c.args in
    record {
      all = λ e. absurd (true_not_false (sym e));
      most = follow_most (patterns_in a.patterns) a.n _ _ c.loop-found.invariant;
    }

pub overflow_add-lines : goal.overflow_add-lines
overflow_add-lines c =
    let a = c.args in
    let P = patterns_in a.patterns in
    omega (arith, lines_below P a.n _ _ (at_hand (goal.at.overflow_add-lines c).In-Some), listed_few P a.n)

pub loop-found-smaller : goal.loop-found-smaller
loop-found-smaller c =
    let a = c.args in
    omega (arith, lines_below (patterns_in a.patterns) a.n _ _ (at_hand (goal.at.loop-found-smaller c).In-Some))

pub loop-found-preserved : goal.loop-found-preserved
loop-found-preserved c =
    let a = c.args in
    rw c.next_word-found.ensures (lines_more (patterns_in a.patterns) a.n _ _ (at_hand (goal.at.loop-found-preserved c).In-Some))

pub returns-clause-lines : goal.returns-clause-lines
returns-clause-lines c =
    let a = c.args in
    let l = c.loop-found in
    let P = patterns_in a.patterns in
    let none_left = subst (λ (o : Option (List ℕ)). Follow P a.n (shown a.n o) l.lines) c.in_default.is l.invariant in
    record {
      all = λ e. follow_end P a.n l.lines none_left;
      most = follow_most P a.n _ _ l.invariant;
    }
