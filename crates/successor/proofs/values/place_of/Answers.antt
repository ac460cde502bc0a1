-- `successor::values::place_of` meets its contract: what is still to come has the value exactly
-- if the entries from the place i on have it.
-- Assumes nothing.
use Prim.Native.Nat.{ℕ, ◌≤◌}
use mathlib.Core.Path.{◌≡◌, ap, ◌∙◌}
use native.Mathlib.Omega.{arith}
use lib.ListN.{length, take, drop}
use borrow.Author.Rules.{rules}
use Rattle.std.proofs.lemmas.Option.{none-some}
use Rattle.word.specs.Ceilings.{WORD}
use Rattle.word.specs.Word.{has}
use Rattle.successor.specs.WordLaws.{has_later, has_end}
use Rattle.successor.proofs.values.place_of.Goals as goal

pub loop-j-preserved : goal.loop-j-preserved
loop-j-preserved c =
    let a = c.args in
    let l = c.loop-j in
    let long : length a.word ≡ WORD = search rules in
    let room : a.n ≤ length a.word = omega (arith, long) in
    l.invariant ∙ has_later a.word a.n l.j a.value (omega arith) room c.if-word-j.false

pub returns : goal.returns
returns c =
    let a = c.args in
    let l = c.loop-j in
    let long : length a.word ≡ WORD = search rules in
    let room : a.n ≤ length a.word = omega (arith, long) in
    let whole : l.j ≡ a.n = omega arith in
    record {
      from = λ j e. absurd (none-some j e);
      to = λ j e. absurd (none-some j e);
      there = λ j e. absurd (none-some j e);
      nowhere = λ e. l.invariant ∙ ap (λ (m : ℕ). has a.value (drop m (take a.n a.word))) whole ∙
          has_end a.word a.n a.value room;
    }
