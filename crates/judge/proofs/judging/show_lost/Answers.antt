-- `judge::judging::show_lost` meets its contract: the slice holds the set as it was given, and no
-- word writes nothing.
-- Assumes nothing.
use Prim.Native.Nat.{◌+◌, ◌≤◌}
use mathlib.Core.Path.{◌≡◌, sym, ap, ap₂, ◌∙◌}
use mathlib.Core.List.{[]}
use native.Mathlib.Omega.{arith}
use borrow.Author.Rules.{rules}
use lib.ListN.{length}
use lib.Seq.{length-take-le}
use Rattle.std.specs.Prelude.{Some, None}
use Rattle.word.specs.Ceilings.{DIGITS, PATTERNS, PREFIX, WORD}
use Rattle.forms.specs.SchemeMemory.{patterns_in}
use Rattle.forms.specs.SetMemory.{held_in}
use Rattle.text_page.specs.PageLaws.{start as unwritten, finish, writes_as}
use Rattle.verdict.specs.Witness.{witness_bytes}
use Rattle.scheme.specs.SetLaws.{slice_holds}
use Rattle.lost_word.specs.Shown.{ShowsWord, IsShort}
use Rattle.judge.proofs.LossLaws.{shows_nothing_lem, shows_some}
use Rattle.judge.proofs.judging.show_lost.Goals as goal
use Rattle.judge.proofs.judging.show_lost.Goals.{In-Some}

-- the word has room in its array
short : (c : In-Some) → (c.in-Some.word.length ≤ PREFIX + DIGITS) × (length c.in-Some.word.entries ≡ WORD)
short c =
    let known : IsShort (Some c.in-Some.word) = rw c.in-Some.is at c.requires.1 in
    let all : length c.in-Some.word.entries ≡ WORD = (let o = c.in-Some in search rules) in
    (known, all)

pub show_witness-requires : goal.show_witness-requires
show_witness-requires c =
    let word = c.in-Some.word in
    let (few, all) = short (goal.at.show_witness-requires c).In-Some in
    omega (arith, few, length-take-le word.length word.entries (omega (arith, few, all)))

pub returns-in-Some : goal.returns-in-Some
returns-in-Some c =
    let s = c.args.patterns in
    let all : length s.items ≡ PATTERNS = search rules in
    let holds : held_in c.as_slice.result.now ≡ patterns_in s = ap held_in c.as_slice.ensures ∙ slice_holds s c.requires.0 all in
    λ o t.
    let known : ShowsWord o (Some c.in-Some.word) = rw c.in-Some.is at t in
    writes_as c.show_witness.ensures (ap₂ witness_bytes holds (sym (shows_some o c.in-Some.word known)))

pub returns-in-None : goal.returns-in-None
returns-in-None c =
    λ o t.
    let known : ShowsWord o None = rw c.in-None.is at t in
    writes_as (finish (unwritten [] 0 c.args.page.now))
    (sym (ap (witness_bytes (patterns_in c.args.patterns)) (shows_nothing_lem o known)))
