-- `judge::deletions::irreversible_fault` meets its contract: the first entry at fault is the first
-- one from the index on.
-- Assumes nothing.
use mathlib.Core.Path.{◌≡◌, sym, ap, ◌∙◌}
use native.Mathlib.Omega.{arith}
use Rattle.std.specs.Prelude.{Err, Some, None, is_some}
use Rattle.word.specs.declared.refusal.Refusal.TheVariants.{Irreversible}
use Rattle.forms.specs.SchemeMemory.{fault_of, entry_at}
use Rattle.forms.specs.SetMemory.{held_in}
use Rattle.scheme.specs.TestLaws.{first_start, first_here, first_later, first_end}
use Rattle.scheme.specs.ProperLaws.{proper_count, proper_at}
use Rattle.judge.proofs.EntryWalkLaws.{differing_entry}
use Rattle.judge.proofs.LossLaws.{indexed_scheme}
use Rattle.judge.proofs.deletions.irreversible_fault.Goals as goal

pub loop-i-init : goal.loop-i-init
loop-i-init c =
    let a = c.args in (
      proper_count a.s c.requires.3,
      first_start Irreversible (differing_entry a.m (held_in a.patterns.now)) (entry_at a.s) a.s.count,
    )

pub is_irreversible-lost-requires : goal.is_irreversible-lost-requires
is_irreversible-lost-requires c =
    let q = c.requires in
    (c.all_needs-needs.ensures, q.0, q.1, q.2, proper_at c.args.s q.3 c.loop-i.i (omega arith))

pub returns-in-Some : goal.returns-in-Some
returns-in-Some c =
    let a = c.args in
    let l = c.loop-i in
    let P = held_in a.patterns.now in
    let answer = c.is_irreversible-lost.ensures in
    let is : c.is_irreversible-lost.result ≡ Some c.in-Some.word = c.in-Some.is in
    record {
      found = ap Err c.at.ensures ∙ sym (ap fault_of (l.invariant.1 ∙
          first_here Irreversible (differing_entry a.m P) (entry_at a.s) a.s.count l.i
          (omega arith) (sym answer.said ∙ ap is_some is)));
      shows = rw (c.at.ensures, indexed_scheme a.s l.i (omega arith)) (rw is at answer.shows);
    }

pub loop-i-preserved : goal.loop-i-preserved
loop-i-preserved c =
    let a = c.args in
    let l = c.loop-i in
    let P = held_in a.patterns.now in
    let is : c.is_irreversible-lost.result ≡ None = c.in_default.is in (
      l.invariant.0,
      l.invariant.1 ∙ first_later Irreversible (differing_entry a.m P) (entry_at a.s)
          a.s.count l.i (omega arith) (sym c.is_irreversible-lost.ensures.said ∙ ap is_some is),
    )

pub returns : goal.returns
returns c =
    let a = c.args in
    let l = c.loop-i in
    let P = held_in a.patterns.now in
    record {
      found = sym (ap fault_of
          (l.invariant.1 ∙ first_end Irreversible (differing_entry a.m P) (entry_at a.s) a.s.count l.i (omega arith)));
      shows = tt;
    }
