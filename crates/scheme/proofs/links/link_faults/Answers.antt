-- `scheme::links::link_faults` meets its contract: each finding so far, and what the entries from
-- the index on add.
-- Assumes nothing.
use Prim.Native.Nat.{◌<◌}
use native.Mathlib.Omega.{arith}
use Rattle.word.specs.declared.refusal.Refusal.TheVariants.{Childless, NoTarget}
use Rattle.forms.specs.SchemeMemory.{scheme_in, fault_of}
use Rattle.scheme.specs.WellFormed.{child_test, target_test}
use Rattle.scheme.specs.TestLaws.{first_from, noted_start, noted_more, noted_end, first_step, first_end}
use Rattle.scheme.specs.Links.{prefixes_in}
use Rattle.scheme.proofs.LookupLaws.{entry_at}
use Rattle.scheme.proofs.links.link_faults.Invariants.{noChild, noTarget}
use Rattle.scheme.proofs.links.link_faults.Goals as goal

pub loop-i-init : goal.loop-i-init
loop-i-init c =
    let s = c.args.s in
    (noted_start Childless (noChild s) (entry_at s) s.count, noted_start NoTarget (noTarget s) (entry_at s) s.count)

pub lacks_child-requires : goal.lacks_child-requires
lacks_child-requires c = c.requires.0.linked c.loop-i.i (omega arith)

pub lacks_target-requires : goal.lacks_target-requires
lacks_target-requires c = c.requires.0.linked c.loop-i.i (omega arith)

pub loop-i-preserved : goal.loop-i-preserved
loop-i-preserved c =
    let l = c.loop-i in
    let s = c.args.s in
    let w = c.requires.1 in
    let h : l.i < s.count = omega arith in (
      noted_more Childless (λ i. noChild s (entry_at s i)) s.count (first_from Childless (noChild s) (entry_at s) s.count)
          (first_step (entry_at s) s.count Childless (noChild s)) (fault_of (child_test (scheme_in s))) l.i l.child c.noted-child.result
          c.lacks_child.result h l.invariant.0 (c.lacks_child.ensures (prefixes_in s) w) c.noted-child.ensures,
      noted_more NoTarget (λ i. noTarget s (entry_at s i)) s.count (first_from NoTarget (noTarget s) (entry_at s) s.count)
          (first_step (entry_at s) s.count NoTarget (noTarget s)) (fault_of (target_test (scheme_in s))) l.i
          l.target c.noted-target.result
          c.lacks_target.result h l.invariant.1 (c.lacks_target.ensures (prefixes_in s) w) c.noted-target.ensures,
    )

pub returns : goal.returns
returns c =
    let s = c.args.s in
    let l = c.loop-i in (
      noted_end l.child (fault_of (child_test (scheme_in s))) (first_from Childless (noChild s) (entry_at s) s.count l.i)
          (first_end Childless (noChild s) (entry_at s) s.count l.i (omega arith)) l.invariant.0,
      noted_end l.target (fault_of (target_test (scheme_in s))) (first_from NoTarget (noTarget s) (entry_at s) s.count l.i)
          (first_end NoTarget (noTarget s) (entry_at s) s.count l.i (omega arith)) l.invariant.1,
    )
