-- `scheme::links::codes_of` meets its contract: the codes up to the index are those of their
-- entries.
-- Assumes nothing.
use Prim.Native.Nat.{ℕ, ◌≤◌, ◌<◌}
use mathlib.Core.Path.{refl, ◌∙◌}
use native.Mathlib.Omega.{arith}
use lib.ListN.{length-set}
use Rattle.word.specs.Ceilings.{ENTRIES}
use Rattle.forms.specs.Codes.{IsCode}
use Rattle.forms.specs.CodeLaws.{codes_made}
use Rattle.forms.specs.MemoryLaws.{rows_more}
use Rattle.scheme.proofs.LookupLaws.{prefix_at, prefixes_at}
use Rattle.scheme.proofs.links.codes_of.Goals as goal

pub loop-i-init : goal.loop-i-init
loop-i-init c = (refl, λ j h. absurd (omega arith))

pub entry_code-requires : goal.entry_code-requires
entry_code-requires c = c.requires.each c.loop-i.i (omega arith)

pub loop-i-preserved : goal.loop-i-preserved
loop-i-preserved c =
    let s = c.args.s in
    let l = c.loop-i in
    let few : s.count ≤ ENTRIES = c.requires.few in
    let x = c.entry_code.result in (
      length-set l.codes l.i x ∙ l.invariant.0,
      rows_more (λ (j y : ℕ). IsCode (prefix_at s j) y) l.codes 0 l.i x (omega (arith, l.invariant.0))
          c.entry_code.ensures l.invariant.1,
    )

pub returns : goal.returns
returns c =
    let s = c.args.s in
    let l = c.loop-i in
    let few : s.count ≤ ENTRIES = c.requires.few in
    let made = codes_made (prefix_at s) s.count l.codes (omega (arith, l.invariant.0))
    (λ (j : ℕ) (h : j < s.count). l.invariant.1 j (omega arith)) in
    (l.invariant.0, rw (prefixes_at s) made)
