-- `table_reading::read_all` meets its contract and ends: what is kept is kept of some
-- input, and the number of turns that are left falls.
-- Assumes nothing.
use mathlib.Core.Path.{refl, sym, ap, ◌∙◌}
use mathlib.Core.List.{[]}
use Rattle.table_lines.specs.declared.input.Lines.{Lines}
use Rattle.table_lines.specs.Kept.{memory_of}
use Rattle.table_reading.specs.ReadLaws.{reads_on}
use borrow.Author.Rules.{rules}
use Rattle.table_reading.proofs.read_all.Goals as goal

pub loop-init : goal.loop-init
loop-init c =
    let a = c.args in
    record {
      reads =
          record {
            input = [];
            kept = ap (λ (k : Lines). memory_of k a.set.now a.scheme.now) c.nothing.ensures ∙ c.requires;
          };
      clean = λ e. refl;
      set_size = refl;
      scheme_size = refl;
      chunk_size = search rules;
    }

pub slice_bounds-read_some-end : goal.slice_bounds-read_some-end
slice_bounds-read_some-end c = sym c.loop.invariant.chunk_size

pub loop-preserved : goal.loop-preserved
loop-preserved c =
    let r = c.read_some-next in
    let l = c.loop in
    record {
      reads = reads_on _ _ l.invariant.reads r.ensures.kept;
      clean = r.ensures.error;
      set_size = (let k = l.invariant.set_size in search rules);
      scheme_size = (let k = l.invariant.scheme_size in search rules);
      chunk_size = (let k = l.invariant.chunk_size in search rules);
    }

pub shape_of-set-after-loop : goal.shape_of-set-after-loop
shape_of-set-after-loop c = c.loop.invariant.set_size

pub shape_of-scheme-after-loop : goal.shape_of-scheme-after-loop
shape_of-scheme-after-loop c = c.loop.invariant.scheme_size

pub returns-after-loop : goal.returns-after-loop
returns-after-loop c = record { kept = c.loop.invariant.reads; error = c.loop.invariant.clean }

pub shape_of-set-then-not-has_more : goal.shape_of-set-then-not-has_more
shape_of-set-then-not-has_more c =
    let l = c.loop in
    let k = l.invariant.set_size in
    search rules

pub shape_of-scheme-then-not-has_more : goal.shape_of-scheme-then-not-has_more
shape_of-scheme-then-not-has_more c =
    let l = c.loop in
    let k = l.invariant.scheme_size in
    search rules

pub returns-then-not-has_more : goal.returns-then-not-has_more
returns-then-not-has_more c =
    let r = c.read_some-next in
    let l = c.loop in
    record { kept = reads_on _ _ l.invariant.reads r.ensures.kept; error = r.ensures.error }
